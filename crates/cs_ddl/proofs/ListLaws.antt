-- Lists of parts keep the laws. `tr` says whether a comma may be trailing.
use Rattle.std.proofs.Common.{◌≡◌, ◌≤◌, ◌+◌, ℕ, zero, suc, Bool, true, false, cond, ◌||◌, inl, inr, List, [], ◌∷◌, ◌++◌, length, Result, Ok, Err, refl, sym, ap, subst, ◌∙◌, append_assoc, arith}
use Rattle.std.proofs.lemmas.List.{append-nil, length-append}
use Rattle.cs_ddl.specs.declared.token.Kind.TheVariants.{Comma, Close}
use Rattle.cs_ddl.specs.Token.{Lexeme, is_kind}
use Rattle.cs_ddl.specs.Reading.{Read, ◌>>=◌, behind, starts_with_sign}
use Rattle.cs_ddl.specs.Lists.{parts_at, list_at, with_front, ends_behind}
use Rattle.cs_ddl.specs.Grammar.{Part, Matches, others, separated, trail}
use Rattle.cs_ddl.proofs.Alone.{AllAlone}
use Rattle.cs_ddl.proofs.Laws.{bind_ok, bind_err, done, ok_is, SameHead, SameHead-front, Matches-append, Opens, Took, Failed, Laws, any, chosen, starts_is, starts-same, head_of}

-- a part has a token at least
pub record IsLong {A : Type 0} (spell : A → List Part) : Type 0 where
  pub no : (a : A) (more : List Part) → Matches (spell a ++ more) [] → ⊥

-- ---- texts of lists

abbrev pub spelled_list : {A : Type 0} → Bool → (A → List Part) → List A → List Part
spelled_list tr spell xs = separated spell xs ++ trail tr

trail_none : (tr : Bool) → Matches (trail tr) []
trail_none true = tt
trail_none false = tt

single : {A : Type 0} (tr : Bool) (spell : A → List Part) (x : A) (ss : List Lexeme) → Matches (spell x) ss → Matches (spelled_list tr spell (x ∷ [])) ss
single tr spell x ss m =
    let m' : Matches (spell x ++ []) ss = rw append-nil m in
    let n : Matches (spelled_list tr spell (x ∷ [])) (ss ++ []) = Matches-append (spell x ++ []) (trail tr) ss [] m' (trail_none tr) in
    subst (λ ts. Matches (spelled_list tr spell (x ∷ [])) ts) (append-nil ss) n

single_trailing : {A : Type 0} (spell : A → List Part) (x : A) (ss : List Lexeme) (t : Lexeme) → Matches (spell x) ss → is_kind Comma t ≡ true → Matches (spelled_list true spell (x ∷ [])) (ss ++ t ∷ [])
single_trailing spell x ss t m c = Matches-append (spell x ++ []) (trail true) ss (t ∷ []) (rw append-nil m) (inr (c, tt))

prepend : {A : Type 0} (tr : Bool) (spell : A → List Part) (x : A) (xs : List A) (ss : List Lexeme) (t : Lexeme) (ts : List Lexeme) → Matches (spell x) ss → is_kind Comma t ≡ true → Matches (spelled_list tr spell xs) ts → Matches (spelled_list tr spell (x ∷ xs)) (ss ++ t ∷ ts)
prepend tr spell x [] ss t ts m c n = absurd n
prepend tr spell x (y ∷ ys) ss t ts m c n = rw append_assoc (Matches-append (spell x) (others spell (y ∷ ys) ++ trail tr) ss (t ∷ ts) m (c, n))

some_token : {A : Type 0} (spell : A → List Part) → IsLong spell → (x : A) (ss : List Lexeme) → Matches (spell x) ss → (t : Lexeme) × (rest : List Lexeme) × (ss ≡ t ∷ rest)
some_token spell long x [] m = absurd (long.no x [] (rw append-nil m))
some_token spell long x (t ∷ rest) m = (t, rest, refl)

ends_behind-same : (tr : Bool) (us vs : List Lexeme) → SameHead us vs → ends_behind tr us ≡ ends_behind tr vs
ends_behind-same true us vs h = starts-same (is_kind Close) us vs h
ends_behind-same false us vs h = refl

-- ---- what reading does

abbrev step : {A : Type 0} (tr : Bool) (p : List Lexeme → Read A) (k : ℕ) → A × List Lexeme → Read (List A)
step tr p k x = cond (starts_with_sign Comma x.1) (cond (ends_behind tr (behind x.1)) (Ok (x.0 ∷ [], behind x.1)) (with_front (x.0 ∷ []) (parts_at p tr k (behind x.1)))) (Ok (x.0 ∷ [], x.1))

parts_at-suc : {A : Type 0} (tr : Bool) (p : List Lexeme → Read A) (k : ℕ) (ts : List Lexeme) → parts_at p tr (suc k) ts ≡ (p ts >>= step tr p k)
unfolding parts_at
parts_at-suc tr p k ts = refl

parts_at-zero : {A : Type 0} (tr : Bool) (p : List Lexeme → Read A) (ts : List Lexeme) → parts_at p tr 0 ts ≡ Err (length ts)
unfolding parts_at
parts_at-zero tr p ts = refl

runs_more : {A : Type 0} (tr : Bool) (p : List Lexeme → Read A) (m : ℕ) (ws : List Lexeme) (x : A) (t : Lexeme) (us : List Lexeme) (r : Read (List A)) → is_kind Comma t ≡ true → ends_behind tr us ≡ false → p ws ≡ Ok (x, t ∷ us) → 1 ≤ m
    → ((k : ℕ) → m ≡ suc k → parts_at p tr k us ≡ r) → parts_at p tr m ws ≡ with_front (x ∷ []) r
runs_more tr p zero ws x t us r c on h lt f = absurd (omega arith)
runs_more tr p (suc k) ws x t us r c on h lt f = parts_at-suc tr p k ws ∙ rw (h, c, on, f k refl) refl

runs_trailing : {A : Type 0} (tr : Bool) (p : List Lexeme → Read A) (m : ℕ) (ws : List Lexeme) (x : A) (t : Lexeme) (us : List Lexeme) → is_kind Comma t ≡ true → ends_behind tr us ≡ true → p ws ≡ Ok (x, t ∷ us) → 1 ≤ m → parts_at p tr m ws ≡ Ok (x ∷ [], us)
runs_trailing tr p zero ws x t us c off h lt = absurd (omega arith)
runs_trailing tr p (suc k) ws x t us c off h lt = parts_at-suc tr p k ws ∙ rw (h, c, off) refl

runs_one : {A : Type 0} (tr : Bool) (p : List Lexeme → Read A) (m : ℕ) (ws us : List Lexeme) (x : A) → starts_with_sign Comma us ≡ false → p ws ≡ Ok (x, us) → 1 ≤ m → parts_at p tr m ws ≡ Ok (x ∷ [], us)
runs_one tr p zero ws us x c h lt = absurd (omega arith)
runs_one tr p (suc k) ws us x c h lt = parts_at-suc tr p k ws ∙ rw (h, c) refl

fails_in_part : {A : Type 0} (tr : Bool) (p : List Lexeme → Read A) (m : ℕ) (front vs : List Lexeme) → length (front ++ vs) ≤ m → p (front ++ vs) ≡ Err (length vs) → parts_at p tr m (front ++ vs) ≡ Err (length vs)
fails_in_part tr p zero [] vs le h = parts_at-zero tr p vs
fails_in_part tr p zero (t ∷ front) vs le h = absurd (omega arith)
fails_in_part tr p (suc k) front vs le h = parts_at-suc tr p k (front ++ vs) ∙ rw h refl

-- ---- what was read

pub record TookMany {A : Type 0} (tr : Bool) (p : List Lexeme → Read A) (spell : A → List Part) (ts : List Lexeme) (z : List A × List Lexeme) : Type 0 where
  pub front : List Lexeme
  pub parts : ts ≡ front ++ z.1
  pub spelled : Matches (spelled_list tr spell z.0) front
  pub again : (vs : List Lexeme) → SameHead z.1 vs → (m : ℕ) → length (front ++ vs) ≤ m → parts_at p tr m (front ++ vs) ≡ Ok (z.0, vs)

-- one more, where a part and a comma stand in front
more_took : {A : Type 0} (tr : Bool) (p : List Lexeme → Read A) (spell : A → List Part) (ts : List Lexeme) (x : A × List Lexeme) (t : Lexeme) (us : List Lexeme) (y : List A × List Lexeme) → is_kind Comma t ≡ true → ends_behind tr us ≡ false → x.1 ≡ t ∷ us
    → Took p spell any ts x → TookMany tr p spell us y → TookMany tr p spell ts (x.0 ∷ y.0, y.1)
more_took tr p spell ts x t us y c on is a b = record {
  front = a.front ++ t ∷ b.front;
  parts = a.parts ∙ ap (λ us. a.front ++ us) (is ∙ ap (λ us. t ∷ us) b.parts) ∙ sym (append_assoc a.front (t ∷ b.front) y.1);
  spelled = prepend tr spell x.0 y.0 a.front t b.front a.spelled c b.spelled;
  again = λ vs same m le.
      let group : (a.front ++ t ∷ b.front) ++ vs ≡ a.front ++ t ∷ (b.front ++ vs) = append_assoc a.front (t ∷ b.front) vs in
      let ahead : SameHead x.1 (t ∷ (b.front ++ vs)) = record { is = ap head_of is } in
      let on' : ends_behind tr (b.front ++ vs) ≡ false = sym (ends_behind-same tr (b.front ++ y.1) (b.front ++ vs) (SameHead-front b.front y.1 vs same)) ∙ rw (← b.parts) on in
      let len : length (a.front ++ t ∷ (b.front ++ vs)) ≡ length a.front + suc (length (b.front ++ vs)) = length-append a.front (t ∷ (b.front ++ vs)) in
      let le' : length (a.front ++ t ∷ (b.front ++ vs)) ≤ m = rw (← group) le in
      rw group (runs_more tr p m (a.front ++ t ∷ (b.front ++ vs)) x.0 t (b.front ++ vs) (Ok (y.0, vs)) c on' (a.again (t ∷ (b.front ++ vs)) ahead) (omega arith)
      (λ k is. b.again vs same k (omega arith)));
}

trailing_took : {A : Type 0} (tr : Bool) (p : List Lexeme → Read A) (spell : A → List Part) (ts : List Lexeme) (x : A × List Lexeme) (t : Lexeme) (us : List Lexeme) → is_kind Comma t ≡ true → ends_behind tr us ≡ true → x.1 ≡ t ∷ us
    → Took p spell any ts x → TookMany tr p spell ts (x.0 ∷ [], us)
trailing_took false p spell ts x t us c off is a = absurd cc
trailing_took true p spell ts x t us c off is a = record {
  front = a.front ++ t ∷ [];
  parts = a.parts ∙ ap (λ us. a.front ++ us) is ∙ sym (append_assoc a.front (t ∷ []) us);
  spelled = single_trailing spell x.0 a.front t a.spelled c;
  again = λ vs same m le.
      let group : (a.front ++ t ∷ []) ++ vs ≡ a.front ++ t ∷ vs = append_assoc a.front (t ∷ []) vs in
      let ahead : SameHead x.1 (t ∷ vs) = record { is = ap head_of is } in
      let off' : ends_behind true vs ≡ true = sym (ends_behind-same true us vs same) ∙ off in
      let len : length (a.front ++ t ∷ vs) ≡ length a.front + suc (length vs) = length-append a.front (t ∷ vs) in
      let le' : length (a.front ++ t ∷ vs) ≤ m = rw (← group) le in
      rw group (runs_trailing true p m (a.front ++ t ∷ vs) x.0 t vs c off' (a.again (t ∷ vs) ahead) (omega arith));
}

one_took : {A : Type 0} (tr : Bool) (p : List Lexeme → Read A) (spell : A → List Part) → IsLong spell → (ts : List Lexeme) (x : A × List Lexeme) → starts_with_sign Comma x.1 ≡ false → Took p spell any ts x → TookMany tr p spell ts (x.0 ∷ [], x.1)
one_took tr p spell long ts x c a = record {
  front = a.front;
  parts = a.parts;
  spelled = single tr spell x.0 a.front a.spelled;
  again = λ vs same m le.
      let s = some_token spell long x.0 a.front a.spelled in
      let len : length (a.front ++ vs) ≡ suc (length (s.1 ++ vs)) = ap (λ us. length (us ++ vs)) s.2 in
      runs_one tr p m (a.front ++ vs) vs x.0 (sym (starts-same (is_kind Comma) x.1 vs same) ∙ c) (a.again vs same) (omega arith);
}

abbrev bad : {A : Type 0} → ℕ → Result A ℕ
bad n = Err n

err_is : {A : Type 0} (m n : ℕ) → bad {A = A} m ≡ bad n → m ≡ n
err_is m n e = cc

took_many : {A : Type 0} (tr : Bool) (p : List Lexeme → Read A) (spell : A → List Part) (next : List Part → Type 0) → IsLong spell → Laws p spell any next → (n : ℕ) (ts : List Lexeme) (z : List A × List Lexeme) → parts_at p tr n ts ≡ Ok z → TookMany tr p spell ts z
took_many tr p spell next long laws zero ts z e = let e' = sym (parts_at-zero tr p ts) ∙ e in absurd cc
took_many {A} tr p spell next long laws (suc n) ts z e =
    let b = bind_ok (p ts) (step tr p n) z (sym (parts_at-suc tr p n ts) ∙ e) in
    let x = b.0 in
    let took = laws.took ts x b.1 in
    elim (chosen (starts_with_sign Comma x.1) (cond (ends_behind tr (behind x.1)) (done {A = List A × List Lexeme} (x.0 ∷ [], behind x.1)) (with_front (x.0 ∷ []) (parts_at p tr n (behind x.1)))) (done {A = List A × List Lexeme} (x.0 ∷ [], x.1)) (Ok z) b.2) [
      | inl h ↦
          let t = starts_is (is_kind Comma) x.1 h.0 in
          elim (chosen (ends_behind tr (behind x.1)) (done {A = List A × List Lexeme} (x.0 ∷ [], behind x.1)) (with_front (x.0 ∷ []) (parts_at p tr n (behind x.1))) (Ok z) h.1) [
            | inl f ↦ subst (λ z. TookMany tr p spell ts z) (ok_is (x.0 ∷ [], behind x.1) z f.1) (trailing_took tr p spell ts x t.0 (behind x.1) t.1 f.0 t.2 took)
            | inr f ↦
                let d = bind_ok (parts_at p tr n (behind x.1)) (λ y. done {A = List A × List Lexeme} (x.0 ∷ y.0, y.1)) z f.1 in
                subst (λ z. TookMany tr p spell ts z) (ok_is (x.0 ∷ d.0.0, d.0.1) z d.2)
                (more_took tr p spell ts x t.0 (behind x.1) d.0 t.1 f.0 t.2 took (took_many tr p spell next long laws n (behind x.1) d.0 d.1))
          ]
      | inr h ↦ subst (λ z. TookMany tr p spell ts z) (ok_is (x.0 ∷ [], x.1) z h.1) (one_took tr p spell long ts x h.0 took)
    ]

-- ---- faults

pub record FailedMany {A : Type 0} (tr : Bool) (p : List Lexeme → Read A) (spell : A → List Part) (ts : List Lexeme) (n : ℕ) : Type 0 where
  pub front : List Lexeme
  pub rest : List Lexeme
  pub parts : ts ≡ front ++ rest
  pub left : n ≡ length rest
  pub again : (vs : List Lexeme) → SameHead rest vs → (m : ℕ) → length (front ++ vs) ≤ m → parts_at p tr m (front ++ vs) ≡ Err (length vs)
  pub value : List A
  pub tail : List Lexeme
  pub alone : AllAlone tail
  pub spelled : Matches (spelled_list tr spell value) (front ++ tail)

more_failed : {A : Type 0} (tr : Bool) (p : List Lexeme → Read A) (spell : A → List Part) (ts : List Lexeme) (x : A × List Lexeme) (t : Lexeme) (us : List Lexeme) (n : ℕ) → is_kind Comma t ≡ true → ends_behind tr us ≡ false → x.1 ≡ t ∷ us
    → Took p spell any ts x → FailedMany tr p spell us n → FailedMany tr p spell ts n
more_failed tr p spell ts x t us n c on is a b = record {
  front = a.front ++ t ∷ b.front;
  rest = b.rest;
  parts = a.parts ∙ ap (λ us. a.front ++ us) (is ∙ ap (λ us. t ∷ us) b.parts) ∙ sym (append_assoc a.front (t ∷ b.front) b.rest);
  left = b.left;
  again = λ vs same m le.
      let group : (a.front ++ t ∷ b.front) ++ vs ≡ a.front ++ t ∷ (b.front ++ vs) = append_assoc a.front (t ∷ b.front) vs in
      let ahead : SameHead x.1 (t ∷ (b.front ++ vs)) = record { is = ap head_of is } in
      let on' : ends_behind tr (b.front ++ vs) ≡ false = sym (ends_behind-same tr (b.front ++ b.rest) (b.front ++ vs) (SameHead-front b.front b.rest vs same)) ∙ rw (← b.parts) on in
      let len : length (a.front ++ t ∷ (b.front ++ vs)) ≡ length a.front + suc (length (b.front ++ vs)) = length-append a.front (t ∷ (b.front ++ vs)) in
      let le' : length (a.front ++ t ∷ (b.front ++ vs)) ≤ m = rw (← group) le in
      rw group (runs_more tr p m (a.front ++ t ∷ (b.front ++ vs)) x.0 t (b.front ++ vs) (Err (length vs)) c on' (a.again (t ∷ (b.front ++ vs)) ahead) (omega arith)
      (λ k is. b.again vs same k (omega arith)));
  value = x.0 ∷ b.value;
  tail = b.tail;
  alone = b.alone;
  spelled = rw (append_assoc a.front (t ∷ b.front) b.tail) (prepend tr spell x.0 b.value a.front t (b.front ++ b.tail) a.spelled c b.spelled);
}

part_failed : {A : Type 0} (tr : Bool) (p : List Lexeme → Read A) (spell : A → List Part) (ts : List Lexeme) (n : ℕ) → Failed p spell any ts n → FailedMany tr p spell ts n
part_failed tr p spell ts n a = record {
  front = a.front;
  rest = a.rest;
  parts = a.parts;
  left = a.left;
  again = λ vs same m le. fails_in_part tr p m a.front vs le (a.again vs same);
  value = a.value ∷ [];
  tail = a.tail;
  alone = a.alone;
  spelled = single tr spell a.value (a.front ++ a.tail) a.spelled;
}

-- nothing is left, and so no part is there
no_part : {A : Type 0} (p : List Lexeme → Read A) (spell : A → List Part) (next : List Part → Type 0) → IsLong spell → Laws p spell any next → (r : Read A) → p [] ≡ r → Failed p spell any [] 0
no_part p spell next long laws (Ok z) e =
    let t = laws.took [] z e in
    let s = some_token spell long z.0 t.front t.spelled in
    let k : [] ≡ s.0 ∷ (s.1 ++ z.1) = t.parts ∙ ap (λ us. us ++ z.1) s.2 in
    absurd cc
no_part p spell next long laws (Err n) e =
    let f = laws.failed [] n e in
    let len : 0 ≡ length f.front + length f.rest = ap length f.parts ∙ length-append f.front f.rest in
    let left = f.left in
    let k : n ≡ 0 = omega arith in
    subst (λ n. Failed p spell any [] n) k f

failed_many : {A : Type 0} (tr : Bool) (p : List Lexeme → Read A) (spell : A → List Part) (next : List Part → Type 0) → IsLong spell → Laws p spell any next → (n : ℕ) (ts : List Lexeme) (k : ℕ) → length ts ≤ n → parts_at p tr n ts ≡ Err k → FailedMany tr p spell ts k
failed_many {A} tr p spell next long laws zero [] k le e =
    subst (λ k. FailedMany tr p spell [] k) (err_is {A = List A × List Lexeme} 0 k (sym (parts_at-zero tr p []) ∙ e)) (part_failed tr p spell [] 0 (no_part p spell next long laws (p []) refl))
failed_many tr p spell next long laws zero (t ∷ ts) k le e = absurd (omega arith)
failed_many {A} tr p spell next long laws (suc n) ts k le e =
    elim (bind_err (p ts) (step tr p n) k (sym (parts_at-suc tr p n ts) ∙ e)) [
      | inl h ↦ part_failed tr p spell ts k (laws.failed ts k h)
      | inr b ↦
          let x = b.0 in
          let took = laws.took ts x b.1 in
          elim (chosen (starts_with_sign Comma x.1) (cond (ends_behind tr (behind x.1)) (done {A = List A × List Lexeme} (x.0 ∷ [], behind x.1)) (with_front (x.0 ∷ []) (parts_at p tr n (behind x.1)))) (done {A = List A × List Lexeme} (x.0 ∷ [], x.1)) (Err k) b.2) [
            | inl h ↦
                let t = starts_is (is_kind Comma) x.1 h.0 in
                let len : length ts ≡ length took.front + suc (length (behind x.1)) = ap length took.parts ∙ (length-append took.front x.1 ∙ ap (λ us. length took.front + length us) t.2) in
                elim (chosen (ends_behind tr (behind x.1)) (done {A = List A × List Lexeme} (x.0 ∷ [], behind x.1)) (with_front (x.0 ∷ []) (parts_at p tr n (behind x.1))) (Err k) h.1) [
                  | inl f ↦ let e = f.1 in absurd cc
                  | inr g ↦ elim (bind_err (parts_at p tr n (behind x.1)) (λ y. done {A = List A × List Lexeme} (x.0 ∷ y.0, y.1)) k g.1) [
                    | inl f ↦ more_failed tr p spell ts x t.0 (behind x.1) k t.1 g.0 t.2 took (failed_many tr p spell next long laws n (behind x.1) k (omega arith) f)
                    | inr y ↦ let e = y.2 in absurd cc
                  ]
                ]
            | inr h ↦ let e = h.1 in absurd cc
          ]
    ]

-- ---- what is spelled as a list is read as one

abbrev pub list_cont : (Lexeme → Bool) → Lexeme → Bool
list_cont c t = is_kind Comma t || c t

or_false : (a b : Bool) → (a || b) ≡ false → (a ≡ false) × (b ≡ false)
or_false true b e = absurd cc
or_false false b e = (refl, e)

pub list_opens : (c : Lexeme → Bool) (more : List Part) → Opens (list_cont c) more → Opens (is_kind Comma) more × Opens c more
list_opens c more o = (record { no = λ t ts m. (or_false (is_kind Comma t) (c t) (o.no t ts m)).0 }, record { no = λ t ts m. (or_false (is_kind Comma t) (c t) (o.no t ts m)).1 })

-- what may follow a list: nothing with which it goes on, and behind a trailing comma the bracket
pub record AfterList (tr : Bool) (c : Lexeme → Bool) (more : List Part) : Type 0 where
  pub opens : Opens (list_cont c) more
  pub closes : tr ≡ true → (ts : List Lexeme) → Matches more ts → starts_with_sign Close ts ≡ true

no_comma : (tr : Bool) (c : Lexeme → Bool) (more : List Part) → AfterList tr c more → Opens (is_kind Comma) more
no_comma tr c more o = record { no = λ t ts m. (or_false (is_kind Comma t) (c t) (o.opens.no t ts m)).0 }

-- no part goes on with a comma, or begins with a bracket
pub record Parts {A : Type 0} (tr : Bool) (spell : A → List Part) (c : Lexeme → Bool) : Type 0 where
  pub apart : (t : Lexeme) → is_kind Comma t ≡ true → c t ≡ false
  pub begin : tr ≡ true → (a : A) (more : List Part) → Opens (is_kind Close) (spell a ++ more)

trail_open : {A : Type 0} (tr : Bool) (spell : A → List Part) (c : Lexeme → Bool) → Parts tr spell c → (more : List Part) → AfterList tr c more → Opens c (trail tr ++ more)
trail_open false spell c parts more o = record { no = λ t ts m. (or_false (is_kind Comma t) (c t) (o.opens.no t ts m)).1 }
trail_open true spell c parts more o = record { no = λ t ts m. elim m [ inl n ↦ (or_false (is_kind Comma t) (c t) (o.opens.no t ts n)).1 | inr n ↦ parts.apart t n.0 ] }

others_open : {A : Type 0} (tr : Bool) (spell : A → List Part) (c : Lexeme → Bool) → Parts tr spell c → (xs : List A) (more : List Part) → AfterList tr c more → Opens c (others spell xs ++ (trail tr ++ more))
others_open tr spell c parts [] more o = trail_open tr spell c parts more o
others_open tr spell c parts (x ∷ xs) more o = record { no = λ t ts m. parts.apart t m.0 }

-- behind the last part
complete_last : {A : Type 0} (tr : Bool) (p : List Lexeme → Read A) (c : Lexeme → Bool) → (n : ℕ) (ts us : List Lexeme) (x : A) (more : List Part) → AfterList tr c more → p ts ≡ Ok (x, us) → Matches (trail tr ++ more) us → (vs : List Lexeme) × (parts_at p tr (suc n) ts ≡ Ok (x ∷ [], vs)) × Matches more vs
complete_last false p c n ts [] x more o e m = ([], runs_one false p (suc n) ts [] x refl e (omega arith), m)
complete_last false p c n ts (u ∷ us) x more o e m = (u ∷ us, runs_one false p (suc n) ts (u ∷ us) x ((no_comma false c more o).no u us m) e (omega arith), m)
complete_last true p c n ts [] x more o e m = let h = o.closes refl [] m in absurd cc
complete_last true p c n ts (u ∷ us) x more o e m =
    elim m [
      | inl k ↦ (u ∷ us, runs_one true p (suc n) ts (u ∷ us) x ((no_comma true c more o).no u us k) e (omega arith), k)
      | inr k ↦ (us, runs_trailing true p (suc n) ts x u us k.0 (o.closes refl us k.1) e (omega arith), k.1)
    ]

goes_on : {A : Type 0} (tr : Bool) (spell : A → List Part) (c : Lexeme → Bool) → Parts tr spell c → (y : A) (more : List Part) (us : List Lexeme) → Matches (spell y ++ more) us → ends_behind tr us ≡ false
goes_on false spell c parts y more us m = refl
goes_on true spell c parts y more [] m = refl
goes_on true spell c parts y more (u ∷ us) m = (parts.begin refl y more).no u us m

complete_rest : {A : Type 0} (tr : Bool) (p : List Lexeme → Read A) (spell : A → List Part) (c : Lexeme → Bool) → IsLong spell → Parts tr spell c → Laws p spell any (Opens c)
    → (n : ℕ) (ts us : List Lexeme) (x : A) (xs : List A) (more : List Part) → length us ≤ n → AfterList tr c more → p ts ≡ Ok (x, us) → Matches (others spell xs ++ (trail tr ++ more)) us → (vs : List Lexeme) × (parts_at p tr (suc n) ts ≡ Ok (x ∷ xs, vs)) × Matches more vs
complete_rest tr p spell c long parts laws n ts us x [] more le o e m = complete_last tr p c n ts us x more o e m
complete_rest tr p spell c long parts laws n ts [] x (y ∷ ys) more le o e m = absurd m
complete_rest tr p spell c long parts laws zero ts (u ∷ us) x (y ∷ ys) more le o e m = absurd (omega arith)
complete_rest tr p spell c long parts laws (suc n) ts (u ∷ us) x (y ∷ ys) more le o e m =
    let m' : Matches (spell y ++ (others spell ys ++ (trail tr ++ more))) us = rw (← append_assoc (spell y) (others spell ys) (trail tr ++ more)) m.1 in
    let r = laws.complete us y (others spell ys ++ (trail tr ++ more)) tt (others_open tr spell c parts ys more o) m' in
    let took = laws.took us (y, r.0) r.1 in
    let len : length us ≡ length took.front + length r.0 = ap length took.parts ∙ length-append took.front r.0 in
    let s = complete_rest tr p spell c long parts laws n us r.0 y ys more (omega arith) o r.1 r.2 in
    (s.0, runs_more tr p (suc (suc n)) ts x u us (Ok (y ∷ ys, s.0)) m.0 (goes_on tr spell c parts y _ us m') e (omega arith) (λ k is. let j : suc n ≡ k = cc in rw (← j) s.1), s.2)

shorter : {A : Type 0} (p : List Lexeme → Read A) (spell : A → List Part) → IsLong spell → (ts : List Lexeme) (t : Lexeme) (us : List Lexeme) (x : A) → Took p spell any (t ∷ ts) (x, us) → length us ≤ length ts
shorter p spell long ts t us x took =
    let s = some_token spell long x took.front took.spelled in
    let front : length took.front ≡ suc (length s.1) = ap length s.2 in
    let len : suc (length ts) ≡ length took.front + length us = ap length took.parts ∙ length-append took.front us in
    omega arith

list_complete : {A : Type 0} (tr : Bool) (p : List Lexeme → Read A) (spell : A → List Part) (c : Lexeme → Bool) → IsLong spell → Parts tr spell c → Laws p spell any (Opens c)
    → (ts : List Lexeme) (xs : List A) (more : List Part) → AfterList tr c more → Matches (spelled_list tr spell xs ++ more) ts → (us : List Lexeme) × (list_at p tr ts ≡ Ok (xs, us)) × Matches more us
list_complete tr p spell c long parts laws ts [] more o m = absurd m
list_complete tr p spell c long parts laws [] (x ∷ xs) more o m = absurd (long.no x (others spell xs ++ (trail tr ++ more)) (rw (← append_assoc (spell x) (others spell xs) (trail tr ++ more), ← append_assoc (spell x ++ others spell xs) (trail tr) more) m))
list_complete tr p spell c long parts laws (t ∷ ts) (x ∷ xs) more o m =
    let m' : Matches (spell x ++ (others spell xs ++ (trail tr ++ more))) (t ∷ ts) = rw (← append_assoc (spell x) (others spell xs) (trail tr ++ more), ← append_assoc (spell x ++ others spell xs) (trail tr) more) m in
    let r = laws.complete (t ∷ ts) x (others spell xs ++ (trail tr ++ more)) tt (others_open tr spell c parts xs more o) m' in
    complete_rest tr p spell c long parts laws (length ts) (t ∷ ts) r.0 x xs more (shorter p spell long ts t r.0 x (laws.took (t ∷ ts) (x, r.0) r.1)) o r.1 r.2

pub list_laws : {A : Type 0} (tr : Bool) (p : List Lexeme → Read A) (spell : A → List Part) (c : Lexeme → Bool) → IsLong spell → Parts tr spell c → Laws p spell any (Opens c) → Laws (list_at p tr) (spelled_list tr spell) any (AfterList tr c)
list_laws tr p spell c long parts laws = record {
  took = λ ts z e.
      let t = took_many tr p spell (Opens c) long laws (length ts) ts z e in
      record { front = t.front; parts = t.parts; valid = tt; spelled = t.spelled; again = λ vs same. t.again vs same (length (t.front ++ vs)) (omega arith) };
  failed = λ ts n e.
      let t = failed_many tr p spell (Opens c) long laws (length ts) ts n (omega arith) e in
      record { front = t.front; rest = t.rest; parts = t.parts; left = t.left; again = λ vs same. t.again vs same (length (t.front ++ vs)) (omega arith); value = t.value; valid = tt; tail = t.tail; alone = t.alone; spelled = t.spelled };
  complete = λ ts xs more v o m. list_complete tr p spell c long parts laws ts xs more o m;
}
