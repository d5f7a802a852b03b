-- What each way of reading keeps: what it takes is spelled so, what is spelled so it takes, and it looks at one token ahead.
use Rattle.std.proofs.Common.{◌≡◌, ℕ, suc, Bool, true, false, cond, ◌⊎◌, inl, inr, List, [], ◌∷◌, ◌++◌, length, Option, Some, None, Result, Ok, Err, refl, sym, ap, subst, ◌∙◌, append_assoc}
use Rattle.cs_ddl.specs.Token.{Lexeme}
use Rattle.cs_ddl.specs.Reading.{Read, ◌>>=◌, token_at, pure, both, mapped, after, choose, starts, behind}
use Rattle.cs_ddl.specs.Grammar.{Item, Stands, Part, Must, May, Never, Matches}
use Rattle.cs_ddl.proofs.Alone.{Alone, AllAlone, AllAlone-append}

-- ---- results

pub bind_ok : {A B : Type 0} (r : Result A ℕ) (f : A → Result B ℕ) (y : B) → (r >>= f) ≡ Ok y → (x : A) × (r ≡ Ok x) × (f x ≡ Ok y)
bind_ok (Ok x) f y e = (x, refl, e)
bind_ok (Err d) f y e = absurd cc

-- which of two steps failed
pub bind_err : {A B : Type 0} (r : Result A ℕ) (f : A → Result B ℕ) (n : ℕ) → (r >>= f) ≡ Err n → (r ≡ Err n) ⊎ ((x : A) × (r ≡ Ok x) × (f x ≡ Err n))
bind_err (Ok x) f n e = inr (x, refl, e)
bind_err (Err d) f n e = inl (let g : d ≡ n = cc in rw g refl)

abbrev pub done : {A : Type 0} → A → Result A ℕ
done x = Ok x

pub ok_is : {A : Type 0} (x y : A) → done x ≡ done y → x ≡ y
ok_is x y e = cc

-- ---- tokens

abbrev pub head_of : List Lexeme → Option Lexeme
head_of [] = None
head_of (t ∷ ts) = Some t

pub record SameHead (us vs : List Lexeme) : Type 0 where
  pub is : head_of us ≡ head_of vs

pub SameHead-front : (front us vs : List Lexeme) → SameHead us vs → SameHead (front ++ us) (front ++ vs)
SameHead-front [] us vs h = h
SameHead-front (t ∷ front) us vs h = record { is = refl }

pub Matches-append : (ps qs : List Part) (ss ts : List Lexeme) → Matches ps ss → Matches qs ts → Matches (ps ++ qs) (ss ++ ts)
Matches-append [] qs [] ts m n = n
Matches-append [] qs (s ∷ ss) ts m n = absurd m
Matches-append (Must i ∷ ps) qs [] ts m n = absurd m
Matches-append (Must i ∷ ps) qs (s ∷ ss) ts m n = (m.0, Matches-append ps qs ss ts m.1 n)
Matches-append (May i ∷ ps) qs [] [] m n = Matches-append ps qs [] [] m n
Matches-append (May i ∷ ps) qs [] (t ∷ ts) m n = inl (Matches-append ps qs [] (t ∷ ts) m n)
Matches-append (May i ∷ ps) qs (s ∷ ss) ts m n =
    elim m [ inl x ↦ inl (Matches-append ps qs (s ∷ ss) ts x n) | inr x ↦ inr (x.0, Matches-append ps qs ss ts x.1 n) ]
Matches-append (Never ∷ ps) qs ss ts m n = absurd m

-- no text of these parts begins with a token that passes the test
pub record Opens (test : Lexeme → Bool) (more : List Part) : Type 0 where
  pub no : (t : Lexeme) (ts : List Lexeme) → Matches more (t ∷ ts) → test t ≡ false

-- ---- the laws

pub record Took {A : Type 0} (p : List Lexeme → Read A) (spell : A → List Part) (of : A → Type 0) (ts : List Lexeme) (z : A × List Lexeme) : Type 0 where
  pub front : List Lexeme
  pub parts : ts ≡ front ++ z.1
  pub valid : of z.0
  pub spelled : Matches (spell z.0) front
  pub again : (vs : List Lexeme) → SameHead z.1 vs → p (front ++ vs) ≡ Ok (z.0, vs)

pub record Failed {A : Type 0} (p : List Lexeme → Read A) (spell : A → List Part) (of : A → Type 0) (ts : List Lexeme) (n : ℕ) : Type 0 where
  pub front : List Lexeme
  pub rest : List Lexeme
  pub parts : ts ≡ front ++ rest
  pub left : n ≡ length rest
  pub again : (vs : List Lexeme) → SameHead rest vs → p (front ++ vs) ≡ Err (length vs)
  pub value : A
  pub valid : of value
  pub tail : List Lexeme
  pub alone : AllAlone tail
  pub spelled : Matches (spell value) (front ++ tail)

pub record Laws {A : Type 0} (p : List Lexeme → Read A) (spell : A → List Part) (of : A → Type 0) (next : List Part → Type 0) : Type 0 where
  pub took : (ts : List Lexeme) (z : A × List Lexeme) → p ts ≡ Ok z → Took p spell of ts z
  pub failed : (ts : List Lexeme) (n : ℕ) → p ts ≡ Err n → Failed p spell of ts n
  pub complete : (ts : List Lexeme) (a : A) (more : List Part) → of a → next more → Matches (spell a ++ more) ts → (us : List Lexeme) × (p ts ≡ Ok (a, us)) × Matches more us

abbrev pub firm : List Part → Type 0
firm more = Unit {0}

abbrev pub any : {A : Type 0} → A → Type 0
any a = Unit {0}

-- some value has a text
pub record Sample {A : Type 0} (spell : A → List Part) (of : A → Type 0) : Type 0 where
  pub value : A
  pub valid : of value
  pub text : List Lexeme
  pub alone : AllAlone text
  pub spelled : Matches (spell value) text

no_front : (front rest : List Lexeme) → [] ≡ front ++ rest → front ≡ []
no_front [] rest e = refl
no_front (t ∷ front) rest e = absurd cc

sample_of : {A : Type 0} (p : List Lexeme → Read A) (spell : A → List Part) (of : A → Type 0) (next : List Part → Type 0) → Laws p spell of next → (r : Read A) → p [] ≡ r → Sample spell of
sample_of p spell of next laws (Ok z) e =
    let t = laws.took [] z e in
    let none : t.front ≡ [] = no_front t.front z.1 t.parts in
    record { value = z.0; valid = t.valid; text = []; alone = tt; spelled = rw none at t.spelled }
sample_of p spell of next laws (Err n) e =
    let f = laws.failed [] n e in
    let none : f.front ≡ [] = no_front f.front f.rest f.parts in
    record { value = f.value; valid = f.valid; text = f.tail; alone = f.alone; spelled = rw none at f.spelled }

pub sample : {A : Type 0} (p : List Lexeme → Read A) (spell : A → List Part) (of : A → Type 0) (next : List Part → Type 0) → Laws p spell of next → Sample spell of
sample p spell of next laws = sample_of p spell of next laws (p []) refl

-- ---- nothing

pub pure_laws : {A : Type 0} (a : A) (spell : A → List Part) (next : List Part → Type 0) → spell a ≡ [] → Laws (pure a) spell (λ b. a ≡ b) next
pure_laws a spell next none = record {
  took = λ ts z e. subst (λ z. Took (pure a) spell (λ b. a ≡ b) ts z) (ok_is (a, ts) z e)
      (record { front = []; parts = refl; valid = refl; spelled = rw none tt; again = λ vs same. refl });
  failed = λ ts n e. absurd cc;
  complete = λ ts b more is opens m. (ts, ap (λ x. Ok (x, ts)) is, let e : spell b ≡ [] = rw (← is) none in rw e at m);
}

-- ---- a token

pub true_or_false : (b : Bool) → (b ≡ true) ⊎ (b ≡ false)
true_or_false true = inl refl
true_or_false false = inr refl

guard_ok : {A : Type 0} (b : Bool) (x y : A) (n : ℕ) → cond b (done x) (Err n) ≡ Ok y → (b ≡ true) × (x ≡ y)
guard_ok true x y n e = (refl, cc)
guard_ok false x y n e = absurd cc

guard_err : {A : Type 0} (b : Bool) (x : A) (n m : ℕ) → cond b (done x) (Err n) ≡ Err m → (b ≡ false) × (n ≡ m)
guard_err true x n m e = absurd cc
guard_err false x n m e = (refl, cc)

-- a test that tells one kind of item, with the value that it has
pub record IsTest {A : Type 0} (test : Lexeme → Bool) (value : Lexeme → A) (item : A → Item) : Type 0 where
  pub stands : (t : Lexeme) → test t ≡ true → Stands (item (value t)) t
  pub passes : (t : Lexeme) (a : A) → Stands (item a) t → test t ≡ true
  pub value_is : (t : Lexeme) (a : A) → Stands (item a) t → value t ≡ a
  pub example : Lexeme
  pub example_alone : Alone example
  pub example_passes : test example ≡ true

token_took : {A : Type 0} (test : Lexeme → Bool) (value : Lexeme → A) (item : A → Item) → IsTest test value item → (ts : List Lexeme) (z : A × List Lexeme) → token_at test value ts ≡ Ok z → Took (token_at test value) (λ a. Must (item a) ∷ []) any ts z
token_took test value item is [] z e = absurd cc
token_took test value item is (t ∷ ts) z e =
    let g = guard_ok (test t) (value t, ts) z _ e in
    subst (λ z. Took (token_at test value) (λ a. Must (item a) ∷ []) any (t ∷ ts) z) g.1
    (record { front = t ∷ []; parts = refl; valid = tt; spelled = (is.stands t g.0, tt); again = λ vs same. rw g.0 refl })

pub starts-same : (test : Lexeme → Bool) (us vs : List Lexeme) → SameHead us vs → starts test us ≡ starts test vs
starts-same test [] [] h = refl
starts-same test [] (v ∷ vs) h = let e = h.is in absurd cc
starts-same test (u ∷ us) [] h = let e = h.is in absurd cc
starts-same test (u ∷ us) (v ∷ vs) h = let e = h.is in let k : u ≡ v = cc in rw k refl

token_fails : {A : Type 0} (test : Lexeme → Bool) (value : Lexeme → A) (vs : List Lexeme) → starts test vs ≡ false → token_at test value vs ≡ Err (length vs)
token_fails test value [] e = refl
token_fails test value (v ∷ vs) e = rw e refl

token_again : {A : Type 0} (test : Lexeme → Bool) (value : Lexeme → A) (ts : List Lexeme) → starts test ts ≡ false → (vs : List Lexeme) → SameHead ts vs → token_at test value vs ≡ Err (length vs)
token_again test value ts e vs same = token_fails test value vs (sym (starts-same test ts vs same) ∙ e)

failed_here : {A : Type 0} (test : Lexeme → Bool) (value : Lexeme → A) (item : A → Item) → IsTest test value item → (ts : List Lexeme) (n : ℕ) → starts test ts ≡ false → n ≡ length ts → Failed (token_at test value) (λ a. Must (item a) ∷ []) any ts n
failed_here test value item is ts n free len =
    record { front = []; rest = ts; parts = refl; left = len; again = token_again test value ts free; value = value is.example; valid = tt; tail = is.example ∷ []; alone = (is.example_alone, tt); spelled = (is.stands is.example is.example_passes, tt) }

token_failed : {A : Type 0} (test : Lexeme → Bool) (value : Lexeme → A) (item : A → Item) → IsTest test value item → (ts : List Lexeme) (n : ℕ) → token_at test value ts ≡ Err n → Failed (token_at test value) (λ a. Must (item a) ∷ []) any ts n
token_failed test value item is [] n e = failed_here test value item is [] n refl (cc)
token_failed test value item is (t ∷ ts) n e =
    let g = guard_err (test t) (value t, ts) (suc (length ts)) n e in
    failed_here test value item is (t ∷ ts) n g.0 (sym g.1)

token_complete : {A : Type 0} (test : Lexeme → Bool) (value : Lexeme → A) (item : A → Item) → IsTest test value item → (ts : List Lexeme) (a : A) (more : List Part) → Matches (Must (item a) ∷ more) ts → (us : List Lexeme) × (token_at test value ts ≡ Ok (a, us)) × Matches more us
token_complete test value item is [] a more m = absurd m
token_complete test value item is (t ∷ ts) a more m = (ts, rw (is.passes t a m.0, is.value_is t a m.0) refl, m.1)

pub token_laws : {A : Type 0} (test : Lexeme → Bool) (value : Lexeme → A) (item : A → Item) → IsTest test value item → Laws (token_at test value) (λ a. Must (item a) ∷ []) any firm
token_laws test value item is = record {
  took = token_took test value item is;
  failed = token_failed test value item is;
  complete = λ ts a more of opens m. token_complete test value item is ts a more m;
}

-- ---- another value for the same tokens

mapped_failed : {A B : Type 0} (f : A → B) (p : List Lexeme → Read A) (spell : A → List Part) (of : A → Type 0) (next : List Part → Type 0) (spell' : B → List Part)
    → ((a : A) → spell' (f a) ≡ spell a) → Laws p spell of next → (ts : List Lexeme) (n : ℕ) → (p ts ≡ Err n) ⊎ ((x : A × List Lexeme) × (p ts ≡ Ok x) × (done {A = B × List Lexeme} (f x.0, x.1) ≡ Err n)) → Failed (mapped f p) spell' (λ b. (a : A) × (f a ≡ b) × of a) ts n
mapped_failed {A} {B} f p spell of next spell' same_spell laws ts n (inl e) =
    let t = laws.failed ts n e in
    record { front = t.front; rest = t.rest; parts = t.parts; left = t.left; again = λ vs same. rw (t.again vs same) refl; value = f t.value; valid = (t.value, refl, t.valid); tail = t.tail; alone = t.alone; spelled = rw (same_spell t.value) t.spelled }
mapped_failed {A} {B} f p spell of next spell' same_spell laws ts n (inr x) = let e = x.2 in absurd cc

pub mapped_laws : {A B : Type 0} (f : A → B) (p : List Lexeme → Read A) (spell : A → List Part) (of : A → Type 0) (next : List Part → Type 0) (spell' : B → List Part)
    → ((a : A) → spell' (f a) ≡ spell a) → Laws p spell of next → Laws (mapped f p) spell' (λ b. (a : A) × (f a ≡ b) × of a) next
mapped_laws {A} {B} f p spell of next spell' same_spell laws = record {
  took = λ ts z e.
      let b = bind_ok (p ts) (λ x. Ok (f x.0, x.1)) z e in
      let t = laws.took ts b.0 b.1 in
      subst (λ z. Took (mapped f p) spell' (λ b. (a : A) × (f a ≡ b) × of a) ts z) (ok_is (f b.0.0, b.0.1) z b.2)
      (record { front = t.front; parts = t.parts; valid = (b.0.0, refl, t.valid); spelled = rw (same_spell b.0.0) t.spelled; again = λ vs same. rw (t.again vs same) refl });
  failed = λ ts n e. mapped_failed f p spell of next spell' same_spell laws ts n (bind_err (p ts) (λ x. Ok (f x.0, x.1)) n e);
  complete = λ ts b more v opens m.
      let m' = rw (← v.1, same_spell v.0) at m in
      let r = laws.complete ts v.0 more v.2 opens m' in
      (r.0, rw r.1 (ap (λ b. Ok (b, r.0)) v.1), r.2);
}

-- ---- one part and then another

abbrev pub spelled_both : {A B : Type 0} → (A → List Part) → (B → List Part) → A × B → List Part
spelled_both s t z = s z.0 ++ t z.1

abbrev pub of_both : {A B : Type 0} → (A → Type 0) → (B → Type 0) → A × B → Type 0
of_both s t z = s z.0 × t z.1

both_took : {A B : Type 0} (p : List Lexeme → Read A) (s : A → List Part) (of1 : A → Type 0) (q : List Lexeme → Read B) (t : B → List Part) (of2 : B → Type 0) (ts : List Lexeme) (x : A × List Lexeme) (y : B × List Lexeme)
    → Took p s of1 ts x → Took q t of2 x.1 y → Took (both p q) (spelled_both s t) (of_both of1 of2) ts ((x.0, y.0), y.1)
both_took p s of1 q t of2 ts x y a b = record {
  front = a.front ++ b.front;
  parts = a.parts ∙ ap (λ us. a.front ++ us) b.parts ∙ sym (append_assoc a.front b.front y.1);
  valid = (a.valid, b.valid);
  spelled = Matches-append (s x.0) (t y.0) a.front b.front a.spelled b.spelled;
  again = λ vs same.
      let ahead : SameHead x.1 (b.front ++ vs) = rw b.parts (SameHead-front b.front y.1 vs same) in
      rw (append_assoc a.front b.front vs, a.again (b.front ++ vs) ahead, b.again vs same) refl;
}

both_failed : {A B : Type 0} (p : List Lexeme → Read A) (s : A → List Part) (of1 : A → Type 0) (q : List Lexeme → Read B) (t : B → List Part) (of2 : B → Type 0) (ts : List Lexeme) (x : A × List Lexeme) (n : ℕ)
    → Took p s of1 ts x → Failed q t of2 x.1 n → Failed (both p q) (spelled_both s t) (of_both of1 of2) ts n
both_failed p s of1 q t of2 ts x n a b = record {
  front = a.front ++ b.front;
  rest = b.rest;
  parts = a.parts ∙ ap (λ us. a.front ++ us) b.parts ∙ sym (append_assoc a.front b.front b.rest);
  left = b.left;
  again = λ vs same.
      let ahead : SameHead x.1 (b.front ++ vs) = rw b.parts (SameHead-front b.front b.rest vs same) in
      rw (append_assoc a.front b.front vs, a.again (b.front ++ vs) ahead, b.again vs same) refl;
  value = (x.0, b.value);
  valid = (a.valid, b.valid);
  tail = b.tail;
  alone = b.alone;
  spelled = rw append_assoc (Matches-append (s x.0) (t b.value) a.front (b.front ++ b.tail) a.spelled b.spelled);
}

first_failed : {A B : Type 0} (p : List Lexeme → Read A) (s : A → List Part) (of1 : A → Type 0) (q : List Lexeme → Read B) (t : B → List Part) (of2 : B → Type 0) (ts : List Lexeme) (n : ℕ)
    → Failed p s of1 ts n → Sample t of2 → Failed (both p q) (spelled_both s t) (of_both of1 of2) ts n
first_failed p s of1 q t of2 ts n a b = record {
  front = a.front;
  rest = a.rest;
  parts = a.parts;
  left = a.left;
  again = λ vs same. rw (a.again vs same) refl;
  value = (a.value, b.value);
  valid = (a.valid, b.valid);
  tail = a.tail ++ b.text;
  alone = AllAlone-append a.tail b.text a.alone b.alone;
  spelled = rw (← append_assoc) (Matches-append (s a.value) (t b.value) (a.front ++ a.tail) b.text a.spelled b.spelled);
}

pub both_laws : {A B : Type 0} (p : List Lexeme → Read A) (s : A → List Part) (of1 : A → Type 0) (c1 : List Part → Type 0) (q : List Lexeme → Read B) (t : B → List Part) (of2 : B → Type 0) (c2 : List Part → Type 0) (next : List Part → Type 0)
    → Laws p s of1 c1 → Laws q t of2 c2
    → ((b : B) (more : List Part) → of2 b → next more → c1 (t b ++ more) × c2 more)
    → Laws (both p q) (spelled_both s t) (of_both of1 of2) next
both_laws {A} {B} p s of1 c1 q t of2 c2 next L M apart =
    let after : A × List Lexeme → Result ((A × B) × List Lexeme) ℕ = λ x. q x.1 >>= λ y. Ok ((x.0, y.0), y.1) in
    record {
      took = λ ts z e.
          let b = bind_ok (p ts) after z e in
          let d = bind_ok (q b.0.1) (λ y. done {A = (A × B) × List Lexeme} ((b.0.0, y.0), y.1)) z b.2 in
          subst (λ z. Took (both p q) (spelled_both s t) (of_both of1 of2) ts z) (ok_is ((b.0.0, d.0.0), d.0.1) z d.2)
          (both_took p s of1 q t of2 ts b.0 d.0 (L.took ts b.0 b.1) (M.took b.0.1 d.0 d.1));
      failed = λ ts n e.
          elim (bind_err (p ts) after n e) [
            | inl h ↦ first_failed p s of1 q t of2 ts n (L.failed ts n h) (sample q t of2 c2 M)
            | inr x ↦ elim (bind_err (q x.0.1) (λ y. done {A = (A × B) × List Lexeme} ((x.0.0, y.0), y.1)) n x.2) [
              | inl h ↦ both_failed p s of1 q t of2 ts x.0 n (L.took ts x.0 x.1) (M.failed x.0.1 n h)
              | inr y ↦ let e = y.2 in absurd cc
            ]
          ];
      complete = λ ts z more v opens m.
          let o = apart z.1 more v.1 opens in
          let m' : Matches (s z.0 ++ (t z.1 ++ more)) ts = rw (← append_assoc (s z.0) (t z.1) more) m in
          let x = L.complete ts z.0 (t z.1 ++ more) v.0 o.0 m' in
          let y = M.complete x.0 z.1 more v.1 o.1 x.2 in
          (y.0, rw (x.1, y.1) refl, y.2);
    }

-- ---- a choice by the next token

pub chosen : {A : Type 0} (b : Bool) (x y z : A) → cond b x y ≡ z → ((b ≡ true) × (x ≡ z)) ⊎ ((b ≡ false) × (y ≡ z))
chosen true x y z e = inl (refl, e)
chosen false x y z e = inr (refl, e)

-- a token that passes the test is there
pub starts_is : (test : Lexeme → Bool) (ts : List Lexeme) → starts test ts ≡ true → (t : Lexeme) × (test t ≡ true) × (ts ≡ t ∷ behind ts)
starts_is test [] e = absurd cc
starts_is test (t ∷ ts) e = (t, e, refl)

chosen_first : {A : Type 0} (test : Lexeme → Bool) (item : Item) (p q : List Lexeme → Read A) (spell1 : A → List Part) (of1 : A → Type 0) (next : List Part → Type 0) → ((t : Lexeme) → Stands item t → test t ≡ true) → Laws p spell1 of1 next
    → (ts : List Lexeme) (a : A) (more : List Part) → of1 a → next more → Matches (Must item ∷ (spell1 a ++ more)) ts → (us : List Lexeme) × (choose test p q ts ≡ Ok (a, us)) × Matches more us
chosen_first test item p q spell1 of1 next passes L [] a more v opens m = absurd m
chosen_first test item p q spell1 of1 next passes L (t ∷ ts) a more v opens m =
    let r = L.complete ts a more v opens m.1 in
    (r.0, rw (passes t m.0) r.1, r.2)

chosen_other : {A : Type 0} (test : Lexeme → Bool) (p q : List Lexeme → Read A) (spell : A → List Part) (of2 : A → Type 0) (next : List Part → Type 0) → Laws q spell of2 next
    → (ts : List Lexeme) (a : A) (more : List Part) → of2 a → next more → Opens test (spell a ++ more) → Matches (spell a ++ more) ts → (us : List Lexeme) × (choose test p q ts ≡ Ok (a, us)) × Matches more us
chosen_other test p q spell of2 next M [] a more v opens apart m = M.complete [] a more v opens m
chosen_other test p q spell of2 next M (t ∷ ts) a more v opens apart m =
    let r = M.complete (t ∷ ts) a more v opens m in
    (r.0, rw (apart.no t ts m) r.1, r.2)

pub choose_laws : {A : Type 0} (test : Lexeme → Bool) (item : Item) (p q : List Lexeme → Read A) (spell1 spell : A → List Part) (of1 of2 : A → Type 0) (next : List Part → Type 0)
    → ((t : Lexeme) → test t ≡ true → Stands item t) → ((t : Lexeme) → Stands item t → test t ≡ true)
    → ((a : A) → of1 a → spell a ≡ Must item ∷ spell1 a)
    → ((a : A) (more : List Part) → of2 a → next more → Opens test (spell a ++ more))
    → Laws p spell1 of1 next → Laws q spell of2 next
    → Laws (choose test p q) spell (λ a. of1 a ⊎ of2 a) next
choose_laws {A} test item p q spell1 spell of1 of2 next stands passes first apart L M =
    let of : A → Type 0 = λ a. of1 a ⊎ of2 a in
    record {
      took = λ ts z e.
          elim (chosen (starts test ts) (p (behind ts)) (q ts) (Ok z) e) [
            | inl h ↦
                let t = starts_is test ts h.0 in
                let k = L.took (behind ts) z h.1 in
                record {
                  front = t.0 ∷ k.front;
                  parts = t.2 ∙ ap (λ us. t.0 ∷ us) k.parts;
                  valid = inl k.valid;
                  spelled = rw (first z.0 k.valid) (stands t.0 t.1, k.spelled);
                  again = λ vs same. rw t.1 (k.again vs same);
                }
            | inr h ↦
                let k = M.took ts z h.1 in
                record {
                  front = k.front;
                  parts = k.parts;
                  valid = inr k.valid;
                  spelled = k.spelled;
                  again = λ vs same.
                      let none : starts test (k.front ++ vs) ≡ false = sym (starts-same test (k.front ++ z.1) (k.front ++ vs) (SameHead-front k.front z.1 vs same)) ∙ rw (← k.parts) h.0 in
                      rw none (k.again vs same);
                }
          ];
      failed = λ ts n e.
          elim (chosen (starts test ts) (p (behind ts)) (q ts) (Err n) e) [
            | inl h ↦
                let t = starts_is test ts h.0 in
                let k = L.failed (behind ts) n h.1 in
                record {
                  front = t.0 ∷ k.front;
                  rest = k.rest;
                  parts = t.2 ∙ ap (λ us. t.0 ∷ us) k.parts;
                  left = k.left;
                  again = λ vs same. rw t.1 (k.again vs same);
                  value = k.value;
                  valid = inl k.valid;
                  tail = k.tail;
                  alone = k.alone;
                  spelled = rw (first k.value k.valid) (stands t.0 t.1, k.spelled);
                }
            | inr h ↦
                let k = M.failed ts n h.1 in
                record {
                  front = k.front;
                  rest = k.rest;
                  parts = k.parts;
                  left = k.left;
                  again = λ vs same.
                      let none : starts test (k.front ++ vs) ≡ false = sym (starts-same test (k.front ++ k.rest) (k.front ++ vs) (SameHead-front k.front k.rest vs same)) ∙ rw (← k.parts) h.0 in
                      rw none (k.again vs same);
                  value = k.value;
                  valid = inr k.valid;
                  tail = k.tail;
                  alone = k.alone;
                  spelled = k.spelled;
                }
          ];
      complete = λ ts a more v opens m.
          elim v [
            | inl v ↦ chosen_first test item p q spell1 of1 next passes L ts a more v opens (rw first at m)
            | inr v ↦ chosen_other test p q spell of2 next M ts a more v opens (apart a more v opens) m
          ];
    }

-- ---- the same under other words

pub adjusted : {A : Type 0} (p : List Lexeme → Read A) (s s' : A → List Part) (of of' : A → Type 0) (c c' : List Part → Type 0)
    → ((a : A) (ts : List Lexeme) → of a → Matches (s a) ts → of' a)
    → ((a : A) → of' a → of a × (s a ≡ s' a))
    → ((a : A) (more : List Part) → of' a → c' more → c more)
    → Laws p s of c → Laws p s' of' c'
adjusted p s s' of of' c c' to from opens L = record {
  took = λ ts z e.
      let k = L.took ts z e in
      let v = to z.0 k.front k.valid k.spelled in
      record { front = k.front; parts = k.parts; valid = v; spelled = rw (← (from z.0 v).1) k.spelled; again = k.again };
  failed = λ ts n e.
      let k = L.failed ts n e in
      let v = to k.value (k.front ++ k.tail) k.valid k.spelled in
      record { front = k.front; rest = k.rest; parts = k.parts; left = k.left; again = k.again; value = k.value; valid = v; tail = k.tail; alone = k.alone; spelled = rw (← (from k.value v).1) k.spelled };
  complete = λ ts a more v o m.
      let f = from a v in
      let m' : Matches (s a ++ more) ts = rw f.1 m in
      L.complete ts a more f.0 (opens a more v o) m';
}

pub Opens-weaker : (c c' : Lexeme → Bool) → ((t : Lexeme) → c' t ≡ false → c t ≡ false) → (more : List Part) → Opens c' more → Opens c more
Opens-weaker c c' f more o = record { no = λ t ts m. f t (o.no t ts m) }

-- each value has a text of its own spelling
pub every : {A : Type 0} (p : List Lexeme → Read A) (s : A → List Part) (of : A → Type 0) (c : List Part → Type 0) → ((a : A) → of a) → Laws p s of c → Laws p s any c
every p s of c all L = adjusted p s s of any c c (λ a ts v m. tt) (λ a v. (all a, refl)) (λ a more v o. o) L

-- ---- a token that has no value in front

pub after_laws : {B : Type 0} (p : List Lexeme → Read (Unit {0})) (i : Item) (q : List Lexeme → Read B) (t : B → List Part) (of : B → Type 0) (c : List Part → Type 0)
    → Laws p (λ _. Must i ∷ []) any firm → Laws q t of c → Laws (after p q) (λ b. Must i ∷ t b) of c
after_laws {B} p i q t of c L M =
    adjusted (after p q) (λ b. Must i ∷ t b) (λ b. Must i ∷ t b) (λ b. (z : Unit {0} × B) × (z.1 ≡ b) × of_both any of z) of c c
    (λ b ts v m. subst of v.1 v.2.1)
    (λ b v. (((tt, b), refl, (tt, v)), refl))
    (λ b more v o. o)
    (mapped_laws (λ z. z.1) (both p q) (spelled_both (λ _. Must i ∷ []) t) (of_both any of) c (λ b. Must i ∷ t b) (λ z. refl)
    (both_laws p (λ _. Must i ∷ []) any firm q t of c c L M (λ b more vb o. (tt, o))))
