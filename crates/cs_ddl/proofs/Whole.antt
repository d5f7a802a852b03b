-- A whole text is read exactly, in any grammar whose reader keeps the laws.
use Rattle.std.proofs.Common.{◌≡◌, ℕ, suc, inl, inr, List, [], ◌∷◌, ◌++◌, length, Option, Some, None, Result, Ok, Err, refl, sym, ap, subst, ◌∙◌, append_assoc, ◌+◌, ◌-◌, drop, arith}
use Rattle.std.proofs.lemmas.List.{append-nil, length-append, drop_at}
use Rattle.cs_ddl.specs.Lex.{tokens_of}
use Rattle.cs_ddl.specs.Text.{Grammar, IsTextOf, Begins, StopsBefore, place_of, IsFaultAt, Answers, IsThis, answer_of, words}
use Rattle.cs_ddl.specs.declared.fault.Refusal.{Refusal}
use Rattle.cs_ddl.specs.declared.fault.Refusal.TheVariants as refusals
use Rattle.cs_ddl.specs.Token.{Lexeme}
use Rattle.cs_ddl.specs.Reading.{Read, ◌>>=◌, Gives, whole}
use Rattle.cs_ddl.specs.Grammar.{Part, Matches}
use Rattle.cs_ddl.proofs.Alone.{AllAlone}
use Rattle.cs_ddl.proofs.Laws.{bind_ok, bind_err, Matches-append, Took, Failed, Laws, SameHead, SameHead-front, any}
use Rattle.cs_ddl.proofs.Render.{begins, tokens_from, Matches-words, words-from}

-- ---- what ends a text

-- a spelling that is ended is its tree; one of no tree has an end alone where nothing follows
abbrev pub ended : {B : Type 0} → Option B → Result B ℕ
ended (Some b) = Ok b
ended None = Err 0

pub record FailedEnd {B : Type 0} (finish : List Lexeme → Result B ℕ) (ending : List Part) (us : List Lexeme) (n : ℕ) : Type 0 where
  pub front : List Lexeme
  pub rest : List Lexeme
  pub parts : us ≡ front ++ rest
  pub left : n ≡ length rest
  pub again : (vs : List Lexeme) → SameHead rest vs → finish (front ++ vs) ≡ Err (length vs)
  pub tail : List Lexeme
  pub alone : AllAlone tail
  pub spelled : Matches ending (front ++ tail)

pub record Ending {B : Type 0} (finish : List Lexeme → Result B ℕ) (ending : List Part) (tree : Option B) : Type 0 where
  pub ok : (b : B) (us : List Lexeme) → finish us ≡ Ok b → (tree ≡ Some b) × Matches ending us
  pub complete : (us : List Lexeme) → Matches ending us → finish us ≡ ended tree
  pub failed : (us : List Lexeme) (n : ℕ) → finish us ≡ Err n → FailedEnd finish ending us n
  pub none : Matches ending []

-- p and finish read the grammar
pub record Reader {A B : Type 0} (g : Grammar A B) (p : List Lexeme → Read A) (finish : A → List Lexeme → Result B ℕ) (spell ending : A → List Part) (next : List Part → Type 0) : Type 0 where
  pub laws : Laws p spell any next
  pub parts_are : (a : A) → g.parts a ≡ spell a ++ ending a
  pub opens : (a : A) → next (ending a)
  pub end : (a : A) → Ending (finish a) (ending a) (g.tree a)

abbrev bad : {B : Type 0} → ℕ → Result B ℕ
bad n = Err n

abbrev good : {B : Type 0} → B → Result B ℕ
good b = Ok b

not_ended : {B : Type 0} (o : Option B) (n : ℕ) → ended o ≡ bad (suc n) → ⊥
not_ended None n e = let k : 0 ≡ suc n = cc in absurd cc
not_ended (Some b) n e = absurd cc

pub record Spelled {A B : Type 0} (g : Grammar A B) (ts : List Lexeme) (b : B) : Type 0 where
  pub spelling : A
  pub tree : g.tree spelling ≡ Some b
  pub spelled : Matches (g.parts spelling) ts

-- what is read is a text
found : {A B : Type 0} {g : Grammar A B} {p : List Lexeme → Read A} {finish : A → List Lexeme → Result B ℕ} {spell ending : A → List Part} {next : List Part → Type 0} → Reader g p finish spell ending next
    → (ts : List Lexeme) (b : B) → whole p finish ts ≡ Ok b → Spelled g ts b
found {g = g} {p = p} {finish = finish} {spell = spell} {ending = ending} R ts b e =
    let r = bind_ok (p ts) (λ x. finish x.0 x.1) b e in
    let a = r.0.0 in
    let k = R.laws.took ts r.0 r.1 in
    let h = (R.end a).ok b r.0.1 r.2 in
    let m : Matches (spell a ++ ending a) (k.front ++ r.0.1) = Matches-append (spell a) (ending a) k.front r.0.1 k.spelled h.1 in
    record { spelling = a; tree = h.0; spelled = subst (λ ps. Matches ps ts) (sym (R.parts_are a)) (subst (λ ts. Matches (spell a ++ ending a) ts) (sym k.parts) m) }

-- a text is read
only : {A B : Type 0} {g : Grammar A B} {p : List Lexeme → Read A} {finish : A → List Lexeme → Result B ℕ} {spell ending : A → List Part} {next : List Part → Type 0} → Reader g p finish spell ending next
    → (ts : List Lexeme) (a : A) → Matches (g.parts a) ts → whole p finish ts ≡ ended (g.tree a)
only {p = p} {finish = finish} {spell = spell} {ending = ending} R ts a m =
    let r = R.laws.complete ts a (ending a) tt (R.opens a) (subst (λ ps. Matches ps ts) (R.parts_are a) m) in
    ap (λ x. x >>= λ x. finish x.0 x.1) r.1 ∙ (R.end a).complete r.0 r.2

-- no text goes on where reading fails whatever follows
here : {A B : Type 0} {g : Grammar A B} {p : List Lexeme → Read A} {finish : A → List Lexeme → Result B ℕ} {spell ending : A → List Part} {next : List Part → Type 0} → Reader g p finish spell ending next
    → (front rest : List Lexeme) → ((vs : List Lexeme) → SameHead rest vs → whole p finish (front ++ vs) ≡ Err (length vs)) → StopsBefore g front rest
here {g = g} {p = p} {finish = finish} R front [] f = λ a b is m.
    let e = f [] (record { is = refl }) in
    let o : whole p finish front ≡ good b = only R front a m ∙ ap (λ o. ended o) is in
    let e' : whole p finish front ≡ bad 0 = rw append-nil at e in
    let c : good b ≡ bad 0 = sym o ∙ e' in
    absurd cc
here {g = g} {p = p} {finish = finish} R front (t ∷ rest) f = λ b.
    let vs = tokens_from b.more in
    let e = f (t ∷ vs) (record { is = refl }) in
    let same : words (tokens_of b.bytes) ≡ words (front ++ t ∷ vs) = b.first ∙ words-from front t b.more in
    let m = Matches-words (g.parts b.spelling) (tokens_of b.bytes) (front ++ t ∷ vs) same b.spelled in
    let o = only R (front ++ t ∷ vs) b.spelling m in
    not_ended (g.tree b.spelling) (length vs) (sym o ∙ e)

-- the fault where so many tokens are left
pub record StopsAt {A B : Type 0} (g : Grammar A B) (ts : List Lexeme) (n : ℕ) : Type 0 where
  pub front : List Lexeme
  pub rest : List Lexeme
  pub whole : ts ≡ front ++ rest
  pub count_is : n ≡ length rest
  pub before : Begins g front
  pub here : StopsBefore g front rest

inside : {A B : Type 0} {g : Grammar A B} {p : List Lexeme → Read A} {finish : A → List Lexeme → Result B ℕ} {spell ending : A → List Part} {next : List Part → Type 0} → Reader g p finish spell ending next
    → (bytes : List ℕ) (n : ℕ) → Failed p spell any (tokens_of bytes) n → StopsAt g (tokens_of bytes) n
inside {g = g} {p = p} {finish = finish} {spell = spell} {ending = ending} R bytes n k = record {
  front = k.front;
  rest = k.rest;
  whole = k.parts;
  count_is = k.left;
  before =
      let m : Matches (spell k.value ++ ending k.value) ((k.front ++ k.tail) ++ []) = Matches-append (spell k.value) (ending k.value) (k.front ++ k.tail) [] k.spelled (R.end k.value).none in
      begins g bytes k.front k.rest k.tail k.value k.parts k.alone (subst (λ ps. Matches ps (k.front ++ k.tail)) (sym (R.parts_are k.value)) (rw append-nil at m));
  here = here R k.front k.rest (λ vs same. ap (λ x. x >>= λ x. finish x.0 x.1) (k.again vs same));
}

behind_it : {A B : Type 0} {g : Grammar A B} {p : List Lexeme → Read A} {finish : A → List Lexeme → Result B ℕ} {spell ending : A → List Part} {next : List Part → Type 0} → Reader g p finish spell ending next
    → (bytes : List ℕ) (n : ℕ) (x : A × List Lexeme) → Took p spell any (tokens_of bytes) x → FailedEnd (finish x.0) (ending x.0) x.1 n → StopsAt g (tokens_of bytes) n
behind_it {g = g} {p = p} {finish = finish} {spell = spell} {ending = ending} R bytes n x k f =
    let parts : tokens_of bytes ≡ (k.front ++ f.front) ++ f.rest = k.parts ∙ (ap (λ us. k.front ++ us) f.parts ∙ sym (append_assoc k.front f.front f.rest)) in
    record {
      front = k.front ++ f.front;
      rest = f.rest;
      whole = parts;
      count_is = f.left;
      before =
          let m : Matches (spell x.0 ++ ending x.0) (k.front ++ (f.front ++ f.tail)) = Matches-append (spell x.0) (ending x.0) k.front (f.front ++ f.tail) k.spelled f.spelled in
          let m' : Matches (g.parts x.0) (k.front ++ (f.front ++ f.tail)) = subst (λ ps. Matches ps (k.front ++ (f.front ++ f.tail))) (sym (R.parts_are x.0)) m in
          begins g bytes (k.front ++ f.front) f.rest f.tail x.0 parts f.alone (subst (λ ts. Matches (g.parts x.0) ts) (sym (append_assoc k.front f.front f.tail)) m');
      here = here R (k.front ++ f.front) f.rest (λ vs same.
          let ahead : SameHead x.1 (f.front ++ vs) = rw f.parts (SameHead-front f.front f.rest vs same) in
          let one : p (k.front ++ (f.front ++ vs)) ≡ Ok (x.0, f.front ++ vs) = k.again (f.front ++ vs) ahead in
          let two : whole p finish (k.front ++ (f.front ++ vs)) ≡ Err (length vs) = ap (λ x. x >>= λ x. finish x.0 x.1) one ∙ f.again vs same in
          subst (λ ts. whole p finish ts ≡ Err (length vs)) (sym (append_assoc k.front f.front vs)) two);
    }

-- the first fault
fault : {A B : Type 0} {g : Grammar A B} {p : List Lexeme → Read A} {finish : A → List Lexeme → Result B ℕ} {spell ending : A → List Part} {next : List Part → Type 0} → Reader g p finish spell ending next
    → (bytes : List ℕ) (n : ℕ) → whole p finish (tokens_of bytes) ≡ Err n → StopsAt g (tokens_of bytes) n
fault {p = p} {finish = finish} R bytes n e =
    elim (bind_err (p (tokens_of bytes)) (λ x. finish x.0 x.1) n e) [
      | inl h ↦ inside R bytes n (R.laws.failed (tokens_of bytes) n h)
      | inr x ↦ behind_it R bytes n x.0 (R.laws.took (tokens_of bytes) x.0 x.1) ((R.end x.0.0).failed x.0.1 n x.2)
    ]

-- ---- bytes

-- what is left behind the front
left_is : {A B : Type 0} (g : Grammar A B) (ts : List Lexeme) (n : ℕ) (k : StopsAt g ts n) → drop (length ts - n) ts ≡ k.rest
left_is g ts n k =
    let len : length ts ≡ length k.front + length k.rest = ap length k.whole ∙ length-append k.front k.rest in
    let c = k.count_is in
    let i : length k.front ≡ length ts - n = omega arith in
    ap (λ us. drop (length ts - n) us) k.whole ∙ drop_at k.front k.rest (length ts - n) i

fault_at : {A B : Type 0} (g : Grammar A B) (bytes : List ℕ) (n : ℕ) → StopsAt g (tokens_of bytes) n → IsFaultAt g bytes (place_of (length bytes) (drop (length (tokens_of bytes) - n) (tokens_of bytes)))
fault_at g bytes n k = record {
  front = k.front;
  rest = k.rest;
  whole = k.whole;
  place_is = ap (place_of (length bytes)) (left_is g (tokens_of bytes) n k);
  before = k.before;
  here = k.here;
}

pub answers : {A B : Type 0} {g : Grammar A B} {p : List Lexeme → Read A} {finish : A → List Lexeme → Result B ℕ} {spell ending : A → List Part} {next : List Part → Type 0} → Reader g p finish spell ending next
    → (bytes : List ℕ) (ts : List Lexeme) (r : Result B Refusal) → ts ≡ tokens_of bytes → Gives (λ b. b) r (whole p finish ts) → Answers g bytes (answer_of (length bytes) ts r)
answers {g = g} {p = p} {finish = finish} R bytes ts (Ok b) is e =
    let s = found R (tokens_of bytes) b (subst (λ ts. whole p finish ts ≡ Ok b) is e) in
    record { spelling = s.spelling; tree = s.tree; spelled = s.spelled }
answers {g = g} {p = p} {finish = finish} R bytes ts (Err (refusals.Left n)) is e =
    subst (λ ts. IsFaultAt g bytes (place_of (length bytes) (drop (length ts - n) ts))) (sym is) (fault_at g bytes n (fault R bytes n (subst (λ ts. whole p finish ts ≡ Err n) is e)))
answers R bytes ts (Err refusals.Memory) is e = tt

pub is_this : {A B : Type 0} {g : Grammar A B} {p : List Lexeme → Read A} {finish : A → List Lexeme → Result B ℕ} {spell ending : A → List Part} {next : List Part → Type 0} → Reader g p finish spell ending next
    → (bytes : List ℕ) (ts : List Lexeme) (r : Result B Refusal) → ts ≡ tokens_of bytes → Gives (λ b. b) r (whole p finish ts) → (b : B) → IsTextOf g bytes b → IsThis b (answer_of (length bytes) ts r)
is_this {p = p} {finish = finish} R bytes ts (Ok a) is e b t =
    let o : whole p finish ts ≡ good b = subst (λ ts. whole p finish ts ≡ good b) (sym is) (only R (tokens_of bytes) t.spelling t.spelled ∙ ap (λ o. ended o) t.tree) in
    let c : good a ≡ good b = sym e ∙ o in
    cc
is_this {p = p} {finish = finish} R bytes ts (Err (refusals.Left n)) is e b t =
    let o : whole p finish ts ≡ good b = subst (λ ts. whole p finish ts ≡ good b) (sym is) (only R (tokens_of bytes) t.spelling t.spelled ∙ ap (λ o. ended o) t.tree) in
    let c : bad n ≡ good b = sym e ∙ o in
    absurd cc
is_this R bytes ts (Err refusals.Memory) is e b t = tt

pub one : {A B : Type 0} {g : Grammar A B} {p : List Lexeme → Read A} {finish : A → List Lexeme → Result B ℕ} {spell ending : A → List Part} {next : List Part → Type 0} → Reader g p finish spell ending next
    → (bytes : List ℕ) (b c : B) → IsTextOf g bytes b → IsTextOf g bytes c → b ≡ c
one {p = p} {finish = finish} R bytes b c s t =
    let o : whole p finish (tokens_of bytes) ≡ good b = only R (tokens_of bytes) s.spelling s.spelled ∙ ap (λ o. ended o) s.tree in
    let q : whole p finish (tokens_of bytes) ≡ good c = only R (tokens_of bytes) t.spelling t.spelled ∙ ap (λ o. ended o) t.tree in
    let e : good b ≡ good c = sym o ∙ q in
    cc
