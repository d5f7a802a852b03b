-- A choice that leaves the token where it is.
use Rattle.std.proofs.Common.{◌≡◌, Bool, true, false, ◌⊎◌, inl, inr, List, [], ◌∷◌, ◌++◌, Ok, Err, sym, ◌∙◌}
use Rattle.cs_ddl.specs.Token.{Lexeme}
use Rattle.cs_ddl.specs.Reading.{Read, peek, starts}
use Rattle.cs_ddl.specs.Grammar.{Part, Matches}
use Rattle.cs_ddl.proofs.Laws.{Laws, Opens, SameHead, SameHead-front, starts-same, chosen}

pub same_start : (test : Lexeme → Bool) (b : Bool) (ts front us vs : List Lexeme) → starts test ts ≡ b → ts ≡ front ++ us → SameHead us vs → starts test (front ++ vs) ≡ b
same_start test b ts front us vs h parts same = sym (starts-same test (front ++ us) (front ++ vs) (SameHead-front front us vs same)) ∙ rw (← parts) h

peeked_other : {A : Type 0} (test : Lexeme → Bool) (p q : List Lexeme → Read A) (spell : A → List Part) (of2 : A → Type 0) (next : List Part → Type 0) → Laws q spell of2 next
    → (ts : List Lexeme) (a : A) (more : List Part) → of2 a → next more → Opens test (spell a ++ more) → Matches (spell a ++ more) ts → (us : List Lexeme) × (peek test p q ts ≡ Ok (a, us)) × Matches more us
peeked_other test p q spell of2 next M [] a more v n o m = M.complete [] a more v n m
peeked_other test p q spell of2 next M (t ∷ ts) a more v n o m = let r = M.complete (t ∷ ts) a more v n m in (r.0, rw (o.no t ts m) r.1, r.2)

pub peek_laws : {A : Type 0} (test : Lexeme → Bool) (p q : List Lexeme → Read A) (spell : A → List Part) (of1 of2 : A → Type 0) (next : List Part → Type 0)
    → ((a : A) (more : List Part) (ts : List Lexeme) → of1 a → Matches (spell a ++ more) ts → starts test ts ≡ true)
    → ((a : A) (more : List Part) → of2 a → next more → Opens test (spell a ++ more))
    → Laws p spell of1 next → Laws q spell of2 next → Laws (peek test p q) spell (λ a. of1 a ⊎ of2 a) next
peek_laws {A} test p q spell of1 of2 next begin apart L M = record {
  took = λ ts z e.
      elim (chosen (starts test ts) (p ts) (q ts) (Ok z) e) [
        | inl h ↦ let k = L.took ts z h.1 in
            record { front = k.front; parts = k.parts; valid = inl k.valid; spelled = k.spelled; again = λ vs same. let s = same_start test true ts k.front z.1 vs h.0 k.parts same in rw s (k.again vs same) }
        | inr h ↦ let k = M.took ts z h.1 in
            record { front = k.front; parts = k.parts; valid = inr k.valid; spelled = k.spelled; again = λ vs same. let s = same_start test false ts k.front z.1 vs h.0 k.parts same in rw s (k.again vs same) }
      ];
  failed = λ ts n e.
      elim (chosen (starts test ts) (p ts) (q ts) (Err n) e) [
        | inl h ↦ let k = L.failed ts n h.1 in
            record { front = k.front; rest = k.rest; parts = k.parts; left = k.left; again = λ vs same. let s = same_start test true ts k.front k.rest vs h.0 k.parts same in rw s (k.again vs same); value = k.value; valid = inl k.valid; tail = k.tail; alone = k.alone; spelled = k.spelled }
        | inr h ↦ let k = M.failed ts n h.1 in
            record { front = k.front; rest = k.rest; parts = k.parts; left = k.left; again = λ vs same. let s = same_start test false ts k.front k.rest vs h.0 k.parts same in rw s (k.again vs same); value = k.value; valid = inr k.valid; tail = k.tail; alone = k.alone; spelled = k.spelled }
      ];
  complete = λ ts a more v n m.
      elim v [
        | inl w ↦ let r = L.complete ts a more w n m in let s = begin a more ts w m in (r.0, rw s r.1, r.2)
        | inr w ↦ peeked_other test p q spell of2 next M ts a more w n (apart a more w n) m
      ];
}
