-- Which tests exclude one another.
use Rattle.std.proofs.Common.{◌≡◌, ℕ, Bool, true, false, ◌&&◌, ◌||◌, not, ◌⊎◌, inl, inr, List, Option, Some, None, refl, sym, ◌∙◌, arith}
use Rattle.std.specs.Prelude.{nat_eq}
use Rattle.std.specs.Str.{str_eq_ignore_ascii_case, str_to_ascii_lowercase}
use Rattle.std.proofs.lemmas.Bool.Decides.{nat_tests}
use Rattle.std.proofs.lemmas.Slice.Eq.{bytes_eq-Decides}
use Rattle.cs_ddl.specs.declared.token.Kind.{Kind}
use Rattle.cs_ddl.specs.declared.token.Kind.TheVariants.{Word, Quoted, Number}
use Rattle.cs_ddl.specs.Token.{Lexeme, same_kind, is_kind, is_word, is_name_within, is_number, is_reserved, number_of}
use Rattle.cs_ddl.proofs.Laws.{true_or_false}

pub and_true : (a b : Bool) → (a && b) ≡ true → (a ≡ true) × (b ≡ true)
and_true true b e = (refl, e)
and_true false b e = absurd cc

pub or_true : (a b : Bool) → (a || b) ≡ true → (a ≡ true) ⊎ (b ≡ true)
or_true true b e = inl refl
or_true false b e = inr e

pub not_true : (a : Bool) → not a ≡ true → a ≡ false
not_true true e = absurd cc
not_true false e = refl

-- a token of one kind is of no other
pub not_same : (j k : Kind) (o : Option Kind) → same_kind j o ≡ true → nat_eq (number_of j) (number_of k) ≡ false → same_kind k o ≡ false
not_same j k None e d = refl
not_same j k (Some i) e d = grind (arith, nat_tests)

pub other_kind : (j k : Kind) (t : Lexeme) → is_kind j t ≡ true → nat_eq (number_of j) (number_of k) ≡ false → is_kind k t ≡ false
other_kind j k t e d = not_same j k t.kind e d

-- a word as it is in small letters
pub is_word-lower : (w : List ℕ) (t : Lexeme) → is_word w t ≡ true → (is_kind Word t ≡ true) × (str_to_ascii_lowercase t.text ≡ str_to_ascii_lowercase w)
is_word-lower w t e =
    let h = and_true (is_kind Word t) (str_eq_ignore_ascii_case t.text w) e in
    (h.0, (bytes_eq-Decides (str_to_ascii_lowercase t.text) (str_to_ascii_lowercase w)).0 h.1)

-- a word is no other word
pub other_word : (v w : List ℕ) (t : Lexeme) → is_word v t ≡ true → (str_to_ascii_lowercase v ≡ str_to_ascii_lowercase w → ⊥) → is_word w t ≡ false
other_word v w t e d =
    elim (true_or_false (is_word w t)) [
      | inl h ↦ absurd (d (sym (is_word-lower v t e).1 ∙ (is_word-lower w t h).1))
      | inr h ↦ h
    ]

-- a sign is no word
pub sign_is_no_word : (k : Kind) (w : List ℕ) (t : Lexeme) → is_kind k t ≡ true → nat_eq (number_of k) 0 ≡ false → is_word w t ≡ false
sign_is_no_word k w t e d = let h = other_kind k Word t e d in rw h refl

-- a name is a word or stands between backquotes
pub name_kind : (limit : ℕ) (t : Lexeme) → is_name_within limit t ≡ true → (is_kind Quoted t ≡ true) ⊎ ((is_kind Word t ≡ true) × (is_reserved t.text ≡ false))
name_kind limit t e =
    elim (or_true (is_kind Quoted t) (is_kind Word t && not (is_reserved t.text)) (and_true _ _ e).1) [
      | inl h ↦ inl h
      | inr h ↦ let g = and_true (is_kind Word t) (not (is_reserved t.text)) h in inr (g.0, not_true (is_reserved t.text) g.1)
    ]

pub name_is_no_sign : (limit : ℕ) (k : Kind) (t : Lexeme) → is_name_within limit t ≡ true → nat_eq 0 (number_of k) ≡ false → nat_eq 1 (number_of k) ≡ false → is_kind k t ≡ false
name_is_no_sign limit k t e d0 d1 =
    elim (name_kind limit t e) [
      | inl h ↦ other_kind Quoted k t h d1
      | inr h ↦ other_kind Word k t h.0 d0
    ]

-- a name is no reserved word
pub name_is_not : (limit : ℕ) (w : List ℕ) (t : Lexeme) → is_name_within limit t ≡ true → (str_eq_ignore_ascii_case t.text w ≡ true → is_reserved t.text ≡ true) → is_word w t ≡ false
name_is_not limit w t e reserved =
    elim (true_or_false (is_word w t)) [
      | inr h ↦ h
      | inl h ↦
          let g = and_true (is_kind Word t) (str_eq_ignore_ascii_case t.text w) h in
          let r = reserved g.1 in
          elim (name_kind limit t e) [
            | inl q ↦ let n = other_kind Quoted Word t q refl in absurd cc
            | inr q ↦ let n = q.1 in absurd cc
          ]
    ]

pub or_left : (a b : Bool) → a ≡ true → (a || b) ≡ true
or_left true b e = refl
or_left false b e = absurd cc

pub or_right : (a b : Bool) → b ≡ true → (a || b) ≡ true
or_right true b e = refl
or_right false b e = e

pub number_is_no_word : (t : Lexeme) (w : List ℕ) → is_number t ≡ true → is_word w t ≡ false
number_is_no_word t w e = sign_is_no_word Number w t (and_true _ _ e).0 refl

pub word_is_no_sign : (w : List ℕ) (k : Kind) (t : Lexeme) → is_word w t ≡ true → nat_eq 0 (number_of k) ≡ false → is_kind k t ≡ false
word_is_no_sign w k t e d = other_kind Word k t (and_true _ _ e).0 d
