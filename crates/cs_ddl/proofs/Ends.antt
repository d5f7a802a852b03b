-- What ends a text: one sign may stand there, and nothing else.
use Rattle.std.proofs.Common.{◌≡◌, ℕ, suc, true, false, inl, inr, List, [], ◌∷◌, length, Some, Result, Ok, Err, refl, sym, ap}
use Rattle.std.specs.Prelude.{codes}
use Rattle.cs_ddl.specs.declared.token.Kind.TheVariants.{Open, Comma, Semicolon}
use Rattle.cs_ddl.specs.declared.tree.Statement.{Statement}
use Rattle.cs_ddl.specs.Token.{Lexeme, is_kind}
use Rattle.cs_ddl.specs.declared.fault.Refusal.{Refusal}
use Rattle.cs_ddl.specs.Lex.{tokens_of}
use Rattle.cs_ddl.specs.Text.{IsTextOf, Answers, IsThis, answer_of}
use Rattle.cs_ddl.specs.Reading.{Gives}
use Rattle.cs_ddl.specs.Productions.{statement_at, all_at, end_at, finished, behind_end}
use Rattle.cs_ddl.specs.Grammar.{Sign, Part, May, Matches, statement}
use Rattle.cs_ddl.specs.Grammars.{statements}
use Rattle.cs_ddl.proofs.Laws.{Opens, SameHead, true_or_false}
use Rattle.cs_ddl.proofs.Words.{other_kind, sign_is_no_word}
use Rattle.cs_ddl.proofs.Productions.{statement_rule, stream_cont}
use Rattle.cs_ddl.proofs.Whole.{Ending, FailedEnd, Reader, answers, is_this}

abbrev pub semicolon : List Part
semicolon = May (Sign Semicolon) ∷ []

end_is : {B : Type 0} (b : B) (ts : List Lexeme) → end_at b ts ≡ finished b (behind_end ts)
unfolding end_at
end_is b ts = refl

abbrev ok : {B : Type 0} → B → Result B ℕ
ok b = Ok b

abbrev bad : {B : Type 0} → ℕ → Result B ℕ
bad n = Err n

same_ok : {B : Type 0} (b c : B) → ok b ≡ ok c → b ≡ c
same_ok b c e = cc

same_bad : {B : Type 0} (m n : ℕ) → bad {B = B} m ≡ bad n → m ≡ n
same_bad m n e = cc

at_end : {B : Type 0} (b c : B) (t : Lexeme) (us : List Lexeme) → is_kind Semicolon t ≡ true → finished b us ≡ Ok c → (b ≡ c) × Matches semicolon (t ∷ us)
at_end b c t [] h e = (same_ok b c e, inr (h, tt))
at_end b c t (u ∷ us) h e = absurd cc

end_ok : {B : Type 0} (b c : B) (us : List Lexeme) → finished b (behind_end us) ≡ Ok c → (b ≡ c) × Matches semicolon us
end_ok b c [] e = (same_ok b c e, tt)
end_ok b c (t ∷ us) e =
    elim (true_or_false (is_kind Semicolon t)) [
      | inl h ↦ at_end b c t us h (rw h at e)
      | inr h ↦ let e' = rw h at e in absurd cc
    ]

end_complete : {B : Type 0} (b : B) (us : List Lexeme) → Matches semicolon us → finished b (behind_end us) ≡ Ok b
end_complete b [] m = refl
end_complete b (t ∷ []) m = elim m [ inl x ↦ absurd x | inr x ↦ rw x.0 refl ]
end_complete b (t ∷ u ∷ us) m = elim m [ inl x ↦ absurd x | inr x ↦ absurd x.1 ]

not_sign : {B : Type 0} (b : B) (t : Lexeme) (us vs : List Lexeme) → is_kind Semicolon t ≡ false → SameHead (t ∷ us) vs → finished b (behind_end vs) ≡ Err (length vs)
not_sign b t us [] h same = let k = same.is in absurd cc
not_sign b t us (v ∷ vs) h same =
    let k = same.is in
    let j : t ≡ v = cc in
    let h' : is_kind Semicolon v ≡ false = rw j at h in
    rw h' refl

behind_sign : {B : Type 0} (b : B) (t u : Lexeme) (us vs : List Lexeme) → is_kind Semicolon t ≡ true → SameHead (u ∷ us) vs → finished b (behind_end (t ∷ vs)) ≡ Err (length vs)
behind_sign b t u us [] h same = let k = same.is in absurd cc
behind_sign b t u us (v ∷ vs) h same = rw h refl

failed_behind : {B : Type 0} (b : B) (t : Lexeme) (us : List Lexeme) (n : ℕ) → is_kind Semicolon t ≡ true → finished b us ≡ Err n → FailedEnd (λ us. finished b (behind_end us)) semicolon (t ∷ us) n
failed_behind b t [] n h e = absurd cc
failed_behind {B} b t (u ∷ us) n h e = record {
  front = t ∷ [];
  rest = u ∷ us;
  parts = refl;
  left = same_bad {B = B} n (suc (length us)) (sym e);
  again = λ vs same. behind_sign b t u us vs h same;
  tail = [];
  alone = tt;
  spelled = inr (h, tt);
}

end_failed : {B : Type 0} (b : B) (us : List Lexeme) (n : ℕ) → finished b (behind_end us) ≡ Err n → FailedEnd (λ us. finished b (behind_end us)) semicolon us n
end_failed b [] n e = absurd cc
end_failed {B} b (t ∷ us) n e =
    elim (true_or_false (is_kind Semicolon t)) [
      | inl h ↦ failed_behind b t us n h (rw h at e)
      | inr h ↦ record {
        front = [];
        rest = t ∷ us;
        parts = refl;
        left = let e' = rw h at e in same_bad {B = B} n (suc (length us)) (sym e');
        again = λ vs same. not_sign b t us vs h same;
        tail = [];
        alone = tt;
        spelled = tt;
      }
    ]

pub end_ending : {B : Type 0} (b : B) → Ending (λ us. end_at b us) semicolon (Some b)
unfolding end_at
end_ending b = record {
  ok = λ c us e. let h = end_ok b c us e in (ap (λ c. Some c) h.0, h.1);
  complete = λ us m. end_complete b us m;
  failed = λ us n e. end_failed b us n e;
  none = tt;
}

not_goes_on : (t : Lexeme) → is_kind Semicolon t ≡ true → stream_cont t ≡ false
not_goes_on t h =
    let a = sign_is_no_word Semicolon (codes "for") t h refl in
    let o = sign_is_no_word Semicolon (codes "options") t h refl in
    let b = other_kind Semicolon Comma t h refl in
    let c = other_kind Semicolon Open t h refl in
    rw (o, a, b, c) refl

semicolon_opens : Opens stream_cont semicolon
semicolon_opens = record { no = λ t ts m. elim m [ inl x ↦ absurd x | inr x ↦ not_goes_on t x.0 ] }

-- statements are read exactly
pub statement_reader : Reader statements statement_at (λ s us. end_at s us) statement (λ s. semicolon) (Opens stream_cont)
statement_reader = record { laws = statement_rule.laws; parts_are = λ s. refl; opens = λ s. semicolon_opens; end = λ s. end_ending s }

pub statement_answers : (bytes : List ℕ) (ts : List Lexeme) (r : Result Statement Refusal) → ts ≡ tokens_of bytes → Gives (λ s. s) r (all_at ts) → Answers statements bytes (answer_of (length bytes) ts r)
unfolding all_at
statement_answers bytes ts r is e = answers statement_reader bytes ts r is e

pub statement_is_this : (bytes : List ℕ) (ts : List Lexeme) (r : Result Statement Refusal) → ts ≡ tokens_of bytes → Gives (λ s. s) r (all_at ts) → (s : Statement) → IsTextOf statements bytes s → IsThis s (answer_of (length bytes) ts r)
unfolding all_at
statement_is_this bytes ts r is e s t = is_this statement_reader bytes ts r is e s t
