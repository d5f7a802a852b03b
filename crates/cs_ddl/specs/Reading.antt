-- Reading tokens from left to right: a value and the tokens after it, or how many are left where no more can be read.
use Rattle.std.specs.Prelude.{◌≡◌, ℕ, suc, Bool, false, List, [], ◌∷◌, length, Option, Some, None, Result, Ok, Err, if◌then◌else◌}
use Rattle.cs_ddl.specs.declared.fault.Refusal.{Refusal}
use Rattle.cs_ddl.specs.declared.fault.Refusal.TheVariants as refusals
use Rattle.cs_ddl.specs.declared.token.Kind.{Kind}
use Rattle.cs_ddl.specs.declared.token.Kind.TheVariants.{Text}
use Rattle.cs_ddl.specs.Token.{Lexeme, is_word, is_kind, is_name, is_function, name_in, is_number, inner}

abbrev pub Read : Type 0 → Type 0
Read A = Result (A × List Lexeme) ℕ

infixl 10 ◌>>=◌
abbrev pub ◌>>=◌ : {A B : Type 0} → Result A ℕ → (A → Result B ℕ) → Result B ℕ
(Ok x) >>= f = f x
(Err e) >>= f = Err e

-- What a function returned, seen by view, is what reading gives, unless memory ran out.
abbrev pub Fails : {Y : Type 0} → Refusal → Result Y ℕ → Type 0
Fails refusals.Memory read = Unit {0}
Fails (refusals.Left n) read = read ≡ Err n

abbrev pub Gives : {X Y : Type 0} → (X → Y) → Result X Refusal → Result Y ℕ → Type 0
Gives view (Ok x) read = read ≡ Ok (view x)
Gives view (Err e) read = Fails e read

-- one token
abbrev pub token_at : {A : Type 0} → (Lexeme → Bool) → (Lexeme → A) → List Lexeme → Read A
token_at test value [] = Err 0
token_at test value (t ∷ ts) = if test t then Ok (value t, ts) else Err (suc (length ts))

unfoldable pub word_at : List ℕ → List Lexeme → Read (Unit {0})
word_at w ts = token_at (is_word w) (λ _. tt) ts

unfoldable pub sign_at : Kind → List Lexeme → Read (Unit {0})
sign_at k ts = token_at (is_kind k) (λ _. tt) ts

unfoldable pub name_at : List Lexeme → Read (List ℕ)
name_at ts = token_at is_name name_in ts

unfoldable pub function_at : List Lexeme → Read (List ℕ)
function_at ts = token_at is_function name_in ts

-- the tokens behind the first
abbrev pub behind : List Lexeme → List Lexeme
behind [] = []
behind (t ∷ ts) = ts

-- whether a token is next that passes the test
abbrev pub starts : (Lexeme → Bool) → List Lexeme → Bool
starts test [] = false
starts test (t ∷ ts) = test t

abbrev pub starts_with_word : List ℕ → List Lexeme → Bool
starts_with_word w ts = starts (is_word w) ts

abbrev pub starts_with_sign : Kind → List Lexeme → Bool
starts_with_sign k ts = starts (is_kind k) ts

-- nothing
abbrev pub pure : {A : Type 0} → A → List Lexeme → Read A
pure a ts = Ok (a, ts)

-- one part and then another
abbrev pub both : {A B : Type 0} → (List Lexeme → Read A) → (List Lexeme → Read B) → List Lexeme → Read (A × B)
both p q ts = p ts >>= λ x. q x.1 >>= λ y. Ok ((x.0, y.0), y.1)

abbrev pub mapped : {A B : Type 0} → (A → B) → (List Lexeme → Read A) → List Lexeme → Read B
mapped f p ts = p ts >>= λ x. Ok (f x.0, x.1)

-- two parts, of which the second is kept, or the first
abbrev pub after : {A B : Type 0} → (List Lexeme → Read A) → (List Lexeme → Read B) → List Lexeme → Read B
after p q = mapped (λ z. z.1) (both p q)

abbrev pub before : {A B : Type 0} → (List Lexeme → Read A) → (List Lexeme → Read B) → List Lexeme → Read A
before p q = mapped (λ z. z.0) (both p q)

-- behind a token that passes the test one part, and else another
abbrev pub choose : {A : Type 0} → (Lexeme → Bool) → (List Lexeme → Read A) → (List Lexeme → Read A) → List Lexeme → Read A
choose test p q ts = if starts test ts then p (behind ts) else q ts

-- a part that may be left out, behind its first token
abbrev pub maybe_at : {A : Type 0} → (Lexeme → Bool) → (List Lexeme → Read A) → List Lexeme → Read (Option A)
maybe_at test p = choose test (mapped Some p) (pure None)

-- one token that may stand there
abbrev pub may_at : (Lexeme → Bool) → List Lexeme → Read (Unit {0})
may_at test ts = if starts test ts then Ok (tt, behind ts) else Ok (tt, ts)

unfoldable pub may_word_at : List ℕ → List Lexeme → Read (Unit {0})
may_word_at w = may_at (is_word w)

-- a word of the grammar as it is spelled
unfoldable pub spelled_at : List ℕ → List Lexeme → Read (List ℕ)
spelled_at w ts = token_at (is_word w) (λ t. t.text) ts

unfoldable pub number_at : List Lexeme → Read (List ℕ)
number_at ts = token_at is_number (λ t. t.text) ts

unfoldable pub text_at : List Lexeme → Read (List ℕ)
text_at ts = token_at (is_kind Text) (λ t. inner t.text) ts

-- one part where the next token passes the test, and else another
abbrev pub peek : {A : Type 0} → (Lexeme → Bool) → (List Lexeme → Read A) → (List Lexeme → Read A) → List Lexeme → Read A
peek test p q ts = if starts test ts then p ts else q ts

-- what is read, and then what ends it
abbrev pub whole : {A B : Type 0} → (List Lexeme → Read A) → (A → List Lexeme → Result B ℕ) → List Lexeme → Result B ℕ
whole p finish ts = p ts >>= λ x. finish x.0 x.1
