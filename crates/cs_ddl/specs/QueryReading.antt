-- How the query is read.
use Rattle.std.specs.Prelude.{ℕ, zero, suc, false, List, [], ◌∷◌, ◌++◌, length, Option, Some, None, Result, Ok, Err, if◌then◌else◌, codes}
use Rattle.cs_ddl.specs.declared.token.Kind.TheVariants.{Open, Close, Comma, Arrow, Text}
use Rattle.cs_ddl.specs.declared.tree.Literal.{Literal}
use Rattle.cs_ddl.specs.declared.tree.Literal.TheVariants as literals
use Rattle.cs_ddl.specs.declared.tree.Argument.{Argument}
use Rattle.cs_ddl.specs.declared.tree.ReadQuery.{ReadQuery}
use Rattle.cs_ddl.specs.Token.{Lexeme, is_word, is_kind, is_name}
use Rattle.cs_ddl.specs.Reading.{Read, ◌>>=◌, behind, starts, pure, both, mapped, after, before, choose, peek, word_at, sign_at, name_at, function_at, number_at, text_at, spelled_at}
use Rattle.cs_ddl.specs.Lists.{list_at, with_front}
use Rattle.cs_ddl.specs.Productions.{end_at}
use Rattle.cs_ddl.specs.Query.{place_name}

-- a literal that does not begin with TIMESTAMP
unfoldable pub plain_at : List Lexeme → Read Literal
plain_at = choose (is_word (codes "null")) (pure literals.Null) (peek (is_kind Text) (mapped literals.Text text_at) (mapped literals.Number number_at))

unfoldable pub literal_at : List Lexeme → Read Literal
literal_at = choose (is_word (codes "timestamp")) (mapped literals.Timestamp text_at) plain_at

unfoldable pub argument_at : List Lexeme → Read Argument
argument_at = mapped (λ z. record { name = z.0; value = z.1 }) (both name_at (after (sign_at Arrow) literal_at))

-- some arguments with names, and the bracket
unfoldable pub named_at : List Lexeme → Read (List Argument)
named_at = before (list_at argument_at false) (sign_at Close)

-- the arguments with names behind these, and the bracket
unfoldable pub named_behind_at : List Argument → List Lexeme → Read (List Argument)
named_behind_at front ts =
    if starts (is_kind Comma) ts
    then (with_front front (list_at argument_at false (behind ts)) >>= λ x. sign_at Close x.1 >>= λ y. Ok (x.0, y.1))
    else (sign_at Close ts >>= λ y. Ok (front, y.1))

-- the arguments by places behind these, and the bracket, where so many places are left; none where a comma has none behind it
unfoldable pub placed_at : List Argument → ℕ → List Lexeme → Read (Option (List Argument))
placed_at front zero ts =
    if starts (is_kind Comma) ts
    then Ok (None, behind ts)
    else (sign_at Close ts >>= λ y. Ok (Some front, y.1))
placed_at front (suc n) ts =
    if starts (is_kind Comma) ts
    then (literal_at (behind ts) >>= λ x. placed_at (front ++ record { name = place_name (suc n); value = x.0 } ∷ []) n x.1)
    else (sign_at Close ts >>= λ y. Ok (Some front, y.1))

-- behind the first argument
unfoldable pub first_at : Literal → List Lexeme → Read (Option (List Argument))
first_at l ts = placed_at (record { name = place_name 5; value = l } ∷ []) 4 ts

-- behind the word TIMESTAMP in front of all arguments, as it is spelled
unfoldable pub timestamp_at : List ℕ → List Lexeme → Read (Option (List Argument))
timestamp_at w ts =
    if starts (is_kind Text) ts
    then (text_at ts >>= λ x. first_at (literals.Timestamp x.0) x.1)
    else (sign_at Arrow ts >>= λ a. literal_at a.1 >>= λ x. named_behind_at (record { name = w; value = x.0 } ∷ []) x.1 >>= λ y. Ok (Some y.0, y.1))

unfoldable pub arguments_at : List Lexeme → Read (Option (List Argument))
arguments_at ts =
    if starts (is_kind Close) ts then Ok (Some [], behind ts)
    else if starts (is_word (codes "timestamp")) ts then (spelled_at (codes "timestamp") ts >>= λ w. timestamp_at w.0 w.1)
    else if starts is_name ts then (named_at ts >>= λ y. Ok (Some y.0, y.1))
    else (plain_at ts >>= λ x. first_at x.0 x.1)

abbrev pub query_finish : List ℕ → Option (List Argument) → List Lexeme → Result ReadQuery ℕ
query_finish f None ts = Err (length ts)
query_finish f (Some args) ts = end_at (record { function = f; arguments = args }) ts

-- the three words in front
unfoldable pub select_at : List Lexeme → Read (Unit {0})
select_at = after (word_at (codes "select")) (after (word_at (codes "changerecord")) (word_at (codes "from")))

-- the name behind FROM, and the bracket
unfoldable pub called_at : List Lexeme → Read (List ℕ)
called_at ts = select_at ts >>= λ a. function_at a.1 >>= λ f. sign_at Open f.1 >>= λ o. Ok (f.0, o.1)

unfoldable pub query_at : List Lexeme → Result ReadQuery ℕ
query_at ts = called_at ts >>= λ f. arguments_at f.1 >>= λ x. query_finish f.0 x.0 x.1
