-- Parts with commas between them.
use Rattle.std.specs.Prelude.{ℕ, zero, suc, Bool, ◌&&◌, List, [], ◌∷◌, ◌++◌, length, Ok, Err, if◌then◌else◌}
use Rattle.cs_ddl.specs.declared.token.Kind.TheVariants.{Comma, Close}
use Rattle.cs_ddl.specs.Token.{Lexeme}
use Rattle.cs_ddl.specs.Reading.{Read, ◌>>=◌, behind, starts_with_sign}

-- the parts before, in front of those that follow a comma
abbrev pub with_front : {A : Type 0} → List A → Read (List A) → Read (List A)
with_front front read = read >>= λ x. Ok (front ++ x.0, x.1)

-- whether the list ends behind a comma, which it may only before a bracket that closes it
abbrev pub ends_behind : Bool → List Lexeme → Bool
ends_behind trailing ts = trailing && starts_with_sign Close ts

-- so many parts at most, with commas between them, and one behind them where that may be
unfoldable pub parts_at : {A : Type 0} → (List Lexeme → Read A) → Bool → ℕ → List Lexeme → Read (List A)
parts_at p trailing zero ts = Err (length ts)
parts_at p trailing (suc n) ts = p ts >>= λ x.
    if starts_with_sign Comma x.1
    then (if ends_behind trailing (behind x.1) then Ok (x.0 ∷ [], behind x.1) else with_front (x.0 ∷ []) (parts_at p trailing n (behind x.1)))
    else Ok (x.0 ∷ [], x.1)

-- one part or more
abbrev pub list_at : {A : Type 0} → (List Lexeme → Read A) → Bool → List Lexeme → Read (List A)
list_at p trailing ts = parts_at p trailing (length ts) ts
