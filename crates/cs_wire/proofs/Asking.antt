-- A connection that was asked, of which nothing was read, gives the answer.
use Rattle.std.proofs.Common.{◌≡◌, ◌∙◌, ap, ℕ, List, [], ◌++◌, Some, None}
use Rattle.std.specs.declared.option.Option.{Option}
use Rattle.std.specs.Io.KnownBytes.{Appends, Keeps}
use Rattle.cs_connection.specs.Given.{IsUntouched}
use Rattle.cs_wire.specs.Answers.{HasAnswer}
use Rattle.cs_wire.specs.Opened.{IsFresh}

pub fresh_of : (answer : List ℕ → List ℕ) (gone now_gone left now_left written now_written : Option (List ℕ)) (request : List ℕ) → IsUntouched gone written → HasAnswer answer gone written left
    → Keeps gone now_gone → Appends written now_written request → HasAnswer answer now_gone now_written now_left → IsFresh now_gone now_left (answer request)
fresh_of answer None now_gone left now_left written now_written request un was k w is = absurd was
fresh_of answer (Some gone) now_gone left now_left None now_written request un was k w is = absurd was
fresh_of answer (Some gone) None left now_left (Some written) now_written request un was k w is = absurd is
fresh_of answer (Some gone) (Some now_gone) left now_left (Some written) None request un was k w is = absurd is
fresh_of answer (Some gone) (Some now_gone) left now_left (Some written) (Some now_written) request un was k w is =
    let none : now_gone ≡ [] = k ∙ un.unread in
    let sent : now_written ≡ request = w ∙ ap (λ xs. xs ++ request) un.unwritten in
    (ap Some none, is none ∙ ap (λ xs. Some (answer xs)) sent)
