use Rattle.std.proofs.Common.{◌≡◌, ◌++◌, ◌<◌, length, Err, arith, ap, ◌∙◌, sym, length-append}
use Rattle.cs_journal.specs.Rows.{stored_of}
use Rattle.cs_journal.proofs.Rows.{rows_short}
use Rattle.cs_journal.proofs.Broken.{broken_read, broken_split, some_byte}
use Rattle.cs_journal.proofs.laws.a_broken_gate_has_no_whole_entry.Goals as goal

pub returns-clause-only : goal.returns-clause-only
returns-clause-only c = λ bytes place is.
    let split = broken_split bytes 0 bytes place is (omega arith) in
    (split.stored, split.front, split.rest, split.whole, split.rows, omega (arith, split.there), split.opened, split.torn)

pub returns-clause-all : goal.returns-clause-all
returns-clause-all c = λ bytes place (stored, front, rest, whole, rows, there, opened, torn).
    let few : length stored < length (front ++ rest) = omega (arith, rows_short 0 front stored rows, length-append front rest, some_byte rest opened) in
    ap stored_of whole ∙ broken_read (front ++ rest) 0 front rest stored rows opened torn few ∙ ap Err (omega (arith, there))
