use Rattle.std.proofs.Common.{◌++◌, ◌≤◌, length, arith, ap, ◌∙◌, length-append}
use Rattle.cs_journal.specs.Rows.{stored_of}
use Rattle.cs_journal.proofs.Rows.{rows_split, rows_read, rows_short, gate_behind}
use Rattle.cs_journal.proofs.laws.payloads_are_those_of_the_entries.Goals as goal

pub returns-clause-only : goal.returns-clause-only
returns-clause-only c = λ bytes stored is.
    let split = rows_split bytes 0 bytes stored is (omega arith) in
    (split.front, split.rest, split.whole, split.rows, split.shut, gate_behind 0 bytes stored split)

pub returns-clause-all : goal.returns-clause-all
returns-clause-all c = λ bytes stored (front, rest, whole, rows, shut, some).
    let few : length stored ≤ length (front ++ rest) = omega (arith, rows_short 0 front stored rows, length-append front rest) in
    ap stored_of whole ∙ rows_read (front ++ rest) 0 front rest stored rows shut some few
