use Rattle.cs_serve.proofs.Pieces.{sends_end}
use Rattle.cs_serve.proofs.sending.send_lines.Goals as goal

pub returns-in-Ok-false-clause-written : goal.returns-in-Ok-false-clause-written
returns-in-Ok-false-clause-written g c =
    let done = c.in-Ok-false.ensures.done c.in-Ok-false.field-0-test in
    sends_end (c.in-Ok-false.ensures.sends _ _ c.steps.invariant.sends) done.0 done.1
