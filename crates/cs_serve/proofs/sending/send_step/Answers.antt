use Rattle.std.proofs.Common.{List, subst}
use Rattle.cs_link.specs.declared.reading.Step.{Step}
use Rattle.cs_serve.specs.Sending.{Sends}
use Rattle.cs_serve.proofs.Pieces.{holds_line, sends_more, next_is}
use Rattle.cs_serve.proofs.sending.send_step.Goals as goal

pub returns-clause-sends : goal.returns-clause-sends
returns-clause-sends g c = λ before all s.
    sends_more
    (holds_line c.in-Some.step
    (subst (λ (left : List Step). Sends before (g.C.Conn.written c.args.conn.now) c.args.held.now.items all left) (next_is c.in-Ok.next c.in-Some.step _ _ c.in-Ok.ensures.gives c.in-Some.is) s)
    c.in-Ok-hold_line.ensures)
    c.in_ok-send_piece.ensures.part
