use Rattle.std.proofs.Common.{⊎_elim, ap, Err}
use Rattle.cs_wire.proofs.Headless.{begin_never_fails, rose_above, fault_or}
use Rattle.cs_wire.proofs.Opening.{begun_with, opened_with}
use Rattle.cs_wire.proofs.begin.begin.Goals as goal

pub returns-in-Ok-clause-begun : goal.returns-in-Ok-clause-begun
returns-in-Ok-clause-begun g c =
    λ t. begun_with _ _ _ _ _ _ _ c.in-Ok.ensures.held (c.in-Ok.ensures.fresh t) c.opened-opened.ensures.answer

pub returns-in-Ok-clause-quiet : goal.returns-in-Ok-clause-quiet
returns-in-Ok-clause-quiet g c =
    λ t e s.
    let asked = c.in-Ok.ensures.asked in
    g.met.D.FeedDial.no_connection_fails _ asked.0 e t asked.1 (g.met.D.C.Conn.same_then _ _ e asked.2 (g.met.D.C.Conn.same_then _ _ e c.opened-opened.ensures.object s))

pub returns-in-Ok-clause-never_fails : goal.returns-in-Ok-clause-never_fails
returns-in-Ok-clause-never_fails g c =
    λ t u f h e.
    let asked = c.in-Ok.ensures.asked in
    let quiet = g.met.D.FeedDial.no_connection_fails _ asked.0 _ t asked.1 (g.met.D.C.Conn.same_then _ _ _ asked.2 c.opened-opened.ensures.object) in
    begin_never_fails f c.args.args.now _ _ _ _ _ _ _ _ _ _ _ _ c.in-Ok.ensures.held (g.D.FeedDial.honest _ c.args.args.now f u h) (c.in-Ok.ensures.fresh u) quiet c.opened-opened.ensures.answer e

pub returns-in-Err-clause-never_fails : goal.returns-in-Err-clause-never_fails
returns-in-Err-clause-never_fails g c =
    λ t u f h e.
    ⊎_elim (λ r. rose_above _ _ r (g.met.D.FeedDial.no_dial_fails _ t)) (λ x. rose_above _ _ x.4 (g.met.D.FeedDial.no_connection_fails _ x.0 x.1 t x.2 x.3)) (c.in-Err.ensures.failed (ap Err (ap (fault_or c.in-Err.answer) e)))

pub returns-in-Ok-clause-why : goal.returns-in-Ok-clause-why
returns-in-Ok-clause-why g c =
    let asked = c.in-Ok.ensures.asked in
    record {
      first = asked.0;
      asked = c.in-Ok.lines.conn;
      given = asked.1;
      kept = asked.2;
      sent = asked.3;
      later = c.opened-opened.ensures.object;
      answer = opened_with _ _ _ _ _ _ _ _ _ _ c.in-Ok.ensures.held c.opened-opened.ensures.answer;
    }
