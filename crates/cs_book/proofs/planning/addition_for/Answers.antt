use Rattle.std.proofs.Common.{sym}
use Rattle.cs_book.proofs.Planned.{additions}
use Rattle.cs_book.proofs.planning.addition_for.Goals as goal

pub returns-clause-additions : goal.returns-clause-additions
returns-clause-additions c =
    let ok = c.in_ok-addition.ensures in
    additions c.args.board.now c.args.marked c.args.gate c.args.plan.now.entry c.in-Some.entry.now c.in_ok-addition.addition c.mark_with-mark.result (sym c.in-Some.ensures) ok.text c.mark_with-mark.ensures.low ok.framed ok.fits ok.least
