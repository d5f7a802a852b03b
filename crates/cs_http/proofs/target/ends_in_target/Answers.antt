use Rattle.cs_http.proofs.Targets.{line_end_taken, no_line_end}
use Rattle.cs_http.proofs.target.ends_in_target.Goals as goal

pub lines-preserved : goal.lines-preserved
lines-preserved c =
    let e = line_end_taken c.in-Some.ensures.0 c.lines.rest.now c.in-Some.after.now c.in-Some.ensures.1 in
    ((λ t. c.lines.invariant.0 (e.0 t)), (λ t. e.1 (c.lines.invariant.1 t)))

pub returns : goal.returns
returns c =
    let e = no_line_end c.lines.rest.now c.in_default.ensures in
    ((λ t. c.lines.invariant.0 (e.0 (c.is_open_target.ensures.0 t))), (λ t. c.is_open_target.ensures.1 (e.1 (c.lines.invariant.1 t))))
