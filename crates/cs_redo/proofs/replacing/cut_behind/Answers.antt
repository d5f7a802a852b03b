use Rattle.cs_redo.proofs.Kept.{cut_once}
use Rattle.cs_redo.proofs.replacing.cut_behind.Goals as goal

pub returns-in_err-cut-clause-any_moment : goal.returns-in_err-cut-clause-any_moment
returns-in_err-cut-clause-any_moment g c = cut_once c.args.count _ _ c.cut.ensures.crash

pub returns-in_ok-cut-clause-any_moment : goal.returns-in_ok-cut-clause-any_moment
returns-in_ok-cut-clause-any_moment g c = cut_once c.args.count _ _ c.cut.ensures.crash
