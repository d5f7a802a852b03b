use Rattle.cs_redo.proofs.Kept.{front_both}
use Rattle.cs_redo.proofs.replacing.replace_behind.Goals as goal

pub returns-clause-any_moment : goal.returns-clause-any_moment
returns-clause-any_moment g c = front_both c.args.count _ _ _ c.cut_behind.ensures.any_moment c.write_missing.ensures.any_moment
