use Rattle.std.proofs.Common.{sym, ◌∙◌}
use Rattle.cs_index.proofs.Walking.{passed}
use Rattle.cs_index.proofs.making.step.Goals as goal

pub returns-in_default-clause-walk : goal.returns-in_default-clause-walk
returns-in_default-clause-walk c = λ ms front R P W. passed c.args.from.now.catalog.now.tables c.args.from.now.stream.now ms front c.args.walk.now c.args.item.now (sym c.in_ok-captured.ensures ∙ c.in_default.is) W
