use Rattle.std.proofs.Common.{sym}
use Rattle.cs_index.proofs.Columns.{names_apart}
use Rattle.cs_index.proofs.alike.same_columns.Goals as goal

pub returns-then-one-other : goal.returns-then-one-other
returns-then-one-other c = sym (names_apart c.args.one.now c.args.other.now c.if-one-other.true)
