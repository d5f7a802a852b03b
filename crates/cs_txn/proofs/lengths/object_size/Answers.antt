use Rattle.std.proofs.Common.{◌≡◌, ap, arith}
use Rattle.cs_txn.specs.Lengths.{object_length}
use Rattle.cs_txn.proofs.RowLengths.{above_zero}
use Rattle.cs_txn.proofs.lengths.object_size.Goals as goal

pub returns-then-members-eq0 : goal.returns-then-members-eq0
returns-then-members-eq0 c = let e : 0 ≡ c.args.members = omega arith in ap object_length e

pub returns : goal.returns
returns c = rw (above_zero c.args.members (omega arith)) c.add.ensures
