use Rattle.std.proofs.Common.{rules, ◌∙◌, ap}
use Rattle.cs_txn.specs.Places.{standing}
use Rattle.cs_txn.proofs.Places.{stands_at}
use Rattle.cs_txn.proofs.refusals.check_stamps.Goals as goal

pub check_stamp-requires : goal.check_stamp-requires
check_stamp-requires c =
    ap (standing c.args.items.now) c.place_at-last.ensures
    ∙ stands_at c.args.items.now c.args.writes.now c.args.lasts.now c.loop-index.index c.index-writes-index.result c.requires (search rules) c.index-writes-index.is
