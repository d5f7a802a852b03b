use Rattle.std.proofs.Common.{rules, ◌∙◌, ap}
use Rattle.cs_txn.specs.Places.{standing}
use Rattle.cs_txn.proofs.Places.{stands_at}
use Rattle.cs_txn.proofs.writes.modifications.Goals as goal

pub modification-requires-clause-last : goal.modification-requires-clause-last
modification-requires-clause-last c =
    ap (standing c.args.items.now) c.place_at-last.ensures
    ∙ stands_at c.args.items.now c.as_slice-writes.result.now c.args.lasts.now c.loop-index.index c.index-writes-index.result (search rules) (search rules) c.index-writes-index.is
