use Rattle.std.proofs.Common.{rules, ◌≡◌, sym, subst}
use Rattle.cs_types.specs.Cells.{IsRising}
use Rattle.cs_txn.specs.Left.{cells_for}
use Rattle.cs_txn.proofs.Sound.{rising_for}
use Rattle.cs_txn.proofs.left.all_cells.Goals as goal

pub in_order-requires-clause-rising : goal.in_order-requires-clause-rising
in_order-requires-clause-rising c =
    let is : c.in_ok-cells.cells ≡ cells_for c.args.columns.now.keys c.args.set.now c.args.under.now = search rules in
    subst IsRising (sym is) (rising_for c.args.columns.now.keys c.args.set.now c.args.under.now c.in_ok-cells.ensures.ordered)
