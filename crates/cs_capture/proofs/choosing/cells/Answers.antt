use Rattle.std.proofs.Common.{rules, ◌≡◌, sym, subst, All}
use Rattle.cs_types.specs.Cells.{IsRising}
use Rattle.cs_capture.specs.Captured.{told_cells}
use Rattle.cs_capture.proofs.Filter.{cell_in_range, told_rising, told_in_range}
use Rattle.cs_capture.proofs.choosing.cells.Goals as goal

pub in_order-requires-clause-rising : goal.in_order-requires-clause-rising
in_order-requires-clause-rising c =
    let is : c.in_ok-kept.kept ≡ told_cells c.args.told c.args.watch.now c.args.key.now c.args.item.now c.args.cells.now = search rules in
    subst IsRising (sym is) (told_rising c.args.told c.args.watch.now c.args.key.now c.args.item.now c.args.cells.now (search rules))

pub in_order-requires-clause-in_range : goal.in_order-requires-clause-in_range
in_order-requires-clause-in_range c =
    let is : c.in_ok-kept.kept ≡ told_cells c.args.told c.args.watch.now c.args.key.now c.args.item.now c.args.cells.now = search rules in
    subst (All cell_in_range) (sym is) (told_in_range c.args.told c.args.watch.now c.args.key.now c.args.item.now c.args.cells.now (search rules))
