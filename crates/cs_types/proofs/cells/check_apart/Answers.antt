use Rattle.std.proofs.Common.{◌≡◌, true, false, take, ap, sym, ◌∙◌}
use Rattle.std.specs.List.{list_any}
use Rattle.cs_types.specs.Cells.{same_column}
use Rattle.cs_types.proofs.ApartCells.{none_apart, pushed_apart, pushed_seen, was_true, was_false, first_twice}
use Rattle.cs_types.proofs.cells.check_apart.Goals as goal

pub loop-cell-init : goal.loop-cell-init
loop-cell-init c = (none_apart, λ q. ap (list_any _) c.new-seen.ensures.empty)

pub returns-then-not-branch : goal.returns-then-not-branch
returns-then-not-branch c =
    let had = was_true _ (sym c.in_ok-insert.ensures.added ∙ c.if-not-branch.true) in
    let again : list_any (same_column c.cell-item.result) (take c.loop-cell.cell-index c.args.cells.now) ≡ true = sym (c.loop-cell.invariant.1 c.cell-item.result.column) ∙ rw c.in_ok-copy.ensures at had in
    first_twice c.args.cells.now c.loop-cell.cell-index c.cell-item.result _ c.cell-item.is c.loop-cell-test.true c.loop-cell.invariant.0 again (sym c.in_ok-copy-2.ensures)

pub loop-cell-preserved : goal.loop-cell-preserved
loop-cell-preserved c =
    let had = was_false _ (sym c.in_ok-insert.ensures.added ∙ c.if-not-branch.false) in
    let none : list_any (same_column c.cell-item.result) (take c.loop-cell.cell-index c.args.cells.now) ≡ false = sym (c.loop-cell.invariant.1 c.cell-item.result.column) ∙ rw c.in_ok-copy.ensures at had in (
      pushed_apart c.args.cells.now c.loop-cell.cell-index c.cell-item.result c.cell-item.is c.loop-cell-test.true c.loop-cell.invariant.0 none,
      λ q. pushed_seen c.args.cells.now c.loop-cell.cell-index c.cell-item.result q _ _ c.cell-item.is c.loop-cell-test.true (rw c.in_ok-copy.ensures at (c.in_ok-insert.ensures.updates.0 q)) (c.loop-cell.invariant.1 q),
    )
