use Rattle.std.proofs.Common.{refl, sym}
use Rattle.std.proofs.lemmas.List.{take_all}
use Rattle.std.proofs.lemmas.List.Elements.{All-more}
use Rattle.cs_types.specs.declared.cells.Cell.{Cell}
use Rattle.cs_types.specs.Value.{IsInRange}
use Rattle.cs_types.proofs.ApartCells.{first_outside}
use Rattle.cs_types.proofs.cells.check_range.Goals as goal

pub returns-then-not-in_range : goal.returns-then-not-in_range
returns-then-not-in_range c =
    let test = c.in_range.ensures in let no = c.if-not-in_range.true in
    first_outside c.args.cells.now c.loop-cell.cell-index c.cell-item.result _ c.cell-item.is c.loop-cell-test.true c.loop-cell.invariant (λ inside. let yes = test.1 inside in cc (yes, no)) (sym c.in_ok-copy.ensures)

pub loop-cell-preserved : goal.loop-cell-preserved
loop-cell-preserved c =
    let inside : IsInRange c.cell-item.result.value = c.if-not-in_range.ensures.0 refl in
    All-more (λ (x : Cell). IsInRange x.value) c.args.cells.now c.loop-cell.cell-index c.cell-item.result c.loop-cell-test.true c.loop-cell.invariant (rw (← c.cell-item.is) inside)

pub returns : goal.returns
returns c = rw (take_all c.loop-cell.cell-index c.args.cells.now c.loop-cell-test.false) at c.loop-cell.invariant
