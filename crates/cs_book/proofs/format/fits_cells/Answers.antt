use Rattle.std.proofs.Common.{subst}
use Rattle.cs_schedule.specs.Spelling.{IsCell, IsList}
use Rattle.cs_book.proofs.Upto.{upto_none, upto_more, fits_list}
use Rattle.cs_book.proofs.format.fits_cells.Goals as goal

pub loop-cell-init : goal.loop-cell-init
loop-cell-init c = upto_none IsCell c.items-items.result.now

pub loop-cell-preserved : goal.loop-cell-preserved
loop-cell-preserved c = upto_more IsCell c.items-items.result.now c.loop-cell.cell-index c.cell-item.result c.loop-cell.invariant c.cell-item.is (c.fits_cell.ensures c.if-not-fits_cell.false)

pub returns : goal.returns
returns c = λ h. (subst (IsList IsCell) c.items-items.ensures.cells (fits_list IsCell c.items-items.result.now c.loop-cell.cell-index c.loop-cell-test.false c.loop-cell.invariant h), c.items-items.ensures.rising)
