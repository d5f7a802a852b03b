use Rattle.cs_schedule.specs.Spelling.{IsChange}
use Rattle.cs_book.proofs.Upto.{upto_none, upto_more, fits_list}
use Rattle.cs_book.proofs.format.fits_changes.Goals as goal

pub loop-change-init : goal.loop-change-init
loop-change-init c = upto_none IsChange c.args.changes.now

pub loop-change-preserved : goal.loop-change-preserved
loop-change-preserved c = upto_more IsChange c.args.changes.now c.loop-change.change-index c.change-item.result c.loop-change.invariant c.change-item.is (c.fits_change.ensures c.if-not-fits_change.false)

pub returns : goal.returns
returns c = λ h. fits_list IsChange c.args.changes.now c.loop-change.change-index c.loop-change-test.false c.loop-change.invariant h
