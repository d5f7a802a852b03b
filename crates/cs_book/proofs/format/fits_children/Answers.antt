use Rattle.cs_schedule.specs.Spelling.{IsChild}
use Rattle.cs_book.proofs.Upto.{upto_none, upto_more, fits_list}
use Rattle.cs_book.proofs.format.fits_children.Goals as goal

pub loop-child-init : goal.loop-child-init
loop-child-init c = upto_none IsChild c.args.children.now

pub loop-child-preserved : goal.loop-child-preserved
loop-child-preserved c = upto_more IsChild c.args.children.now c.loop-child.child-index c.child-item.result c.loop-child.invariant c.child-item.is (c.fits_child.ensures c.if-not-fits_child.false)

pub returns : goal.returns
returns c = λ h. fits_list IsChild c.args.children.now c.loop-child.child-index c.loop-child-test.false c.loop-child.invariant h
