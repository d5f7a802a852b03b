use Rattle.std.proofs.Common.{◌/◌, length, take, arith, sym, subst, length-take}
use Rattle.cs_device.specs.Disk.{IsTornAt}
use Rattle.cs_device.specs.Images.{torn_by}
use Rattle.cs_device.proofs.image.redo_write.Goals as goal

pub returns-then-choice-eq-HALF : goal.returns-then-choice-eq-HALF
returns-then-choice-eq-HALF c = λ first past done may.
    let held = c.args.held.now.items in
    let count = length c.args.bytes.now in
    let half = take (count / 2) c.args.bytes.now in
    let torn = torn_by c.args.at count half held (omega (arith, c.if-len-at.false)) (omega (arith, length-take (count / 2) c.args.bytes.now)) in
    (held, may, subst (IsTornAt c.args.at count held) (sym c.in_ok-write_over-2.ensures.items) torn)
