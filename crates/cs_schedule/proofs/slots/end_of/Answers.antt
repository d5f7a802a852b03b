use Rattle.std.proofs.Common.{◌+◌, ◌-◌, ◌/◌, ◌<◌, length, arith}
use Rattle.cs_schedule.proofs.Sorted.{key_more, key_less}
use Rattle.cs_schedule.proofs.slots.end_of.Goals as goal

pub loop-low-preserved-then-key-slots : goal.loop-low-preserved-then-key-slots
loop-low-preserved-then-key-slots c =
    let inv = c.loop-low.invariant in
    let lt = c.loop-low-test.true in
    let m = c.loop-low.low + (c.loop-low.high - c.loop-low.low) / 2 in
    let inside : m < length c.args.slots.now = omega (arith, inv.1, lt) in (
      omega arith,
      omega (arith, inside),
      inv.2,
      λ k d l o. key_more c.args.slots.now c.args.key _ m k d c.requires o l c.if-key-slots.true,
    )

pub loop-low-preserved : goal.loop-low-preserved
loop-low-preserved c =
    let inv = c.loop-low.invariant in
    let lt = c.loop-low-test.true in
    let m = c.loop-low.low + (c.loop-low.high - c.loop-low.low) / 2 in
    let inside : m < length c.args.slots.now = omega (arith, inv.1, lt) in (
      omega (arith, lt),
      inv.1,
      λ k d l. key_less c.args.slots.now c.args.key _ m k d c.requires (omega (arith, l)) inside c.if-key-slots.false,
      inv.3,
    )
