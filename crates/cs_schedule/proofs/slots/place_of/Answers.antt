use Rattle.std.proofs.Common.{◌+◌, ◌-◌, ◌/◌, ◌<◌, ◌∙◌, sym, length, arith}
use Rattle.cs_schedule.proofs.Sorted.{over_more, below_less}
use Rattle.cs_schedule.proofs.slots.place_of.Goals as goal

pub loop-low-preserved-then-is_by : goal.loop-low-preserved-then-is_by
loop-low-preserved-then-is_by c =
    let inv = c.loop-low.invariant in
    let lt = c.loop-low-test.true in
    let m = c.loop-low.low + (c.loop-low.high - c.loop-low.low) / 2 in
    let inside : m < length c.args.slots.now = omega (arith, inv.1, lt) in (
      omega arith,
      omega (arith, inside),
      inv.2,
      λ k d l o. over_more c.args.slots.now c.args.slot _ m k d c.requires o l (sym c.is_by.ensures ∙ c.if-is_by.true),
    )

pub loop-low-preserved : goal.loop-low-preserved
loop-low-preserved c =
    let inv = c.loop-low.invariant in
    let lt = c.loop-low-test.true in
    let m = c.loop-low.low + (c.loop-low.high - c.loop-low.low) / 2 in
    let inside : m < length c.args.slots.now = omega (arith, inv.1, lt) in (
      omega (arith, lt),
      inv.1,
      λ k d l. below_less c.args.slots.now c.args.slot _ m k d c.requires (omega (arith, l)) inside (sym c.is_by.ensures ∙ c.if-is_by.false),
      inv.3,
    )
