use Rattle.std.proofs.Common.{◌+◌, ◌-◌, ◌/◌, ◌<◌, ◌≤◌, ◌≡◌, length, get_or, ap, arith}
use Rattle.std.proofs.lemmas.List.{get_or_default}
use Rattle.cs_steps.specs.declared.places.RecordPlace.{RecordPlace}
use Rattle.cs_steps.proofs.cursor.count_below.Goals as goal

pub loop-low-preserved-then-us : goal.loop-low-preserved-then-us
loop-low-preserved-then-us c =
    let inside : c.loop-low.low + (c.loop-low.high - c.loop-low.low) / 2 < c.loop-low.high = omega (arith, c.loop-low-test.true) in
    let in_records : c.loop-low.low + (c.loop-low.high - c.loop-low.low) / 2 < length c.args.records.now = omega (arith, inside, c.loop-low.invariant.within.1) in
    record {
      within = (omega (arith, inside), c.loop-low.invariant.within.1);
      below = λ k d h.
          let up : (get_or c.args.records.now k d).stamp ≤ (get_or c.args.records.now (c.loop-low.low + (c.loop-low.high - c.loop-low.low) / 2) d).stamp = c.requires k _ d (omega (arith, h)) in_records in
          let same : (get_or c.args.records.now (c.loop-low.low + (c.loop-low.high - c.loop-low.low) / 2) d).stamp ≡ (get_or c.args.records.now (c.loop-low.low + (c.loop-low.high - c.loop-low.low) / 2) c.index-records-middle.result).stamp =
          ap (λ (p : RecordPlace). p.stamp) (get_or_default c.args.records.now (c.loop-low.low + (c.loop-low.high - c.loop-low.low) / 2) d c.index-records-middle.result in_records) in
          omega (arith, up, same, c.us.ensures.value, c.if-us.true);
      above = c.loop-low.invariant.above;
    }

pub loop-low-preserved : goal.loop-low-preserved
loop-low-preserved c =
    let inside : c.loop-low.low + (c.loop-low.high - c.loop-low.low) / 2 < c.loop-low.high = omega (arith, c.loop-low-test.true) in
    let in_records : c.loop-low.low + (c.loop-low.high - c.loop-low.low) / 2 < length c.args.records.now = omega (arith, inside, c.loop-low.invariant.within.1) in
    record {
      within = (omega arith, omega (arith, in_records));
      below = c.loop-low.invariant.below;
      above = λ k d h l.
          let up : (get_or c.args.records.now (c.loop-low.low + (c.loop-low.high - c.loop-low.low) / 2) d).stamp ≤ (get_or c.args.records.now k d).stamp = c.requires _ k d h l in
          let same : (get_or c.args.records.now (c.loop-low.low + (c.loop-low.high - c.loop-low.low) / 2) d).stamp ≡ (get_or c.args.records.now (c.loop-low.low + (c.loop-low.high - c.loop-low.low) / 2) c.index-records-middle.result).stamp =
          ap (λ (p : RecordPlace). p.stamp) (get_or_default c.args.records.now (c.loop-low.low + (c.loop-low.high - c.loop-low.low) / 2) d c.index-records-middle.result in_records) in
          omega (arith, up, same, c.us.ensures.value, c.if-us.false);
    }
