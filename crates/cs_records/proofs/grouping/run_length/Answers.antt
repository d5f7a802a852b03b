use Rattle.std.proofs.Common.{refl, arith}
use Rattle.std.proofs.lemmas.List.Elements.{All-more}
use Rattle.cs_records.specs.Group.{IsAlike}
use Rattle.cs_records.proofs.grouping.run_length.Goals as goal

pub loop-item-preserved : goal.loop-item-preserved
loop-item-preserved c =
    let alike : IsAlike c.args.first.now c.item-item.result = c.if-not-are_alike.ensures.0 refl in
    record {
      count = omega (arith, c.loop-item.invariant.count);
      few = omega (arith, c.loop-item.invariant.few, c.if-count-eq-MORE.false);
      alike = All-more (IsAlike c.args.first.now) c.args.more.now c.loop-item.item-index c.item-item.result c.loop-item-test.true c.loop-item.invariant.alike (rw (← c.item-item.is) alike);
    }
