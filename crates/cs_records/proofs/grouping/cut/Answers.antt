use Rattle.std.proofs.Common.{[], arith, rules, length}
use Rattle.std.proofs.lemmas.List.{append-nil, drop_all, length_push}
use Rattle.cs_records.proofs.Groups.{cut_more}
use Rattle.cs_records.proofs.grouping.cut.Goals as goal

pub returns : goal.returns
returns c = rw append-nil at (c.loop-at.invariant.rest [] (drop_all c.loop-at.at c.args.captured.now c.loop-at-test.false))

pub loop-at-preserved : goal.loop-at-preserved
loop-at-preserved c =
    rw c.in_ok-push.ensures.ok (record {
      within = search rules;
      numbers = omega (arith, c.loop-at.invariant.numbers, length_push c.loop-at.records c.in_ok-next.next);
      few = grind (arith, c.loop-at.invariant.few, c.in_ok-next.ensures.some, length_push c.loop-at.records c.in_ok-next.next);
      rest = λ more cut.
          cut_more c.args.next_sequence c.loop-at.sequence c.loop-at.at (length c.in_ok-next.next.mods) c.args.captured.now c.loop-at.records c.in_ok-next.next c.in_ok-next.ensures.next c.loop-at.invariant.rest more (search (rules, cut));
    })
