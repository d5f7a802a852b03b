use Rattle.std.proofs.Common.{arith}
use Rattle.std.proofs.lemmas.List.{length_push}
use Rattle.cs_stream_worked.proofs.Inserts.{all_agree, all_apart, all_columns, one_more}
use Rattle.cs_stream_worked.proofs.making.inserts.Goals as goal

pub returns : goal.returns
returns c = record {
  agree = all_agree c.args.stamp c.loop-number.items c.loop-number.invariant.inserts;
  rows = all_apart c.same_row_is_equality.ensures c.args.stamp c.loop-number.items c.loop-number.invariant.inserts;
  columns = all_columns c.args.stamp c.loop-number.items c.loop-number.invariant.inserts;
  count = omega (arith, c.loop-number.invariant.count, c.loop-number-test.false, c.loop-number.auto.number-end);
}

pub loop-number-preserved : goal.loop-number-preserved
loop-number-preserved c =
    rw c.in_ok-push.ensures.ok (record {
      inserts = one_more c.args.stamp c.loop-number.items c.in_ok-insert.field-0 c.loop-number.number c.loop-number.invariant.inserts c.loop-number.invariant.count
          c.in_ok-insert.ensures;
      count = omega (arith, c.loop-number.invariant.count, length_push c.loop-number.items c.in_ok-insert.field-0);
    })
