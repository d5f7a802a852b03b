use Rattle.std.proofs.Common.{arith}
use Rattle.std.proofs.lemmas.Grind.{common_steps}
use Rattle.std.proofs.lemmas.List.Elements.{All-same, All-push}
use Rattle.cs_types.specs.declared.cells.Cell.{Cell}
use Rattle.cs_types.specs.Value.{IsInRange}
use Rattle.cs_txn.proofs.left.items_for.Goals as goal

pub loop-column-preserved : goal.loop-column-preserved
loop-column-preserved c =
    let P : Cell → Type 0 = λ x. IsInRange x.value in
    record {
      cells = grind (arith, common_steps);
      in_range = All-same P _ _ c.in_ok-push.ensures.items (All-push P c.loop-column.cells.items _ c.loop-column.invariant.in_range c.in_ok-value_of.ensures.in_range);
    }
