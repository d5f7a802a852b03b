use Rattle.std.proofs.Common.{rules, arith, sym, subst, All, take}
use Rattle.std.proofs.lemmas.Grind.{common_steps}
use Rattle.std.proofs.lemmas.List.{take_all}
use Rattle.std.proofs.lemmas.List.Elements.{All-push}
use Rattle.cs_txn.specs.Fits.{HasCells}
use Rattle.cs_txn.proofs.Steps.{take_next}
use Rattle.cs_txn.proofs.sizes.weights.Goals as goal

pub loop-item-preserved : goal.loop-item-preserved
loop-item-preserved c = record {
  sizes = grind (arith, common_steps);
  cells = subst (All HasCells) (sym (take_next c.args.added.now c.loop-item.item-index c.item-item.result (search rules) (search rules))) (All-push HasCells (take c.loop-item.item-index c.args.added.now) c.item-item.result c.loop-item.invariant.cells c.in_ok-weigh.ensures.cells);
  refused = grind (arith, common_steps);
}

pub returns-clause-cells : goal.returns-clause-cells
returns-clause-cells c = subst (All HasCells) (take_all c.loop-item.item-index c.args.added.now (search rules)) c.loop-item.invariant.cells
