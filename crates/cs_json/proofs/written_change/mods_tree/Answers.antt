use Rattle.std.proofs.Common.{◌∙◌, ap}
use Rattle.std.proofs.lemmas.List.{take_all}
use Rattle.std.proofs.lemmas.List.Elements.{All-more}
use Rattle.serde_json.specs.Data.{array}
use Rattle.serde_json.specs.View.{items_of}
use Rattle.serde_json.proofs.Views.{view-Array}
use Rattle.cs_json.specs.Written.{mod_data, IsKeptMod}
use Rattle.cs_json.proofs.Put.{tree_more, all_trees}
use Rattle.cs_json.proofs.written_change.mods_tree.Goals as goal

pub loop-item-preserved : goal.loop-item-preserved
loop-item-preserved c = record {
  kept = All-more IsKeptMod c.args.mods.now c.loop-item.item-index c.item-item.result c.loop-item-test.true c.loop-item.invariant.kept (rw (← c.item-item.is) c.in_ok-mod_tree.ensures.kept);
  trees = rw c.in_ok-push.ensures.items (tree_more mod_data c.args.mods.now c.loop-item.item-index c.item-item.result c.loop-item.trees.items c.in_ok-mod_tree.field-0 c.item-item.is c.loop-item-test.true c.in_ok-mod_tree.ensures.value c.loop-item.invariant.trees);
}

pub returns-clause-kept : goal.returns-clause-kept
returns-clause-kept c = rw (take_all c.loop-item.item-index c.args.mods.now c.loop-item-test.false) at c.loop-item.invariant.kept

pub returns-clause-value : goal.returns-clause-value
returns-clause-value c = view-Array c.loop-item.trees ∙ ap (λ ds. array (items_of ds)) (all_trees mod_data c.args.mods.now c.loop-item.item-index c.loop-item.trees.items c.loop-item-test.false c.loop-item.invariant.trees)
