use Rattle.std.proofs.Common.{◌∙◌, ap}
use Rattle.std.proofs.lemmas.List.{take_all}
use Rattle.std.proofs.lemmas.List.Elements.{All-more}
use Rattle.serde_json.specs.Data.{array}
use Rattle.serde_json.specs.View.{items_of}
use Rattle.serde_json.proofs.Views.{view-Array}
use Rattle.cs_json.specs.Written.{child_data, IsKeptChild}
use Rattle.cs_json.proofs.Put.{tree_more, all_trees}
use Rattle.cs_json.proofs.writing.partitions_tree.Goals as goal

pub loop-child-preserved : goal.loop-child-preserved
loop-child-preserved c = record {
  kept = All-more IsKeptChild c.args.children.now c.loop-child.child-index c.child-item.result c.loop-child-test.true c.loop-child.invariant.kept (rw (← c.child-item.is) c.in_ok-child_tree.ensures.kept);
  trees = rw c.in_ok-push.ensures.items (tree_more child_data c.args.children.now c.loop-child.child-index c.child-item.result c.loop-child.trees.items c.in_ok-child_tree.field-0 c.child-item.is c.loop-child-test.true c.in_ok-child_tree.ensures.value c.loop-child.invariant.trees);
}

pub returns-clause-kept : goal.returns-clause-kept
returns-clause-kept c = rw (take_all c.loop-child.child-index c.args.children.now c.loop-child-test.false) at c.loop-child.invariant.kept

pub returns-clause-value : goal.returns-clause-value
returns-clause-value c = view-Array c.loop-child.trees ∙ ap (λ ds. array (items_of ds)) (all_trees child_data c.args.children.now c.loop-child.child-index c.loop-child.trees.items c.loop-child-test.false c.loop-child.invariant.trees)
