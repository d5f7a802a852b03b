use Rattle.std.proofs.Common.{◌<◌, ◌^◌, ◌∙◌, ap}
use Rattle.std.proofs.lemmas.List.{take_all}
use Rattle.std.proofs.lemmas.List.Elements.{All-more}
use Rattle.serde_json.specs.Data.{array}
use Rattle.serde_json.specs.View.{items_of}
use Rattle.serde_json.proofs.Views.{view-Array}
use Rattle.cs_records.specs.declared.captured.ColumnInfo.{ColumnInfo}
use Rattle.cs_json.specs.Written.{column_data}
use Rattle.cs_json.proofs.Put.{tree_more, all_trees}
use Rattle.cs_json.proofs.written_change.columns_tree.Goals as goal

pub loop-column-preserved : goal.loop-column-preserved
loop-column-preserved c = record {
  kept = All-more (λ (x : ColumnInfo). x.ordinal < 2 ^ 32) c.args.columns.now c.loop-column.column-index c.column-item.result c.loop-column-test.true c.loop-column.invariant.kept (rw (← c.column-item.is) c.in_ok-column_tree.ensures.kept);
  trees = rw c.in_ok-push.ensures.items (tree_more column_data c.args.columns.now c.loop-column.column-index c.column-item.result c.loop-column.trees.items c.in_ok-column_tree.field-0 c.column-item.is c.loop-column-test.true c.in_ok-column_tree.ensures.value c.loop-column.invariant.trees);
}

pub returns-clause-kept : goal.returns-clause-kept
returns-clause-kept c = rw (take_all c.loop-column.column-index c.args.columns.now c.loop-column-test.false) at c.loop-column.invariant.kept

pub returns-clause-value : goal.returns-clause-value
returns-clause-value c = view-Array c.loop-column.trees ∙ ap (λ ds. array (items_of ds)) (all_trees column_data c.args.columns.now c.loop-column.column-index c.loop-column.trees.items c.loop-column-test.false c.loop-column.invariant.trees)
