use Rattle.std.proofs.Common.{◌≡◌, ◌+◌, ◌<◌, ◌≤◌, [], ◌∷◌, length, drop, get_or, rules, subst, ap, ◌∙◌, None, drop_of_length-le}
use Rattle.std.proofs.lemmas.List.{drop_more}
use Rattle.cs_tree.specs.Order.{Name}
use Rattle.cs_tree.specs.View.{view, members_view}
use Rattle.cs_tree.specs.declared.entries.Entry.{Entry}
use Rattle.cs_tree.specs.declared.tree.Tree.{Tree}
use Rattle.cs_script.specs.Readings.{Gives, behind}
use Rattle.cs_script.specs.Cells.{key_cell_reading, each_key_cell}
use Rattle.cs_script.specs.Gathering.{HasNames}
use Rattle.cs_script.proofs.CellsMore.{cell_more, rising_cells}
use Rattle.cs_script.proofs.cells.each_key_cell.Goals as goal

pub loop-entry-preserved : goal.loop-entry-preserved
loop-entry-preserved c =
    let e = c.entry-item.result in
    let all = c.args.members.now in
    let i = c.loop-entry.entry-index in
    let left = drop (i + 1) all in
    let cells = c.loop-entry.cells in
    let now = c.in_ok-cells.cells in
    let given : Gives c.key_cell_of.result (key_cell_reading c.args.table.now e.name.now (view e.tree)) =
    c.key_cell_of.ensures.reading in
    let within : i < length all = search rules in
    let at : get_or all i e ≡ e = search rules in
    let next : drop i all ≡ e ∷ left = drop_more all i e within ∙ ap (λ (x : Entry Name Tree). x ∷ left) at in
    let more = c.in_ok-cells.ensures.more (key_cell_reading c.args.table.now e.name.now (view e.tree)) (each_key_cell c.args.table.now (members_view left)) given in
    let before : behind cells.cause cells.items (each_key_cell c.args.table.now (members_view (e ∷ left))) ≡ each_key_cell c.args.table.now (members_view all) =
    subst (λ it. behind cells.cause cells.items (each_key_cell c.args.table.now (members_view it)) ≡ each_key_cell c.args.table.now (members_view all)) next c.loop-entry.invariant.reading in
    record {
      reading = more ∙ before;
      has = cell_more cells.items now.items cells.cause now.cause e left all c.key_cell_of.result c.key_cell_of.ensures.column c.key_cell_of.ensures.in_range
          (subst (λ it. cells.cause ≡ None → HasNames cells.items it all) next c.loop-entry.invariant.has) c.in_ok-cells.ensures.kept;
    }

pub in_order-requires-clause-rising : goal.in_order-requires-clause-rising
in_order-requires-clause-rising c =
    let all = c.args.members.now in
    let left = drop c.loop-entry.entry-index all in
    let has = c.loop-entry.invariant.has c.in_ok-items.ensures.ok.0 in
    let same = ap length c.as_slice-entry-items.ensures.entries in
    let over : length all ≤ c.loop-entry.entry-index = search (rules, same) in
    let none : left ≡ [] = drop_of_length-le all over in
    search (rules, rising_cells c.loop-entry.cells.items all left none has c.as_slice-entry-items.ensures.rising)
