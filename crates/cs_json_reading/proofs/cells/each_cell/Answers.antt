use Rattle.std.proofs.Common.{◌≡◌, Ok, rules, sym, List, ℕ, ap, ◌∙◌, string_bytes}
use Rattle.std.proofs.lemmas.List.Elements.{All-push}
use Rattle.serde_json.specs.View.{view}
use Rattle.cs_types.specs.declared.cells.Cell.{Cell}
use Rattle.cs_types.specs.Value.{IsInRange}
use Rattle.cs_json_reading.specs.Cells.{cell_reading}
use Rattle.cs_json_reading.proofs.CellsMore.{cells_more, names_more, rising_cells}
use Rattle.cs_json_reading.proofs.cells.each_cell.Goals as goal

pub loop-name-preserved : goal.loop-name-preserved
loop-name-preserved c =
    let read : cell_reading c.args.columns.now (string_bytes c.in-Some.name.now) (view c.in-Some.tree.now) ≡ Ok c.in_ok-cell_of.field-0 =
    ap (λ (t : List ℕ). cell_reading c.args.columns.now t (view c.in-Some.tree.now)) (sym c.as_str.ensures.value) ∙ c.in_ok-cell_of.ensures.reading in
    let more = cells_more c.args.columns.now c.loop-name.cells (c.in-Some.name.now, c.in-Some.tree.now) c.next.new.self c.in_ok-cell_of.field-0 read in
    let names = names_more c.loop-name.cells (c.in-Some.name.now, c.in-Some.tree.now) c.next.new.self c.in_ok-cell_of.field-0 (c.in_ok-cell_of.ensures.column ∙ c.as_str.ensures.value) in
    let every = All-push (λ (x : Cell). IsInRange x.value) c.loop-name.cells c.in_ok-cell_of.field-0 c.loop-name.invariant.in_range c.in_ok-cell_of.ensures.in_range in
    record { reading = search (rules, more); names = search (rules, names); in_range = search (rules, every) }

pub returns-clause-rising : goal.returns-clause-rising
returns-clause-rising c = rising_cells c.loop-name.cells c.args.members.now.entries c.loop-name.name-iterator (search rules) c.loop-name.invariant.names c.iter-name-items.ensures.ordered
