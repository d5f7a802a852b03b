use Rattle.std.proofs.Common.{◌≡◌, ◌<◌, length, ap, sym, subst, ◌∙◌, arith}
use Rattle.serde_json.specs.View.{view, items_view}
use Rattle.cs_json_reading.specs.Reading.{Gives, each}
use Rattle.cs_json_reading.specs.Cells.{mod_reading, mods_reading, some_mods}
use Rattle.cs_json_reading.proofs.Mods.{some_mods_are}
use Rattle.cs_json_reading.proofs.cells.mods_of.Goals as goal

pub returns : goal.returns
unfolding mods_reading
returns c =
    let more : 0 < length c.in_ok-trees.trees.now = grind arith in
    let same : each (mod_reading c.args.columns.now) (items_view c.in_ok-trees.trees.now) ≡ mods_reading c.args.columns.now (view c.args.tree.now) =
    sym (ap (some_mods c.args.columns.now) c.in_ok-trees.ensures ∙ some_mods_are c.args.columns.now c.in_ok-trees.trees.now more) in
    subst (λ r. Gives c.each.result r) same c.each.ensures
