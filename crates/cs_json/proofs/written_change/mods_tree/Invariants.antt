use Rattle.std.proofs.Common.{◌≡◌, ◌++◌, All, map, take, drop}
use Rattle.serde_json.specs.View.{view}
use Rattle.cs_json.specs.Written.{mod_data, IsKeptMod}
use Rattle.cs_json.proofs.written_change.mods_tree.Given as goal

abbrev pub invariant-loop-item : goal.invariant-loop-item
invariant-loop-item l = record {
  kept : All IsKeptMod (take l.item-index l.mods);
  trees : map view l.trees.items ++ map mod_data (drop l.item-index l.mods) ≡ map mod_data l.mods;
}
