use Rattle.std.proofs.Common.{◌≡◌, ◌++◌, drop}
use Rattle.std.specs.Prelude.{filter_map}
use Rattle.cs_capture.specs.Wanted.{change_between}
use Rattle.cs_capture.proofs.changes.captured_between.Given as goal

abbrev pub invariant-loop-item : goal.invariant-loop-item
invariant-loop-item l = l.changes ++ filter_map (change_between l.catalog.tables l.stream l.start l.end) (drop l.item-index l.items) ≡ filter_map (change_between l.catalog.tables l.stream l.start l.end) l.items
