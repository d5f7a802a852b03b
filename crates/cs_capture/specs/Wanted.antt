-- The changes that a stream captures of a history (Spanner's page 'Change streams overview').
use Rattle.std.specs.Prelude.{ℕ, List, None, cond, filter_map}
use Rattle.std.specs.Int.{is_in_range}
use Rattle.std.specs.declared.option.Option.{Option}
use Rattle.cs_types.specs.declared.change.Change.{Change}
use Rattle.cs_schema.specs.declared.types.Table.{Table}
use Rattle.cs_schema.specs.declared.types.Stream.{Stream}
use Rattle.cs_txn.specs.declared.txn.Modification.{Modification}
use Rattle.cs_capture.specs.Captured.{captured_change}

-- the captured changes of modifications, in their order
abbrev pub captured_changes : List Table → Stream → List Modification → List Change
captured_changes tables stream ms = filter_map (captured_change tables stream) ms

-- the captured change of a modification from a start to an end, both among them
abbrev pub change_between : List Table → Stream → ℕ → ℕ → Modification → Option Change
change_between tables stream start end m = cond (is_in_range start end m.stamp) (captured_change tables stream m) None
