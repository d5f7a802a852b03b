use Rattle.std.proofs.Common.{◌≡◌, drop}
use Rattle.cs_records.specs.Columns.{first_beyond}
use Rattle.cs_records.proofs.keys.first_beyond.Given as goal

abbrev pub invariant-loop-name : goal.invariant-loop-name
invariant-loop-name l = first_beyond l.others (drop l.name-index l.names) ≡ first_beyond l.others l.names
