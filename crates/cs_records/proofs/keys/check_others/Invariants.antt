use Rattle.std.proofs.Common.{◌≡◌, drop}
use Rattle.cs_records.specs.Told.{first_key_fault}
use Rattle.cs_records.proofs.keys.check_others.Given as goal

abbrev pub invariant-loop-one : goal.invariant-loop-one
invariant-loop-one l = first_key_fault l.columns (drop l.one-index l.more) ≡ first_key_fault l.columns l.more
