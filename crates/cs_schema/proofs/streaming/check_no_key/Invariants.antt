use Rattle.std.proofs.Common.{◌≡◌, drop}
use Rattle.cs_types.specs.Firsts.{first_of}
use Rattle.cs_schema.specs.Streaming.{is_key}
use Rattle.cs_schema.proofs.streaming.check_no_key.Given as goal

abbrev pub invariant-loop-name : goal.invariant-loop-name
invariant-loop-name l = first_of (is_key l.key) (drop l.name-index l.names) ≡ first_of (is_key l.key) l.names
