use Rattle.std.proofs.Common.{◌≡◌, drop}
use Rattle.cs_types.specs.Firsts.{first_of}
use Rattle.cs_schema.specs.Options.{retention_fault}
use Rattle.cs_schema.proofs.options.check_retentions.Given as goal

abbrev pub invariant-loop-option : goal.invariant-loop-option
invariant-loop-option l = first_of retention_fault (drop l.option-index l.options) ≡ first_of retention_fault l.options
