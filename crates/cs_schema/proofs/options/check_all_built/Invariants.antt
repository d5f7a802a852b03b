use Rattle.std.proofs.Common.{◌≡◌, drop}
use Rattle.cs_types.specs.Firsts.{first_of}
use Rattle.cs_schema.specs.Options.{built_fault}
use Rattle.cs_schema.proofs.options.check_all_built.Given as goal

abbrev pub invariant-loop-option : goal.invariant-loop-option
invariant-loop-option l = first_of built_fault (drop l.option-index l.options) ≡ first_of built_fault l.options
