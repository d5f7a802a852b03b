use Rattle.std.proofs.Common.{◌≡◌, drop, []}
use Rattle.cs_schema.specs.Options.{option_fault}
use Rattle.cs_schema.proofs.options.check_options.Given as goal

abbrev pub invariant-loop-option : goal.invariant-loop-option
invariant-loop-option l = option_fault l.seen (drop l.option-index l.options) ≡ option_fault [] l.options
