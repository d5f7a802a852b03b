use Rattle.std.proofs.Common.{◌≡◌, drop}
use Rattle.cs_schema.specs.Options.{capture_set}
use Rattle.cs_schema.proofs.options.capture_by.Given as goal

abbrev pub invariant-loop-option : goal.invariant-loop-option
invariant-loop-option l = capture_set l.capture (drop l.option-index l.options) ≡ capture_set l.fn.before l.options
