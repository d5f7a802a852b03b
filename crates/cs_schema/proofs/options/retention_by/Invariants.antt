use Rattle.std.proofs.Common.{◌≡◌, drop}
use Rattle.cs_schema.specs.Options.{retention_set}
use Rattle.cs_schema.proofs.options.retention_by.Given as goal

abbrev pub invariant-loop-option : goal.invariant-loop-option
invariant-loop-option l = retention_set l.retention (drop l.option-index l.options) ≡ retention_set l.fn.before l.options
