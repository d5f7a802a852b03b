use Rattle.std.proofs.Common.{◌≡◌, drop}
use Rattle.cs_steps.specs.Query.{argument_named}
use Rattle.cs_steps.proofs.query.argument_named.Given as goal

abbrev pub invariant-loop-argument : goal.invariant-loop-argument
invariant-loop-argument l = argument_named l.name (drop l.argument-index l.arguments) ≡ argument_named l.name l.arguments
