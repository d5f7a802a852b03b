use Rattle.std.proofs.Common.{◌≡◌, drop}
use Rattle.cs_steps.specs.Query.{stands_among}
use Rattle.cs_steps.proofs.query.stands_among.Given as goal

abbrev pub invariant-loop-argument : goal.invariant-loop-argument
invariant-loop-argument l = stands_among l.name (drop l.argument-index l.arguments) ≡ stands_among l.name l.arguments
