use Rattle.std.proofs.Common.{◌≡◌, ◌^◌, ◌<◌, ◌≤◌, ◌++◌, string_bytes}
use Rattle.cs_types.specs.Numeric.{fraction_digits, fraction_text}
use Rattle.cs_types.proofs.numeric.write_fraction.Given as goal

abbrev pub invariant-loop-rest : goal.invariant-loop-rest
invariant-loop-rest l = (l.places ≤ 9) × (l.rest < 10 ^ l.places) × (string_bytes l.text ++ fraction_digits l.places l.rest ≡ fraction_text l.n)

abbrev pub decreases-loop-rest : goal.decreases-loop-rest
decreases-loop-rest l = l.places
