use Rattle.std.proofs.Common.{◌≡◌, length}
use Rattle.cs_words.specs.Numbers.{are_name_bytes}
use Rattle.cs_words.proofs.numbers.are_name_bytes.Given as goal

abbrev pub invariant-loop-rest : goal.invariant-loop-rest
invariant-loop-rest l = are_name_bytes l.rest ≡ are_name_bytes l.text

abbrev pub decreases-loop-rest : goal.decreases-loop-rest
decreases-loop-rest l = length l.rest
