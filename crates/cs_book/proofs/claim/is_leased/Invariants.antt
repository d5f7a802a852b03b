use Rattle.std.proofs.Common.{◌≡◌, length}
use Rattle.cs_book.specs.Claim.{is_leased}
use Rattle.cs_book.proofs.claim.is_leased.Given as goal

abbrev pub invariant-loop-rest : goal.invariant-loop-rest
invariant-loop-rest l = is_leased l.rest ≡ is_leased l.rows

abbrev pub decreases-loop-rest : goal.decreases-loop-rest
decreases-loop-rest l = length l.rest
