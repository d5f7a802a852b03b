use Rattle.std.proofs.Common.{◌≡◌, length, map}
use Rattle.cs_script.specs.Members.{is_listed}
use Rattle.cs_script.proofs.members.is_listed.Given as goal

abbrev pub invariant-loop-rest : goal.invariant-loop-rest
invariant-loop-rest l = is_listed l.name (map (λ s. s.now) l.rest) ≡ is_listed l.name (map (λ s. s.now) l.known)

abbrev pub decreases-loop-rest : goal.decreases-loop-rest
decreases-loop-rest l = length l.rest
