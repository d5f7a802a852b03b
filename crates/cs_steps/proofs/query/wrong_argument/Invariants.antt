use Rattle.std.proofs.Common.{◌≡◌, ◌≤◌, ◌-◌, drop, take, length, []}
use Rattle.cs_steps.specs.Query.{wrong_argument}
use Rattle.cs_steps.proofs.query.wrong_argument.Given as goal

abbrev pub invariant-loop-place : goal.invariant-loop-place
invariant-loop-place l = (l.place ≤ length l.arguments) × (wrong_argument (take l.place l.arguments) (drop l.place l.arguments) ≡ wrong_argument [] l.arguments)

abbrev pub decreases-loop-place : goal.decreases-loop-place
decreases-loop-place l = length l.arguments - l.place
