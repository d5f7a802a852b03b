use Rattle.std.proofs.Common.{◌≡◌, ◌-◌, length}
use Rattle.cs_schedule.specs.Index.{places_in}
use Rattle.cs_schedule.proofs.Woken.{IsWaking}
use Rattle.cs_schedule.proofs.index.wake.Given as goal

-- the rows before the place stand where they do now
abbrev pub invariant-loop-place : goal.invariant-loop-place
invariant-loop-place l = IsWaking l.from l.token l.all l.index × (places_in l.index ≡ places_in l.fn.index)

abbrev pub decreases-loop-place : goal.decreases-loop-place
decreases-loop-place l = length l.all - l.from
