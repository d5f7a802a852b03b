use Rattle.std.proofs.Common.{ℕ, ◌<◌, ◌≤◌, ◌-◌, length, get_or}
use Rattle.cs_schedule.specs.declared.slots.Slot.{Slot}
use Rattle.cs_schedule.proofs.slots.end_of.Given as goal

-- the number is not below those before the first bound, and below those from the second on
abbrev pub invariant-loop-low : goal.invariant-loop-low
invariant-loop-low l = (l.low ≤ l.high) × (l.high ≤ length l.slots) × ((k : ℕ) (d : Slot) → k < l.low → (get_or l.slots k d).key ≤ l.key) × ((k : ℕ) (d : Slot) → k < length l.slots → l.high ≤ k → l.key < (get_or l.slots k d).key)

abbrev pub decreases-loop-low : goal.decreases-loop-low
decreases-loop-low l = l.high - l.low
