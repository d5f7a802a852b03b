use Rattle.std.proofs.Common.{◌≡◌, ℕ, ◌<◌, ◌≤◌, ◌-◌, length, get_or, true, false}
use Rattle.cs_schedule.specs.declared.slots.Slot.{Slot}
use Rattle.cs_schedule.specs.Index.{slot_le}
use Rattle.cs_schedule.proofs.slots.place_of.Given as goal

-- the slot is behind those before the first bound, and not behind those from the second on
abbrev pub invariant-loop-low : goal.invariant-loop-low
invariant-loop-low l = (l.low ≤ l.high) × (l.high ≤ length l.slots) × ((k : ℕ) (d : Slot) → k < l.low → slot_le l.slot (get_or l.slots k d) ≡ false) × ((k : ℕ) (d : Slot) → k < length l.slots → l.high ≤ k → slot_le l.slot (get_or l.slots k d) ≡ true)

abbrev pub decreases-loop-low : goal.decreases-loop-low
decreases-loop-low l = l.high - l.low
