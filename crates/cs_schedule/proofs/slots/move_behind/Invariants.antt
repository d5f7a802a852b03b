use Rattle.std.proofs.Common.{◌≡◌, vec_capacity}
use Rattle.cs_schedule.specs.Index.{behind}
use Rattle.cs_schedule.proofs.Sorted.{upto}
use Rattle.cs_schedule.proofs.slots.move_behind.Given as goal

-- the slots before the index are moved
abbrev pub invariant-loop-index : goal.invariant-loop-index
invariant-loop-index l = (l.slots.items ≡ upto (behind l.place) l.index l.fn.slots.items) × (vec_capacity l.slots ≡ vec_capacity l.fn.slots)
