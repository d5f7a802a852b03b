use Rattle.std.proofs.Common.{◌≡◌, map, take, vec_capacity}
use Rattle.cs_schedule.specs.Board.{has_ended}
use Rattle.cs_schedule.specs.Index.{free_key, slots_from}
use Rattle.cs_schedule.proofs.index.fill_free.Given as goal

-- the slots of the rows before the place stand
abbrev pub invariant-loop-place : goal.invariant-loop-place
invariant-loop-place l = (l.free.items ≡ slots_from 0 (take l.place (map (free_key (has_ended l.all)) l.all))) × (vec_capacity l.free ≡ vec_capacity l.fn.free)
