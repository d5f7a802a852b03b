use Rattle.std.proofs.Common.{◌≡◌, vec_capacity}
use Rattle.cs_schedule.proofs.Changed.{fresh_upto}
use Rattle.cs_schedule.proofs.turn.set_fresh.Given as goal

-- the rows before the place are fresh
abbrev pub invariant-loop-place : goal.invariant-loop-place
invariant-loop-place l = (l.rows.items ≡ fresh_upto l.place l.fn.rows.items) × (vec_capacity l.rows ≡ vec_capacity l.fn.rows)
