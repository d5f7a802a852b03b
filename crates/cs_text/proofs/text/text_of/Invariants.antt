use Rattle.std.proofs.Common.{◌≤◌, take}
use Rattle.cs_text.specs.Adding.{Tells}
use Rattle.cs_text.proofs.text.text_of.Given as goal

-- the board, the mark and the lines are those of the entries so far
abbrev pub invariant-loop-place : goal.invariant-loop-place
invariant-loop-place l = (1 ≤ l.place) × (1 ≤ l.telling.marked) × Tells l.telling.board l.telling.marked l.telling.lines (take l.place l.entries)
