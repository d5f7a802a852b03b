-- How much may still be added to the rows of a board, whatever a server answers: each READ adds something. This project's own.
use Rattle.std.specs.Prelude.{ℕ, suc, ◌+◌, ◌-◌, ◌*◌, List, [], ◌∷◌, length, if◌then◌else◌}
use Rattle.cs_schedule.specs.declared.row.Row.{Row}

-- of a row, in a window that ends at e: that it is finished, and for each moment that is not complete that it is, and so many seen changes
abbrev pub row_left : ℕ → Row → ℕ
row_left e r = if r.finished then 0 else suc ((suc e - r.through) * 1025 + (1024 - length r.seen))

-- more than of any row
abbrev pub row_most : ℕ → ℕ
row_most e = suc (suc (suc e * 1025 + 1024))

abbrev pub rows_left : ℕ → List Row → ℕ
rows_left e [] = 0
rows_left e (r ∷ rows) = row_left e r + rows_left e rows

-- of the rows that there are and of those that there may still be
abbrev pub left_of : ℕ → List Row → ℕ
left_of e rows = (65536 - length rows) * row_most e + rows_left e rows
