-- Which entries may follow others, by the rows that those have made, and what the fold of a list is. This project's own.
use Rattle.std.specs.Prelude.{◌↔◌, ℕ, suc, ◌<◌, Bool, true, false, not, ◌&&◌, ⊤, List, [], ◌∷◌, length, take, Option, Some, None, Result, Ok, Err, nat_le, Contains}
use Rattle.cs_types.specs.declared.names.Window.{Window}
use Rattle.cs_link.specs.declared.batch.NewChild.{NewChild}
use Rattle.cs_schedule.specs.declared.entry.Entry.{Entry}
use Rattle.cs_schedule.specs.declared.entry.Entry.TheVariants.{Begin, Opened, Progress, Finished}
use Rattle.cs_schedule.specs.declared.fold.FoldFault.{FoldFault}
use Rattle.cs_schedule.specs.declared.fold.FoldFault.TheVariants as faults
use Rattle.cs_schedule.specs.declared.row.Row.{Row}
use Rattle.cs_schedule.specs.Board.{Shown, row_of}
use Rattle.cs_schedule.specs.Plan.{is_other}
use Rattle.cs_schedule.specs.Rows.{rows_of, Folds}

abbrev pub has_no_row : List Row → Bool
has_no_row [] = true
has_no_row (r ∷ rows) = false

-- whether a row is there and not finished, and goes on to a moment in a window that ends at e
abbrev pub may_go_on : ℕ → Option Row → ℕ → Bool
may_go_on e None n = false
may_go_on e (Some r) n = not r.finished && (nat_le r.through n && nat_le n e)

abbrev pub is_as : NewChild → Option Row → Bool
is_as x None = true
is_as x (Some r) = not (is_other x r)

-- whether children start in a window that ends at e, and are named as their rows are
abbrev pub may_come : ℕ → List Row → List NewChild → Bool
may_come e rows [] = true
may_come e rows (x ∷ xs) = (nat_le x.start e && is_as x (row_of rows x.token)) && may_come e rows xs

-- whether an entry may follow those that made the rows
abbrev pub may_follow : ℕ → List Row → Entry → Bool
may_follow e rows (Begin w) = false
may_follow e rows (Opened tokens) = has_no_row rows
may_follow e rows (Progress t n cs) = may_go_on e (row_of rows t) n
may_follow e rows (Finished t n cs xs) = may_go_on e (row_of rows t) n && may_come e rows xs

-- ---- the fold

abbrev pub DoFold : List Entry → Type 0
DoFold es = (w : Window) × Folds w es

-- the board is the one that the entries make
pub record IsFoldOf (es : List Entry) (b : Shown) : Type 0 where
  pub folds : Folds b.window es
  pub rows : (r : Row) → Contains b.rows r ↔ Contains (rows_of b.window.start es) r

-- the entries before a place fold, and with the one at the place they do not
pub record IsFirstBad (es : List Entry) (place : ℕ) : Type 0 where
  pub inside : place < length es
  pub before : DoFold (take place es)
  pub not_with : DoFold (take (suc place) es) → ⊥

-- what is answered of a list of entries
abbrev pub FoldsTo : List Entry → Result Shown FoldFault → Type 0
FoldsTo es (Ok b) = IsFoldOf es b
FoldsTo es (Err (faults.Bad place)) = IsFirstBad es place
FoldsTo es (Err faults.Memory) = ⊤
