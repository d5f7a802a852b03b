-- Rows of which none may be read, and what they wait for. This project's own.
use Rattle.std.specs.Prelude.{◌≡◌, ◌≤◌, ℕ, suc, true, false, List, [], ◌∷◌, Option, Some, None, if◌then◌else◌, Contains}
use Rattle.cs_schedule.specs.declared.row.Row.{Row}
use Rattle.cs_schedule.specs.Board.{has_ended, may_read}

abbrev pub NoneMayRead : List Row → Type 0
NoneMayRead rows = (r : Row) → Contains rows r → may_read rows r ≡ false

-- nothing is leased
abbrev pub AreFree : List Row → Type 0
AreFree rows = (r : Row) → Contains rows r → r.leased ≡ false

abbrev pub AreFinished : List Row → Type 0
AreFinished rows = (r : Row) → Contains rows r → r.finished ≡ true

-- what is complete of a row begins with its start, and is in a window that ends at e
pub record IsWithin (e : ℕ) (r : Row) : Type 0 where
  pub start : r.start ≤ suc r.through
  pub end : r.through ≤ e

abbrev pub AreWithin : ℕ → List Row → Type 0
AreWithin e rows = (r : Row) → Contains rows r → IsWithin e r

-- the first row that is not finished
abbrev pub first_unfinished : List Row → Option Row
first_unfinished [] = None
first_unfinished (r ∷ rows) = if r.finished then first_unfinished rows else Some r

-- the first of the tokens that has no finished row
abbrev pub first_missing : List Row → List (List ℕ) → Option (List ℕ)
first_missing rows [] = None
first_missing rows (t ∷ tokens) = if has_ended rows t then first_missing rows tokens else Some t

-- no row may be read, and the first unfinished one waits for this parent, the first of its own that has no finished row
pub record IsOrphan (rows : List Row) (row parent : List ℕ) : Type 0 where
  pub none : NoneMayRead rows
  pub waiting : Row
  pub first : first_unfinished rows ≡ Some waiting
  pub its : waiting.token ≡ row
  pub missing : first_missing rows waiting.parents ≡ Some parent
