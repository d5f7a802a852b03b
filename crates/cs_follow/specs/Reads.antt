-- Which READs a follower opens, where its link tells the list of them. This project's own.
use Rattle.std.specs.Prelude.{◌≡◌, ◌≤◌, ℕ, false, List, [], ◌++◌, Option, Some, None, Contains, ⊤}
use Rattle.cs_link.specs.declared.reading.ReadArgs.{ReadArgs}
use Rattle.cs_schedule.specs.declared.row.Row.{Row}
use Rattle.cs_book.specs.Lease.{row_start}

-- where the READs were told before, they are told now, others stand behind them, and each of these is such
abbrev pub HasRead : Option (List ReadArgs) → Option (List ReadArgs) → (ReadArgs → Type 0) → Type 0
HasRead None now IsSuch = ⊤
HasRead (Some before) now IsSuch = (more : List ReadArgs) × (now ≡ Some (before ++ more)) × ((args : ReadArgs) → Contains more args → IsSuch args)

-- one without a token comes only before there are rows; one of a row that is there comes only while it is not finished, and does not start below where the row is read on
abbrev pub StartsAs : List Row → Option (List ℕ) → ℕ → Type 0
StartsAs rows None start = rows ≡ []
StartsAs rows (Some t) start = (r : Row) → Contains rows r → r.token ≡ t → (r.finished ≡ false) × (row_start r ≤ start)

abbrev pub StartsAtRow : List Row → ReadArgs → Type 0
StartsAtRow rows args = StartsAs rows args.token args.start

-- ---- rows that do not fall back

-- a row of the same token, which is read on from no lower and is not unfinished again
pub record IsOn (r y : Row) : Type 0 where
  pub token : y.token ≡ r.token
  pub start : row_start r ≤ row_start y
  pub finished : y.finished ≡ false → r.finished ≡ false

pub record NotBack (old new : List Row) : Type 0 where
  pub none : new ≡ [] → old ≡ []
  pub each : (r : Row) → Contains old r → (y : Row) × Contains new y × IsOn r y
