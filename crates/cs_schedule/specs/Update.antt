-- What an entry makes of the rows of a board, and which plans are of a board as it stands. This project's own.
use Rattle.std.specs.Prelude.{◌≡◌, ◌⊎◌, ◌↔◌, ℕ, ◌+◌, ◌<◌, ◌≤◌, true, false, ◌||◌, ⊤, List, [], length, Option, Some, None, Result, Ok, Err, Contains}
use Rattle.cs_link.specs.declared.batch.Batch.{Batch}
use Rattle.cs_link.specs.declared.batch.NewChild.{NewChild}
use Rattle.cs_schedule.specs.declared.entry.Entry.{Entry}
use Rattle.cs_schedule.specs.declared.entry.Entry.TheVariants.{Opened}
use Rattle.cs_schedule.specs.declared.plan.PlanFault.{PlanFault}
use Rattle.cs_schedule.specs.declared.plan.PlanFault.TheVariants as faults
use Rattle.cs_schedule.specs.declared.row.Row.{Row}
use Rattle.cs_schedule.specs.declared.update.Moved.{Moved}
use Rattle.cs_schedule.specs.Board.{Shown, IsOrdered, changed_at}
use Rattle.cs_schedule.specs.Consistent.{put_rows, apply}
use Rattle.cs_schedule.specs.Plan.{Plans, planned, too_many}
use Rattle.cs_schedule.specs.Spelling.{are_rising, are_new}

-- a row that was read on
abbrev pub moved : Moved → Row → Row
moved m r = record { token = r.token; parents = r.parents; start = r.start; through = m.through; seen = m.seen; finished = r.finished || m.finished; leased = r.leased; tries = r.tries }

abbrev pub with_moved : Option Moved → List Row → List Row
with_moved None rows = rows
with_moved (Some m) rows = changed_at (moved m) m.place rows

abbrev pub IsThere : Option Moved → List Row → Type 0
IsThere None rows = ⊤
IsThere (Some m) rows = m.place < length rows

-- rows of which one was read on, and new ones among them
abbrev pub updated : Option Moved → List Row → List Row → List Row
updated m new rows = put_rows new (with_moved m rows)

abbrev pub AreUnfinished : List Row → Type 0
AreUnfinished rows = (r : Row) → Contains rows r → r.finished ≡ false

-- a plan: its entry, what the entry makes of rows, and how many rows it brings memory for
pub record Planned : Type 0 where
  pub entry : Option Entry
  pub moved : Option Moved
  pub new : List Row
  pub room : ℕ

-- the rows after an entry, or the same ones where there is none
abbrev pub applied : ℕ → List Row → Option Entry → List Row
applied s rows None = rows
applied s rows (Some x) = apply s rows x

-- there is memory for the rows and the new ones, in the one place or in the other
abbrev pub HasRoom : ℕ → ℕ → ℕ → Type 0
HasRoom count here there = (count ≤ here) ⊎ (count ≤ there)

-- the plan was made from the board as it stands
pub record IsPlanOf (b : Shown) (p : Planned) : Type 0 where
  -- what it makes of the rows is what its entry makes of them
  pub rows : updated p.moved p.new b.rows ≡ applied b.window.start b.rows p.entry
  pub ordered : IsOrdered (updated p.moved p.new b.rows)
  pub there : IsThere p.moved b.rows
  pub room : HasRoom (length b.rows + length p.new) b.room p.room

-- ---- the plan of a batch

-- the tokens rise, and are those of the children
pub record Opens (tokens : List (List ℕ)) (children : List NewChild) : Type 0 where
  pub rising : are_rising tokens ≡ true
  pub same : (t : List ℕ) → Contains tokens t ↔ ((y : NewChild) × Contains children y × (y.token ≡ t))

-- what a batch of the parts at the window's start makes: the entry that opens them, or a breach where they are too many
abbrev pub PlansFirst : List Row → List NewChild → Result (Option Entry) PlanFault → Type 0
PlansFirst rows children (Ok o) = (too_many rows children ≡ None) × (tokens : List (List ℕ)) × (o ≡ Some (Opened tokens)) × Opens tokens children
PlansFirst rows children (Err (faults.Breach breach)) = too_many rows children ≡ Some breach
PlansFirst rows children (Err faults.Memory) = ⊤

abbrev pub PlansOf : List Row → Batch → Option (List ℕ) → Result (Option Entry) PlanFault → Type 0
PlansOf rows b None r = PlansFirst rows b.children r
PlansOf rows b (Some t) r = Plans r (planned rows t b)

abbrev pub entry_in : Result Planned PlanFault → Result (Option Entry) PlanFault
entry_in (Ok p) = Ok p.entry
entry_in (Err e) = Err e

-- what a batch makes of rows: an entry, none, or why it is refused
abbrev pub PlansBatch : List Row → Batch → Result Planned PlanFault → Type 0
PlansBatch rows b r = PlansOf rows b b.token (entry_in r)

-- which batches are planned: one of the parts at the window's start before there are rows, and none with a child twice
pub record MayPlan (rows : List Row) (b : Batch) : Type 0 where
  pub first : b.token ≡ None → rows ≡ []
  pub once : are_new [] b.children ≡ true
