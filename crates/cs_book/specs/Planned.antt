-- What is planned of a book. This project's own.
use Rattle.std.specs.Prelude.{◌≡◌, ◌≤◌, ◌<◌, ⊤, ℕ, Bool, true, false, List, [], ◌∷◌, ◌++◌, length, Option, None, Some, Contains, Result, Ok, Err}
use Rattle.cs_journal.specs.Rows.{limit}
use Rattle.cs_journal.specs.State.{length_after}
use Rattle.cs_link.specs.declared.batch.Batch.{Batch}
use Rattle.cs_link.specs.declared.batch.Ending.{Ending}
use Rattle.cs_link.specs.declared.batch.NewChild.{NewChild}
use Rattle.cs_schedule.specs.declared.entry.Entry.{Entry}
use Rattle.cs_schedule.specs.declared.entry.Entry.TheVariants.{Opened}
use Rattle.cs_schedule.specs.declared.plan.PlanFault.TheVariants as plan
use Rattle.cs_schedule.specs.Board.{Shown}
use Rattle.cs_schedule.specs.Follows.{IsBoardOf, IsNextOf}
use Rattle.cs_schedule.specs.Rows.{is_of}
use Rattle.cs_schedule.specs.Spelling.{payload, are_in_order, are_new, IsInFormat}
use Rattle.cs_schedule.specs.Update.{PlansOf}
use Rattle.cs_text.specs.Output.{added_by, marked_of}
use Rattle.cs_types.specs.declared.names.Window.{Window}
use Rattle.cs_book.specs.Book.{BookState}
use Rattle.cs_book.specs.declared.adding.Addition.{Addition}
use Rattle.cs_book.specs.declared.adding.BookPlan.{BookPlan}
use Rattle.cs_book.specs.declared.fault.ReserveFault.{ReserveFault}
use Rattle.cs_book.specs.declared.fault.ReserveFault.TheVariants as faults

-- what is asked of a batch, whoever answered it: its moments are in the window, its changes stand in order up to the moment after `through`, no child stands twice, and where it is of no token it has a child
pub record IsFit (w : Window) (x : Batch) : Type 0 where
  pub within : x.through ≤ w.end
  pub starts : (y : NewChild) → Contains x.children y → y.start ≤ w.end
  pub order : are_in_order x.through x.changes ≡ true
  pub once : are_new [] x.children ≡ true
  pub some : x.token ≡ None → 0 < length x.children

abbrev pub is_caught_up : Ending → Bool
is_caught_up Ending.Finished = false
is_caught_up (Ending.CaughtUp at) = true
is_caught_up Ending.Cut = false
is_caught_up Ending.Full = false

-- ---- what is to be written

-- over each list of entries whose board this is, an entry may follow, and this text and this mark are what it then adds
abbrev pub IsTextOf : Shown → ℕ → Entry → List ℕ → ℕ → Type 0
IsTextOf board marked e text now = (es : List Entry) → IsBoardOf es board → marked ≡ marked_of board.window es → (text ≡ added_by board.window es e) × (now ≡ marked_of board.window (es ++ e ∷ []))

-- the bytes for the journal are the entry's payload, which fits behind the gate, and those for the output are what it adds
pub record IsAddition (board : Shown) (marked gate : ℕ) (e : Entry) (a : Addition) : Type 0 where
  pub bytes : a.framed ≡ payload e
  pub fits : length_after gate (payload e) ≤ limit
  pub text : IsTextOf board marked e a.text a.marked
  pub least : 1 ≤ a.marked

abbrev pub AreAdditions : Shown → ℕ → ℕ → Option Entry → Option Addition → Type 0
AreAdditions board marked gate None None = ⊤
AreAdditions board marked gate None (Some a) = ⊥
AreAdditions board marked gate (Some e) None = ⊥
AreAdditions board marked gate (Some e) (Some a) = IsAddition board marked gate e a

-- the entry is that of a lease of this token
abbrev pub IsEntryFor : Option (List ℕ) → Option Entry → Type 0
IsEntryFor token None = ⊤
IsEntryFor None (Some e) = (tokens : List (List ℕ)) × (e ≡ Opened tokens)
IsEntryFor (Some t) (Some e) = is_of t e ≡ true

-- the plan is one of the book as it stands, for a lease of this token
pub record IsPlanFor {J O : Type 0} (b : BookState J O) (token : Option (List ℕ)) (p : BookPlan) : Type 0 where
  pub next : IsNextOf b.board p.plan
  pub of : IsEntryFor token p.plan.entry
  pub additions : AreAdditions b.board b.marked b.journal.gate p.plan.entry p.addition

-- what is answered of a batch is what is planned of it, but for one whose entry would make the journal too long
abbrev pub Reserves : {J O : Type 0} → BookState J O → Batch → Result BookPlan ReserveFault → Type 0
Reserves b x (Ok p) = PlansOf b.board.rows x x.token (Ok p.plan.entry)
Reserves b x (Err (faults.Breach breach)) = PlansOf b.board.rows x x.token (Err (plan.Breach breach))
Reserves b x (Err (faults.Full length)) = (e : Entry) × PlansOf b.board.rows x x.token (Ok (Some e)) × (length ≡ length_after b.journal.gate (payload e)) × (limit < length) × IsInFormat e
Reserves b x (Err faults.Memory) = ⊤
