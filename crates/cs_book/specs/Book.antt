-- A book as contracts see it: a journal, the board of its entries, and the output that tells them. This project's own.
use Rattle.std.specs.Prelude.{◌≡◌, ◌≤◌, ℕ, List, [], Bool, true, false, Option, None, Some, IfSome, Contains}
use Rattle.cs_journal.specs.State.{JournalState, WhereTold}
use Rattle.cs_schedule.specs.declared.entry.Entry.{Entry}
use Rattle.cs_schedule.specs.declared.row.Row.{Row}
use Rattle.cs_schedule.specs.Board.{Shown, row_of, changed_there, given_back, place_of}
use Rattle.cs_schedule.specs.Consistent.{IsReady}
use Rattle.cs_schedule.specs.Follows.{IsBoardOf}
use Rattle.cs_book.specs.Waiting.{AreWithin}
use Rattle.cs_text.specs.Output.{output_of, marked_of}
use Rattle.cs_book.specs.declared.fault.CommitFault.{CommitFault}
use Rattle.cs_book.specs.declared.fault.CommitFault.TheVariants as faults
use Rattle.cs_book.specs.Entries.{HoldsEntries}

pub record BookState (J O : Type 0) : Type 0 where
  -- the journal, with the place of its closed gate
  pub journal : JournalState J
  pub output : O
  -- the window, and the rows of the journal's entries
  pub board : Shown
  -- the first moment behind the last watermark of the output
  pub marked : ℕ
  -- whether somebody lists the parts at the window's start
  pub is_opening : Bool
  -- whether a call of the output has failed
  pub output_failed : Bool

-- a disk that told its bytes tells bytes still
abbrev pub StillTells : Option (List ℕ) → Option (List ℕ) → Type 0
StillTells old new = WhereTold (λ old new. Unit {0}) old new

-- neither disk has failed
pub record IsRunning {J O : Type 0} (b : BookState J O) : Type 0 where
  pub journal : b.journal.failed ≡ false
  pub output : b.output_failed ≡ false

-- the journal holds these entries, the board is theirs, and the output is what they tell
pub record AreOf (seen text : Option (List ℕ)) (board : Shown) (marked : ℕ) (es : List Entry) : Type 0 where
  pub held : IfSome seen (λ bytes. HoldsEntries bytes es)
  pub rows : IsBoardOf es board
  pub mark : marked ≡ marked_of board.window es
  pub told : IfSome text (λ bytes. bytes ≡ output_of board.window es)

-- the entries of a book, whose disks tell their bytes so
abbrev pub AreEntriesOf : {J O : Type 0} → (J → Option (List ℕ)) → (O → Option (List ℕ)) → BookState J O → List Entry → Type 0
AreEntriesOf seen text b es = AreOf (seen b.journal.disk) (text b.output) b.board b.marked es

-- ---- leases

-- what holds of the rows of a book, and of its leases
pub record IsSound (b : Shown) (is_opening : Bool) : Type 0 where
  pub order : b.window.start ≤ b.window.end
  -- what is complete of each begins with its start, and is in the window
  pub within : AreWithin b.window.end b.rows
  -- a row that is leased is not finished, and its parents are finished rows
  pub leased : (r : Row) → Contains b.rows r → r.leased ≡ true → IsReady b.rows r
  -- the parts at the window's start are listed before there are rows
  pub first : is_opening ≡ true → b.rows ≡ []

-- a lease of this token is out; one of no token is that of the parts at the window's start
abbrev pub IsOut : Shown → Bool → Option (List ℕ) → Type 0
IsOut b is_opening None = is_opening ≡ true
IsOut b is_opening (Some t) = (r : Row) × (row_of b.rows t ≡ Some r) × (r.leased ≡ true)

-- the rows with that of a token given back
abbrev pub rows_back : Option (List ℕ) → Bool → List Row → List Row
rows_back None caught_up rows = rows
rows_back (Some t) caught_up rows = changed_there (given_back caught_up) (place_of rows t) rows

-- whether somebody still lists the parts at the window's start when a lease of this token is given back
abbrev pub opening_back : Option (List ℕ) → Bool → Bool
opening_back None is_opening = false
opening_back (Some t) is_opening = is_opening

-- ---- faults

-- the fault that a book answers once a call of a disk has failed
abbrev pub failure : Bool → Bool → Option CommitFault
failure true output = Some faults.JournalFault
failure false true = Some faults.OutputFault
failure false false = None
