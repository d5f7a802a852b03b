-- The entries that the payloads of a journal stand for. This project's own.
use Rattle.std.specs.Prelude.{◌≡◌, ◌≤◌, ⊤, ℕ, List, [], ◌∷◌, ◌++◌, Option, None, Some}
use Rattle.cs_journal.specs.declared.journal.Stored.{Stored}
use Rattle.cs_schedule.specs.declared.entry.Entry.{Entry}
use Rattle.cs_schedule.specs.declared.entry.Entry.TheVariants.{Begin}
use Rattle.cs_schedule.specs.Board.{Shown}
use Rattle.cs_schedule.specs.Fold.{DoFold}
use Rattle.cs_schedule.specs.Spelling.{Spells}
use Rattle.cs_book.specs.Waiting.{AreWithin}
use Rattle.cs_types.specs.declared.names.Window.{Window}
use Rattle.cs_text.specs.Adding.{Tells}
use Rattle.cs_text.specs.declared.telling.Telling.{Telling}
use Rattle.cs_book.specs.declared.found.Found.{Found}
use Rattle.cs_book.specs.declared.found.Found.TheVariants.{Nothing, Whole, Bad}

-- payload by payload the entries
abbrev pub AreRead : List Stored → List Entry → Type 0
AreRead [] [] = ⊤
AreRead [] (e ∷ es) = ⊥
AreRead (s ∷ stored) [] = ⊥
AreRead (s ∷ stored) (e ∷ es) = Spells s.payload e × AreRead stored es

-- the payloads before one are entries that fold, and with the one, whatever entry it is of, they do not
pub record IsBadEntry (stored : List Stored) (gate : ℕ) : Type 0 where
  pub before : List Stored
  pub bad : Stored
  pub after : List Stored
  pub parts : stored ≡ before ++ bad ∷ after
  pub place : gate ≡ bad.gate
  pub entries : List Entry
  pub read : AreRead before entries
  pub folds : DoFold entries
  pub not_with : (e : Entry) → Spells bad.payload e → DoFold (entries ++ e ∷ []) → ⊥

-- where a window ends no earlier than it starts, what is complete of each row is in it
abbrev pub IsInOrder : Shown → Type 0
IsInOrder b = b.window.start ≤ b.window.end → AreWithin b.window.end b.rows

-- what is told is of these entries
pub record IsTold (t : Telling) (es : List Entry) : Type 0 where
  pub least : 1 ≤ t.marked
  pub tells : Tells t.board t.marked t.lines es
  pub in_order : IsInOrder t.board

-- what a payload is behind entries that were told: an entry that follows, or none that does
abbrev pub IsMore : Telling → Telling → List ℕ → List Entry → Type 0
IsMore t u payload es = (e : Entry) × Spells payload e × IsTold u (es ++ e ∷ [])

-- the window that a payload begins, or it is that of no such entry
abbrev pub IsBegunBy : List ℕ → Option Window → Type 0
IsBegunBy payload (Some w) = Spells payload (Begin w)
IsBegunBy payload None = (w : Window) → Spells payload (Begin w) → ⊥

-- what payloads stand for: nothing, entries that fold and are told, or a bad one
abbrev pub IsFound : List Stored → Found → Type 0
IsFound stored Nothing = stored ≡ []
IsFound stored (Whole t) = (es : List Entry) × AreRead stored es × IsTold t es
IsFound stored (Bad gate) = IsBadEntry stored gate
