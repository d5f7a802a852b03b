-- How far the steps of an answer were given: what is left of them, from numbers and places alone.
use Rattle.std.specs.Prelude.{◌≡◌, ◌≢◌, ◌<◌, ◌≤◌, ℕ, suc, ◌+◌, ◌-◌, ◌*◌, ◌||◌, cond, nat_le, List, [], ◌∷◌, ◌++◌, Option, None, Some, get_or, length, take, drop, zero, map}
use Rattle.cs_place.specs.declared.part.Part.{Part}
use Rattle.cs_records.specs.declared.captured.Captured.{Captured}
use Rattle.cs_records.specs.declared.records.Child.{Child}
use Rattle.cs_records.specs.declared.records.DataRecord.{DataRecord}
use Rattle.cs_records.specs.declared.records.Record.{Record}
use Rattle.cs_link.specs.declared.reading.Closing.{Closing}
use Rattle.cs_link.specs.declared.reading.Step.{Step}
use Rattle.cs_steps.specs.declared.cursor.Cursor.{Cursor}
use Rattle.cs_steps.specs.declared.cursor.StepPlace.{StepPlace}
use Rattle.cs_steps.specs.declared.places.RecordPlace.{RecordPlace}
use Rattle.cs_steps.specs.Records.{data_records}
use Rattle.cs_steps.specs.Steps.{Asked, top_of, children_of, steps_of_part, between, cut_off, paced, has_ended, listed_from, child_groups, child_steps}

-- no more than a number of steps stand before others, and if there are more, that they were cut
abbrev pub until_cut : ℕ → List Step → List Step → List Step
until_cut most [] rest = rest
until_cut zero (x ∷ xs) rest = Step.Closing Closing.Cut ∷ []
until_cut (suc most) (x ∷ xs) rest = x ∷ until_cut most xs rest

-- what an answer speaks of: the data records of its part, and the children that it lists from their start on
pub record Source : Type 0 where
  pub records : List DataRecord
  pub start : ℕ
  pub children : List Child

-- the data records that are left
abbrev pub records_left : Source → Cursor → List DataRecord
records_left s c = take (c.end - c.next) (drop c.next s.records)

-- the child records and the closing that are left
abbrev pub rest_left : Source → ℕ → Option Closing → List Step
rest_left s list None = []
rest_left s list (Some closing) = listed_from s.start list (drop list (child_groups s.children)) ++ Step.Closing closing ∷ []

-- the steps that are left
abbrev pub steps_left : Source → Cursor → List Step
steps_left s c = until_cut c.left (paced c.gap c.top c.last (records_left s c)) (rest_left s c.list c.closing)

-- an element of a list at a place
abbrev pub IsAt : {A : Type 0} → List A → ℕ → A → Type 0
IsAt xs k x = (k < length xs) × (get_or xs k x ≡ x)

-- what stands at a place of an answer
abbrev pub IsStep : Source → StepPlace → Step → Type 0
IsStep s (StepPlace.Record k) step = (d : DataRecord) × IsAt s.records k d × (step ≡ Step.Record (Record.Change d))
IsStep s (StepPlace.Heartbeat at) step = step ≡ Step.Record (Record.Heartbeat at)
IsStep s (StepPlace.Children k) step = (group : List Child) × IsAt (child_groups s.children) k group × (step ≡ Step.Record (Record.Children (record { start = s.start; sequence = k; children = group })))
IsStep s (StepPlace.Closing closing) step = step ≡ Step.Closing closing

-- the places of records have their stamps
abbrev pub HaveStamps : List RecordPlace → List DataRecord → Type 0
HaveStamps places records = map (λ p. p.stamp) places ≡ map (λ d. d.stamp) records

-- how an answer ends, with its part
abbrev pub closing_of : ℕ → ℕ → Option ℕ → Closing
closing_of end moment until = cond (has_ended end moment until || nat_le end moment) Closing.Finished (Closing.CaughtUp moment)

-- all steps of an answer that speaks of these records and children, from a start to a last moment
abbrev pub steps_from : Source → ℕ → ℕ → ℕ → Closing → List Step
steps_from s gap top start closing = cut_off 8192 (paced gap top start (between start top s.records)) (child_steps s.start s.children ++ Step.Closing closing ∷ [])

-- what the answer of a READ of a part speaks of
abbrev pub or_zero : Option ℕ → ℕ
or_zero None = 0
or_zero (Some until) = until

abbrev pub source_of : List Part → List Captured → Asked → Source
source_of parts items a = record { records = data_records parts a.part items; start = or_zero a.part.until; children = cond (has_ended a.end a.moment a.part.until) (children_of parts a.part) [] }

-- its steps are those of the READ
abbrev pub SourceHasSteps : Type 0
SourceHasSteps = (parts : List Part) (items : List Captured) (a : Asked) → steps_from (source_of parts items a) a.gap (top_of a) a.start (closing_of a.end a.moment a.part.until) ≡ steps_of_part parts items a

-- a data record or a heartbeat is left
abbrev pub HasMore : Source → Cursor → Type 0
HasMore s c = paced c.gap c.top c.last (records_left s c) ≢ []

-- none is left
abbrev pub HasNoMore : Source → Cursor → Type 0
HasNoMore s c = paced c.gap c.top c.last (records_left s c) ≡ []

-- a cursor as an answer has it
pub record IsCursor (s : Source) (c : Cursor) : Type 0 where
  pub within : (c.next ≤ c.end) × (c.end ≤ length s.records)
  pub lists : c.lists ≡ length (child_groups s.children)
  pub listed : c.list ≤ c.lists
  pub gap : 1 ≤ c.gap
  -- behind the end nothing is left
  pub ended : c.closing ≡ None → HasNoMore s c

-- how many steps may stand there still
abbrev pub closings : Option Closing → ℕ
closings None = 0
closings (Some closing) = 1

abbrev pub most_left : Cursor → ℕ
most_left c = c.left + (c.lists - c.list) + closings c.closing

-- a cursor behind the next data record, of this stamp
abbrev pub passed : Cursor → ℕ → Cursor
passed c stamp = record { next = suc c.next; end = c.end; last = stamp; top = c.top; gap = c.gap; left = c.left - 1; list = c.list; lists = c.lists; closing = c.closing }

-- a cursor behind a heartbeat that is due before this stamp
abbrev pub beaten : Cursor → ℕ → Cursor
beaten c stamp = record { next = c.next; end = c.end; last = stamp; top = c.top; gap = c.gap; left = c.left - 1; list = c.list; lists = c.lists; closing = c.closing }

-- a cursor gives a step, and the others are left
pub record Gives (s : Source) (c : Cursor) (place : StepPlace) (after : Cursor) : Type 0 where
  pub step : Step
  pub is : IsStep s place step
  pub left : steps_left s c ≡ step ∷ steps_left s after
  pub cursor : IsCursor s after

-- each child record of an answer has the next 1,024 children
abbrev pub GroupsAreSlices : Type 0
GroupsAreSlices = (children : List Child) (k : ℕ) (group : List Child) → IsAt (child_groups children) k group → group ≡ take 1024 (drop (1024 * k) children)
