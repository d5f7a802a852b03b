-- The steps that answer a READ, as this project's server gives them: data records with heartbeats between them, then the children of the part where it ends, then a closing.
use Rattle.std.specs.Prelude.{Option, None, Some, ℕ, ◌+◌, ◌-◌, min, Bool, false, ◌&&◌, cond, nat_le, nat_lt, List, [], ◌∷◌, ◌++◌, map, length, take, filter}
use Rattle.std.specs.Int.{is_in_range}
use Rattle.cs_place.specs.declared.part.Part.{Part}
use Rattle.cs_place.specs.Part.{is_below, is_live}
use Rattle.cs_partitions.specs.Views.{children_of as parts_after}
use Rattle.cs_records.specs.declared.captured.Captured.{Captured}
use Rattle.cs_records.specs.declared.records.Child.{Child}
use Rattle.cs_records.specs.declared.records.DataRecord.{DataRecord}
use Rattle.cs_records.specs.declared.records.Record.{Record}
use Rattle.cs_link.specs.declared.reading.Closing.{Closing}
use Rattle.cs_link.specs.declared.reading.Step.{Step}
use Rattle.cs_steps.specs.Cutting.{cut}
use Rattle.cs_steps.specs.Records.{data_records}

-- ---- data records and heartbeats

-- the data records from a start to an end, both among them
abbrev pub between : ℕ → ℕ → List DataRecord → List DataRecord
between start end records = filter (λ d. is_in_range start end d.stamp) records

-- the last moment of which a READ tells: of the window's end, the present one and the one before the part ends the least
abbrev pub last_moment : ℕ → ℕ → Option ℕ → ℕ
last_moment end moment None = min end moment
last_moment end moment (Some until) = min (min end moment) (until - 1)

-- a heartbeat where a stamp is at least a gap above the last one
abbrev pub beat_at : ℕ → ℕ → ℕ → ℕ → List Step
beat_at gap last stamp at = cond (nat_le (last + gap) stamp) (Step.Record (Record.Heartbeat at) ∷ []) []

-- each record stands behind a heartbeat, one microsecond below it, where it comes late, and so does the last moment
abbrev pub paced : ℕ → ℕ → ℕ → List DataRecord → List Step
paced gap top last [] = beat_at gap last top top
paced gap top last (d ∷ ds) = beat_at gap last d.stamp (d.stamp - 1) ++ Step.Record (Record.Change d) ∷ paced gap top d.stamp ds

-- ---- children

-- the child records of groups of children, with sequences from a first one on
abbrev pub listed_from : ℕ → ℕ → List (List Child) → List Step
listed_from start sequence [] = []
listed_from start sequence (k ∷ ks) = Step.Record (Record.Children (record { start = start; sequence = sequence; children = k })) ∷ listed_from start (sequence + 1) ks

-- children in child records of 1,024 at most
abbrev pub child_groups : List Child → List (List Child)
child_groups children = cut (λ group x. nat_lt (length group) 1024) children

abbrev pub child_steps : ℕ → List Child → List Step
child_steps start children = listed_from start 0 (child_groups children)

-- a part put among others in order of low
abbrev pub put_by_low : Part → List Part → List Part
put_by_low p [] = p ∷ []
put_by_low p (q ∷ qs) = cond (is_below p.range.low q.range.low) (p ∷ q ∷ qs) (q ∷ put_by_low p qs)

abbrev pub by_low : List Part → List Part
by_low [] = []
by_low (p ∷ ps) = put_by_low p (by_low ps)

-- a part with its parents
abbrev pub child_of : Part → Child
child_of part = record { token = part.token; parents = part.parents }

-- a part from which a READ may begin
abbrev pub first_of : Part → Child
first_of part = record { token = part.token; parents = [] }

-- the parts that follow on a part, in order of low
abbrev pub children_of : List Part → Part → List Child
children_of parts part = map child_of (by_low (parts_after part.token parts))

-- the parts that are live at a moment
abbrev pub live_at : List Part → ℕ → List Child
live_at parts moment = map first_of (by_low (filter (λ q. is_live q moment) parts))

-- ---- the whole answer

-- whether a part has ended within a window, and before the present moment
abbrev pub has_ended : ℕ → ℕ → Option ℕ → Bool
has_ended end moment None = false
has_ended end moment (Some until) = nat_le until end && nat_le until moment

-- all was told, or all up to the present moment
abbrev pub closing : ℕ → ℕ → List Step
closing end moment = cond (nat_le end moment) (Step.Closing Closing.Finished ∷ []) (Step.Closing (Closing.CaughtUp moment) ∷ [])

-- what stands behind the records: the children where the part has ended
abbrev pub ending : List Child → ℕ → ℕ → Option ℕ → List Step
ending children end moment None = closing end moment
ending children end moment (Some until) = cond (has_ended end moment (Some until)) (child_steps until children ++ Step.Closing Closing.Finished ∷ []) (closing end moment)

-- no more than a number of records stand in an answer
abbrev pub cut_off : ℕ → List Step → List Step → List Step
cut_off most records rest = cond (nat_lt most (length records)) (take most records ++ Step.Closing Closing.Cut ∷ []) (records ++ rest)

-- a READ of a part: the stream's parts and captured changes, the part, the start, the end, the moment, and the gap in microseconds
pub record Asked : Type 0 where
  pub part : Part
  pub start : ℕ
  pub end : ℕ
  pub moment : ℕ
  pub gap : ℕ

abbrev pub top_of : Asked → ℕ
top_of a = last_moment a.end a.moment a.part.until

abbrev pub records_for : List Part → List Captured → Asked → List DataRecord
records_for parts items a = between a.start (top_of a) (data_records parts a.part items)

abbrev pub steps_of_part : List Part → List Captured → Asked → List Step
steps_of_part parts items a = cut_off 8192 (paced a.gap (top_of a) a.start (records_for parts items a)) (ending (children_of parts a.part) a.end a.moment a.part.until)

-- a READ without a part
abbrev pub steps_of_start : List Part → ℕ → List Step
steps_of_start parts start = child_steps start (live_at parts start) ++ Step.Closing Closing.Finished ∷ []
