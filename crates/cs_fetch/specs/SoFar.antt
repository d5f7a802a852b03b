-- What a READ has brought so far: where it stands, its new changes and its children. This project's own.
use Rattle.std.specs.Prelude.{ℕ, ◌-◌, max, Bool, false, ◌&&◌, ◌||◌, cond, List, [], Option, Some, None, fold, map, ◌==◌, nat_lt}
use Rattle.std.specs.Option.{option_or}
use Rattle.cs_types.specs.declared.change.Change.{Change}
use Rattle.cs_records.specs.declared.records.Record.{Record}
use Rattle.cs_records.specs.Told.{changes_told}
use Rattle.cs_link.specs.declared.batch.Known.{Known}
use Rattle.cs_link.specs.declared.batch.NewChild.{NewChild}
use Rattle.cs_fetch.specs.declared.so_far.Marks.{Marks}
use Rattle.cs_fetch.specs.declared.so_far.SoFar.{SoFar}
use Rattle.cs_link.specs.declared.reading.Step.{Step}
use Rattle.cs_link.specs.Causes.{one_more}
use Rattle.cs_fetch.specs.Keeping.{keep, keep_children, has_new, has_new_child}
use Rattle.cs_link.specs.Reading.{changes, children, new_child}

-- ---- where it stands

-- whether a stamp is the last one
abbrev pub is_last : Option ℕ → ℕ → Bool
is_last None stamp = false
is_last (Some last) stamp = last == stamp

-- how many data records have a stamp, of those so far, none of which is after it
abbrev pub count_at : Marks → ℕ → ℕ
count_at marks stamp = cond (is_last marks.last stamp) marks.at_last 0

-- after a data record of this stamp all before the stamp is known
abbrev pub with_data : Marks → ℕ → Marks
with_data marks stamp =
    record { last = Some stamp; at_last = one_more (count_at marks stamp); beat = marks.beat; listed = marks.listed; records = one_more marks.records; lists = marks.lists; through = max marks.through (stamp - 1) }

-- after a heartbeat all up to it is known
abbrev pub with_beat : Marks → ℕ → Marks
with_beat marks at =
    record { last = marks.last; at_last = marks.at_last; beat = Some at; listed = marks.listed; records = one_more marks.records; lists = marks.lists; through = max marks.through at }

-- after a child record of this start
abbrev pub with_list : Marks → ℕ → Marks
with_list marks start =
    record { last = marks.last; at_last = marks.at_last; beat = marks.beat; listed = option_or marks.listed (Some start); records = one_more marks.records; lists = one_more marks.lists; through = marks.through }

-- after one more step
abbrev pub marked : Marks → Step → Marks
marked marks (Step.Record (Record.Change item)) = with_data marks item.stamp
marked marks (Step.Record (Record.Heartbeat at)) = with_beat marks at
marked marks (Step.Record (Record.Children item)) = with_list marks item.start
marked marks (Step.Closing closing) = marks

-- before the first step
abbrev pub unmarked : Known → Marks
unmarked known = record { last = None; at_last = 0; beat = None; listed = None; records = 0; lists = 0; through = known.through }

-- after these steps
abbrev pub marks_of : Known → List Step → Marks
marks_of known steps = fold marked (unmarked known) steps

-- ---- all of it

-- the new changes of these steps
abbrev pub new_changes : Known → List Step → List Change
new_changes known steps = keep known [] (changes steps)

-- the children of these steps, each once
abbrev pub new_children : List Step → List NewChild
new_children steps = keep_children [] (children steps)

abbrev pub so_far : Known → List Step → SoFar
so_far known steps = record { marks = marks_of known steps; changes = new_changes known steps; children = new_children steps }

-- whether a record adds something: a data record a new change, or that more is complete; a heartbeat that more is complete; a child record a new child, if it is one of the first 8,192
abbrev pub adds : Known → SoFar → Record → Bool
adds known s (Record.Change item) = has_new known s.changes (changes_told item) || nat_lt s.marks.through (item.stamp - 1)
adds known s (Record.Heartbeat at) = nat_lt s.marks.through at
adds known s (Record.Children item) = has_new_child s.children item.children && nat_lt s.marks.lists 8192

-- after one more record
abbrev pub with_record : Known → SoFar → Record → SoFar
with_record known s (Record.Change item) = record { marks = with_data s.marks item.stamp; changes = keep known s.changes (changes_told item); children = s.children }
with_record known s (Record.Heartbeat at) = record { marks = with_beat s.marks at; changes = s.changes; children = s.children }
with_record known s (Record.Children item) = record { marks = with_list s.marks item.start; changes = s.changes; children = keep_children s.children (map (new_child item.start) item.children) }
