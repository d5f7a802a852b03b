-- How many bytes a follower's journal needs beside what it has, until all of its window stands there, and from which moment on it still reads. This project's own.
use Rattle.std.specs.Prelude.{ℕ, suc, ◌+◌, ◌-◌, ◌*◌, ◌/◌, min, max, Bool, not, List, [], ◌∷◌, map, length, Option, Some, None, if◌then◌else◌, filter}
use Rattle.cs_types.specs.declared.change.Change.{Change}
use Rattle.cs_types.specs.declared.names.Window.{Window}
use Rattle.cs_types.specs.Change.{wanted_changes}
use Rattle.cs_place.specs.declared.part.Part.{Part}
use Rattle.cs_link.specs.declared.batch.NewChild.{NewChild}
use Rattle.cs_link.specs.declared.feed.Feed.{Feed}
use Rattle.cs_link.specs.Batch.{seen_of, is_seen}
use Rattle.cs_schedule.specs.declared.entry.Entry.{Entry}
use Rattle.cs_schedule.specs.declared.row.Row.{Row}
use Rattle.cs_schedule.specs.Board.{row_of, has_ended}
use Rattle.cs_schedule.specs.Rows.{changes, rows_of, next_of}
use Rattle.cs_schedule.specs.Size.{total, text_size}
use Rattle.cs_schedule.specs.Spelling.{change, child}

-- an entry that neither ends its part nor has a change makes so many microseconds more complete at least
abbrev pub pace : ℕ
pace = 9999999

-- the most bytes that an entry takes in the journal beside its changes and children: its length, its gate, its tag, its token, its moment and two counts
abbrev pub entry_frame : ℕ
entry_frame = 1050

-- the bytes that a change takes in an entry
unfoldable pub change_bytes : Change → ℕ
change_bytes c = length (change c)

-- the bytes that a child takes in an entry
unfoldable pub child_bytes : NewChild → ℕ
child_bytes x = length (child x)

-- a part as the entry that ends one of its parents names it
abbrev pub as_child : Part → NewChild
as_child p = record { token = p.token; parents = p.parents; start = p.from }

-- the wanted changes from the window's start to its end
abbrev pub wanted_in : Feed → Window → List Change
wanted_in f w = wanted_changes w.start w.end f.wanted

-- the bytes of the parts as children, of each once for each of its parents
abbrev pub child_room : Part → ℕ
child_room p = length p.parents * child_bytes (as_child p)

-- the bytes of a token in the entry that opens the window: its count, and it
abbrev pub token_room : Part → ℕ
token_room p = text_size p.token

-- so many entries there may be at most: one that opens the window, one for each wanted change, and for each part three and one for each step of the pace from the start to the end
abbrev pub entries_room : Feed → Window → ℕ
entries_room f w = 1 + (length (wanted_in f w) + length f.parts * (3 + (w.end - w.start) / pace))

-- Room: a journal that has so many bytes left takes in all of its window, whatever of it stands there: the wanted changes, the parts as children, their tokens, and the frames of the entries
abbrev pub room : Feed → Window → ℕ
room f w = total change_bytes (wanted_in f w) + (total child_room f.parts + (total token_room f.parts + entry_frame * entries_room f w))

-- ---- what is expected behind a journal's rows and changes so far

-- the entry that opens the window: its length, its gate, its tag, its count and the tokens; nothing where there is a row
abbrev pub opening_left : Feed → List Row → ℕ
opening_left f [] = 10 + total token_room f.parts
opening_left f (r ∷ rows) = 0

-- a wanted change that is not there, in an entry of its own
abbrev pub change_left : List Change → Change → ℕ
change_left done c = if is_seen (map seen_of done) c then 0 else change_bytes c + entry_frame

-- a part as a child, once for each of its parents that is no finished row
abbrev pub child_left : List Row → Part → ℕ
child_left rows p = total (λ t. if has_ended rows t then 0 else child_bytes (as_child p)) p.parents

-- the first moment of a part that is not complete: that of its row, and that from which on it is wanted where it has none
abbrev pub next_with : Option Row → ℕ → ℕ
next_with None from = from
next_with (Some r) from = next_of r

-- so many entries without a change there may still be of a part: one for each step of the pace, and its end
abbrev pub entries_left : ℕ → ℕ → Bool → ℕ
entries_left e next finished = if finished then 0 else suc ((suc e - next) / pace)

-- the frames of these entries
abbrev pub part_left : Window → List Row → Part → ℕ
part_left w rows p = entry_frame * entries_left w.end (next_with (row_of rows p.token) (max w.start p.from)) (has_ended rows p.token)

-- all that is expected, with the gate that closes the journal
abbrev pub expected : Feed → Window → List Row → List Change → ℕ
expected f w rows done = 1 + (opening_left f rows + (total (change_left done) (wanted_in f w) + (total (child_left rows) f.parts + total (part_left w rows) f.parts)))

-- the same behind a list of entries
abbrev pub expected_of : Feed → Window → List Entry → ℕ
expected_of f w es = expected f w (rows_of w.start es) (changes es)

-- ---- from where on is read

-- a row is read from its start on where less is complete, else from what is complete
abbrev pub lease_start : Row → ℕ
lease_start r = max r.start r.through

-- the starts of the READs of the rows that are not finished
abbrev pub starts_left : List Row → List ℕ
starts_left rows = map lease_start (filter (λ r. not r.finished) rows)

-- the least of a number and of others
abbrev pub least_of : ℕ → List ℕ → ℕ
least_of n [] = n
least_of n (m ∷ ns) = min n (least_of m ns)

-- the least of numbers, or another one where there is none
abbrev pub least_or : ℕ → List ℕ → ℕ
least_or other [] = other
least_or other (n ∷ ns) = least_of n ns

-- Low: the window's start where there is no row, its end where all rows are finished, else the least start of a READ of an unfinished row
abbrev pub low : Window → List Row → ℕ
low w [] = w.start
low w (r ∷ rows) = least_or w.end (starts_left (r ∷ rows))
