-- The data records of a stream: of each transaction, part by part in order of low, neighbours that tell of the same columns share a record, 32 at most.
use Rattle.std.specs.Prelude.{ℕ, suc, Bool, true, false, ◌&&◌, nat_lt, ◌==◌, List, [], ◌∷◌, ◌++◌, map, length, filter, sum_by, flat_map}
use Rattle.std.specs.Str.{bytes_eq}
use Rattle.cs_types.specs.declared.change.Kind.{Kind}
use Rattle.cs_place.specs.declared.part.Part.{Part}
use Rattle.cs_records.specs.declared.captured.Captured.{Captured}
use Rattle.cs_records.specs.declared.records.DataRecord.{DataRecord}
use Rattle.cs_types.specs.Names.{columns_of}
use Rattle.cs_records.specs.Group.{mod_of}
use Rattle.cs_place.specs.Part.{is_below, is_held}
use Rattle.cs_link.specs.Feed.{place_of}
use Rattle.cs_steps.specs.Cutting.{first_is, cut}

-- the captured changes that a part holds, in their order
abbrev pub held : Part → List Captured → List Captured
held part items = filter (λ c. is_held part (place_of c.change.row) c.change.stamp) items

-- captured changes transaction by transaction: neighbours with one id
abbrev pub transactions : List Captured → List (List Captured)
transactions items = cut (λ group c. first_is (λ a. bytes_eq a.change.tx c.change.tx) group) items

abbrev pub kind_number : Kind → ℕ
kind_number Kind.Insert = 0
kind_number Kind.Update = 1
kind_number Kind.Delete = 2

abbrev pub same_names : List (List ℕ) → List (List ℕ) → Bool
same_names [] [] = true
same_names [] (n ∷ ns) = false
same_names (m ∷ ms) [] = false
same_names (m ∷ ms) (n ∷ ns) = bytes_eq m n && same_names ms ns

-- whether two captured changes are of one table and kind, with the same columns in their new and in their old cells
abbrev pub is_alike : Captured → Captured → Bool
is_alike a b =
    bytes_eq a.change.row.table b.change.row.table
    && ((kind_number a.change.kind == kind_number b.change.kind)
    && (same_names (columns_of a.change.new) (columns_of b.change.new)
    && same_names (columns_of a.change.old) (columns_of b.change.old)))

-- captured changes that share a record: neighbours that are alike, 32 at most
abbrev pub groups : List Captured → List (List Captured)
groups items = cut (λ group c. first_is (λ a. is_alike a c) group && nat_lt (length group) 32) items

-- how many records a part has of a transaction
abbrev pub records_of : List Captured → Part → ℕ
records_of tx part = length (groups (held part tx))

-- what the records of one transaction say of it
pub record Count : Type 0 where
  pub records : ℕ
  pub parts : ℕ

-- all of its records, and the parts that have one
abbrev pub count_of : List Part → List Captured → Count
count_of parts tx = record { records = sum_by (records_of tx) parts; parts = length (filter (λ q. nat_lt 0 (records_of tx q)) parts) }

-- a part's sequences begin behind the records of the parts of lower lows
abbrev pub first_sequence : List Part → List Captured → Part → ℕ
first_sequence parts tx part = sum_by (records_of tx) (filter (λ q. is_below q.range.low part.range.low) parts)

abbrev pub is_none : List (List Captured) → Bool
is_none [] = true
is_none (g ∷ gs) = false

-- the record of a group of captured changes
abbrev pub record_of : Count → ℕ → Bool → Captured → List Captured → DataRecord
record_of count sequence last first group = record {
  stamp = first.change.stamp;
  sequence = sequence;
  tx = first.change.tx;
  is_last = last;
  table = first.change.row.table;
  columns = first.columns;
  mods = map mod_of group;
  kind = first.change.kind;
  capture = first.capture;
  records_in_tx = count.records;
  parts_in_tx = count.parts;
  tag = first.tag;
  system = first.system;
}

-- a group has a first change
abbrev pub told_as : Count → ℕ → Bool → List Captured → List DataRecord
told_as count sequence last [] = []
told_as count sequence last (c ∷ cs) = record_of count sequence last c (c ∷ cs) ∷ []

-- the records of groups: sequences go up by one, and the last is marked
abbrev pub numbered : Count → ℕ → List (List Captured) → List DataRecord
numbered count sequence [] = []
numbered count sequence (g ∷ gs) = told_as count sequence (is_none gs) g ++ numbered count (suc sequence) gs

-- the records of a transaction in a part
abbrev pub records_in : List Part → Part → List Captured → List DataRecord
records_in parts part tx = numbered (count_of parts tx) (first_sequence parts tx part) (groups (held part tx))

-- the records of captured changes in a part, transaction by transaction
abbrev pub data_records : List Part → Part → List Captured → List DataRecord
data_records parts part items = flat_map (records_in parts part) (transactions items)
