-- What the columns of a table are found by: walks where there are few, else a set of the key's names and a map of places.
use Rattle.std.specs.Prelude.{◌≡◌, ℕ, List, Some, None, drop, slice_get}
use Rattle.std.specs.declared.option.Option.{Option}
use Rattle.std.specs.Ordering.{nat_cmp}
use Rattle.std.specs.Cmp.Lexicographic.{slice_cmp}
use Rattle.std.specs.BTreeMap.{BTreeMap, get}
use Rattle.cs_schema.specs.declared.types.Column.{Column}
use Rattle.cs_schema.specs.declared.types.Table.{Table}
use Rattle.cs_txn.specs.declared.lookup.Lookup.{Lookup}
use Rattle.cs_txn.specs.Columns.{column_named}

-- where there is a set, it is of these names
abbrev pub HasNames : List (List ℕ) → Option (List (List ℕ)) → Type 0
HasNames names None = Unit {0}
HasNames names (Some set) = set ≡ names

abbrev pub column_at : List Column → Option ℕ → Option Column
column_at columns None = None
column_at columns (Some place) = slice_get columns place

-- the map leads from each name to the first column of that name, of those from a place on
abbrev pub LeadsFrom : ℕ → List Column → BTreeMap (List ℕ) ℕ → Type 0
LeadsFrom from columns places = (name : List ℕ) → column_at columns (get (slice_cmp nat_cmp) places name) ≡ column_named name (drop from columns)

-- where there is a map, it leads to all columns
abbrev pub LeadsTo : List Column → Option (BTreeMap (List ℕ) ℕ) → Type 0
LeadsTo columns None = Unit {0}
LeadsTo columns (Some places) = LeadsFrom 0 columns places

-- the columns of the table and of its key can be found by it
pub record IsLookup (t : Table) (l : Lookup) : Type 0 where
  pub key : HasNames t.key l.key
  pub places : LeadsTo t.columns l.places
