-- The columns of records, and lists of names.
use Rattle.std.specs.Prelude.{ℕ, List, map, not}
use Rattle.std.specs.declared.option.Option.{Option}
use Rattle.std.specs.List.{filter, find}
use Rattle.cs_types.specs.Names.{is_among}
use Rattle.cs_records.specs.declared.captured.ColumnInfo.{ColumnInfo}

-- the columns that are marked as key, in the order in which they stand
abbrev pub key_columns : List ColumnInfo → List (List ℕ)
key_columns columns = map (λ c. c.name) (filter (λ c. c.is_key) columns)

-- the first of these names that the others lack
abbrev pub first_beyond : List (List ℕ) → List (List ℕ) → Option (List ℕ)
first_beyond others names = find (λ n. not (is_among n others)) names
