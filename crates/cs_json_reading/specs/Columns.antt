-- The columns of a data change record (Spanner's page 'Change streams partitions, records, and queries').
use Rattle.std.specs.Prelude.{◌≡◌, ℕ, List, [], ◌∷◌, map, Bool, codes, cond, is_some, if◌then◌else◌, Option, Some, None, option_and_then, Ok, Err}
use Rattle.std.specs.Ordering.{nat_cmp}
use Rattle.std.specs.Cmp.Lexicographic.{slice_cmp}
use Rattle.std.specs.BTreeMap.{BTreeMap, get as at_key}
use Rattle.serde_json.specs.Data.{Data}
use Rattle.serde_json.specs.Find.{get, as_bool, as_str, as_array, as_object}
use Rattle.cs_types.specs.declared.column_type.ColumnType.{ColumnType}
use Rattle.cs_records.specs.declared.captured.ColumnInfo.{ColumnInfo}
use Rattle.cs_records.specs.declared.faults.LineFault.TheVariants.{BadValue}
use Rattle.cs_json_reading.specs.Reading.{Reading, required, each_in}
use Rattle.std.specs.Option.{option_or}
use Rattle.cs_json_reading.specs.Texts.{code_reading}
use Rattle.cs_json_reading.specs.Members.{ordinal_value, tree_or_text}
use Rattle.cs_types.specs.Names.{is_same, first_again}

-- the type of a tree with a code
abbrev pub type_of_tree : Data → Option ColumnType
type_of_tree d = option_and_then code_reading (option_and_then as_str (get (codes "code") d))

-- a type, as a tree or as a text that holds it
abbrev pub type_value : Data → Option ColumnType
type_value d = option_and_then type_of_tree (tree_or_text d)

-- the column of its parts, or the first fault in their order
abbrev pub column_from : Reading (List ℕ) → Reading ColumnType → Reading Bool → Reading ℕ → Reading ColumnInfo
column_from (Err e) ty key ordinal = Err e
column_from (Ok name) (Err e) key ordinal = Err e
column_from (Ok name) (Ok ty) (Err e) ordinal = Err e
column_from (Ok name) (Ok ty) (Ok key) (Err e) = Err e
column_from (Ok name) (Ok ty) (Ok key) (Ok ordinal) = Ok (record { name = name; ty = ty; is_key = key; ordinal = ordinal })

-- a column: its name, its type, whether it is one of the key, and its place
unfoldable pub column_reading : Data → Reading ColumnInfo
column_reading d = if is_some (as_object d)
    then column_from (required as_str (codes "name") d) (required type_value (codes "type") d)
    (required as_bool (codes "is_primary_key") d) (required ordinal_value (codes "ordinal_position") d)
    else Err (BadValue (codes "column_types"))

-- the type of the column of a name
abbrev pub column_type : List ℕ → List ColumnInfo → Option ColumnType
column_type name [] = None
column_type name (c ∷ cs) = option_or (column_type name cs) (cond (is_same c.name name) (Some c.ty) None)

-- the names of columns, in their order
abbrev pub names_of : List ColumnInfo → List (List ℕ)
names_of columns = map (λ c. c.name) columns

-- what is read, unless a name is bad
abbrev pub unless_bad : {A : Type 0} → Option (List ℕ) → Reading A → Reading A
unless_bad None reading = reading
unless_bad (Some name) reading = Err (BadValue name)

-- columns of which no two have one name
abbrev pub apart : List ColumnInfo → Reading (List ColumnInfo)
apart columns = unless_bad (first_again [] (names_of columns)) (Ok columns)

-- columns that were read, where no two of them have one name
abbrev pub apart_in : Reading (List ColumnInfo) → Reading (List ColumnInfo)
apart_in (Err e) = Err e
apart_in (Ok columns) = apart columns

-- the columns of a data change record
unfoldable pub columns_reading : Data → Reading (List ColumnInfo)
columns_reading d = apart_in (each_in column_reading (required as_array (codes "column_types") d))

-- the map has the type of each column by its name
abbrev pub HoldsTypes : List ColumnInfo → BTreeMap (List ℕ) ColumnType → Type 0
HoldsTypes columns types = (name : List ℕ) → at_key (slice_cmp nat_cmp) types name ≡ column_type name columns
