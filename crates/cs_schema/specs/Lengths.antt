-- The greatest length of a STRING, in characters, or of BYTES, in bytes (Spanner's page 'Data types': STRING 1 to 2,621,440, BYTES 1 to 10,485,760, MAX the greatest).
use Rattle.std.specs.Prelude.{ℕ, List, [], ◌∷◌, ◌+◌, ◌-◌, ◌*◌, Some, None, cond, Bool, ◌&&◌, nat_le}
use Rattle.std.specs.declared.option.Option.{Option}
use Rattle.std.specs.Str.Lossy.{utf8_lossy}
use Rattle.std.specs.Str.Parse.{digits_value}
use Rattle.cs_ddl.specs.declared.tree.Size.{Size}
use Rattle.cs_ddl.specs.declared.tree.Size.TheVariants.{Max, Number}
use Rattle.cs_ddl.specs.declared.tree.TypeTree.{TypeTree}
use Rattle.cs_ddl.specs.declared.tree.TypeTree.TheVariants.{Bool as bool_tree, Int64 as int64_tree, Numeric as numeric_tree, Date as date_tree, Timestamp as timestamp_tree, Text as text_tree, Bytes as bytes_tree}
use Rattle.cs_ddl.specs.declared.tree.ColumnTree.{ColumnTree}
use Rattle.cs_types.specs.Digits.{all_digits}
use Rattle.cs_types.specs.declared.column_type.ColumnType.{ColumnType}
use Rattle.cs_types.specs.declared.column_type.ColumnType.TheVariants.{Bool as bool_type, Int64, Numeric, Text, Bytes, Date, Timestamp}
use Rattle.cs_schema.specs.declared.types.Column.{Column}
use Rattle.cs_schema.specs.declared.fault.SchemaFault.{SchemaFault}
use Rattle.cs_schema.specs.declared.fault.SchemaFault.TheVariants.{BadLength}

-- whether a byte is one of 0 to 9
abbrev pub is_digit : ℕ → Bool
is_digit c = nat_le 48 c && nat_le c 57

-- a number from 1 to the most
abbrev pub length_if : ℕ → ℕ → Option ℕ
length_if most n = cond (nat_le 1 n && nat_le n most) (Some n) None

-- the number of a decimal text, if it is from 1 to the most
abbrev pub length_of : ℕ → List ℕ → Option ℕ
length_of most digits = cond (all_digits digits) (length_if most (digits_value 10 digits)) None

-- the same, read from the left: the number that goes on from n with these digits
abbrev pub length_from : ℕ → ℕ → List ℕ → Option ℕ
length_from most n [] = length_if most n
length_from most n (c ∷ cs) = cond (is_digit c) (length_from most (n * 10 + (c - 48)) cs) None

abbrev pub size_of : ℕ → Size → Option ℕ
size_of most Max = Some most
size_of most (Number digits) = length_of most digits

-- the greatest length of a type that has one
abbrev pub limit_of : TypeTree → Option ℕ
limit_of (text_tree s) = size_of 2621440 s
limit_of (bytes_tree s) = size_of 10485760 s
limit_of bool_tree = None
limit_of int64_tree = None
limit_of numeric_tree = None
limit_of date_tree = None
limit_of timestamp_tree = None

abbrev pub no_length : Option ℕ → Option SchemaFault
no_length None = Some BadLength
no_length (Some n) = None

-- a length out of its range
abbrev pub length_fault : TypeTree → Option SchemaFault
length_fault (text_tree s) = no_length (size_of 2621440 s)
length_fault (bytes_tree s) = no_length (size_of 10485760 s)
length_fault bool_tree = None
length_fault int64_tree = None
length_fault numeric_tree = None
length_fault date_tree = None
length_fault timestamp_tree = None

abbrev pub type_of : TypeTree → ColumnType
type_of (text_tree s) = Text
type_of (bytes_tree s) = Bytes
type_of bool_tree = bool_type
type_of int64_tree = Int64
type_of numeric_tree = Numeric
type_of date_tree = Date
type_of timestamp_tree = Timestamp

-- the column that stands for a name and a type
abbrev pub column_made : List ℕ → TypeTree → Bool → Column
column_made name ty not_null = record { name = utf8_lossy name; ty = type_of ty; limit = limit_of ty; not_null = not_null }

abbrev pub columns_made : List ColumnTree → List Column
columns_made [] = []
columns_made (t ∷ ts) = column_made t.name t.ty t.not_null ∷ columns_made ts
