-- A modification that fits its catalog is one of a row of its table.
use Rattle.std.proofs.Common.{◌≡◌, ◌≢◌, ℕ, Bool, true, false, cond, None, Some, List, [], ◌∷◌, ⊎_elim, refl, sym, ap, ◌∙◌, subst, Contains, All, AllPairs}
use Rattle.std.specs.declared.option.Option.{Option}
use Rattle.std.specs.Option.{option_or}
use Rattle.std.proofs.lemmas.Bool.{or_cases, false≢true}
use Rattle.std.proofs.lemmas.List.Elements.{All-nil, All-contains, All-weaker}
use Rattle.cs_types.specs.declared.cells.Cell.{Cell}
use Rattle.cs_types.specs.declared.change.Kind.{Kind}
use Rattle.cs_types.specs.declared.change.Kind.TheVariants.{Insert, Update, Delete}
use Rattle.cs_types.specs.declared.column_type.ColumnType.{ColumnType}
use Rattle.cs_types.specs.declared.column_type.ColumnType.TheVariants.{Bool as bool_type, Int64 as int64_type, Numeric as numeric_type, Text as text_type, Bytes as bytes_type, Date as date_type, Timestamp as timestamp_type}
use Rattle.cs_types.specs.declared.value.Value.{Value}
use Rattle.cs_types.specs.declared.value.Value.TheVariants.{Null, Bool as Boolean, Int64, Numeric, Text, Bytes, Date, Timestamp}
use Rattle.cs_types.specs.Cells.{AreCells}
use Rattle.cs_types.specs.Database.{AreInRange}
use Rattle.cs_types.specs.Names.{is_same, is_among, columns_of}
use Rattle.cs_types.specs.Value.{IsOfType, IsInRange}
use Rattle.cs_types.specs.Members.{Pairwise, in_nil, in_head, in_tail, in_cons, pairs_to, pairs_from}
use Rattle.cs_schema.specs.declared.types.Column.{Column}
use Rattle.cs_schema.specs.declared.types.Table.{Table}
use Rattle.cs_schema.specs.declared.types.Stream.{Stream}
use Rattle.cs_schema.specs.Tables.{column_names}
use Rattle.cs_schema.specs.Sound.{IsSoundTable, IsSoundCatalog}
use Rattle.cs_schema.specs.Tables.{table_named}
use Rattle.cs_schema.specs.Watching.{key_of}
use Rattle.cs_txn.specs.declared.txn.Modification.{Modification}
use Rattle.cs_txn.specs.Columns.{column_named, is_of, is_null}
use Rattle.cs_txn.specs.Fits.{may_have, FitsColumn, HasRows, FitsCatalog}
use Rattle.cs_capture.specs.Captured.{columns_in}
use Rattle.cs_capture.proofs.SameNames.{same_is}

-- the cell is of one of the columns, and NULL or of its type
pub record IsOfColumn (columns : List Column) (cell : Cell) : Type 0 where
  pub column : Column
  pub there : Contains columns column
  pub named : column.name ≡ cell.column
  pub typed : IsOfType column.ty cell.value

-- the modification is of a row of the table
pub record IsOfTable (table : Option Table) (m : Modification) : Type 0 where
  -- its key has just the table's key columns, in rising order
  pub key : (name : List ℕ) → is_among name (columns_of m.row.key) ≡ is_among name (key_of table)
  pub key_cells : AreCells m.row.key
  -- its cells are of the table's columns
  pub keys : All (IsOfColumn (columns_in table)) m.row.key
  pub before : All (IsOfColumn (columns_in table)) m.before
  pub after : All (IsOfColumn (columns_in table)) m.after
  -- each value is one that its type has
  pub before_in_range : AreInRange m.before
  pub after_in_range : AreInRange m.after
  -- the table has each column once
  pub apart : AllPairs (λ (c d : Column). c.name ≢ d.name) (columns_in table)

of_type : (ty : ColumnType) (limit : Option ℕ) (v : Value) → is_of ty limit v ≡ true → IsOfType ty v
of_type ty limit Null h = tt
of_type bool_type limit (Boolean b) h = refl
of_type int64_type limit (Boolean b) h = absurd (false≢true h)
of_type numeric_type limit (Boolean b) h = absurd (false≢true h)
of_type text_type limit (Boolean b) h = absurd (false≢true h)
of_type bytes_type limit (Boolean b) h = absurd (false≢true h)
of_type date_type limit (Boolean b) h = absurd (false≢true h)
of_type timestamp_type limit (Boolean b) h = absurd (false≢true h)
of_type bool_type limit (Int64 n) h = absurd (false≢true h)
of_type int64_type limit (Int64 n) h = refl
of_type numeric_type limit (Int64 n) h = absurd (false≢true h)
of_type text_type limit (Int64 n) h = absurd (false≢true h)
of_type bytes_type limit (Int64 n) h = absurd (false≢true h)
of_type date_type limit (Int64 n) h = absurd (false≢true h)
of_type timestamp_type limit (Int64 n) h = absurd (false≢true h)
of_type bool_type limit (Numeric n) h = absurd (false≢true h)
of_type int64_type limit (Numeric n) h = absurd (false≢true h)
of_type numeric_type limit (Numeric n) h = refl
of_type text_type limit (Numeric n) h = absurd (false≢true h)
of_type bytes_type limit (Numeric n) h = absurd (false≢true h)
of_type date_type limit (Numeric n) h = absurd (false≢true h)
of_type timestamp_type limit (Numeric n) h = absurd (false≢true h)
of_type bool_type limit (Text t) h = absurd (false≢true h)
of_type int64_type limit (Text t) h = absurd (false≢true h)
of_type numeric_type limit (Text t) h = absurd (false≢true h)
of_type text_type limit (Text t) h = refl
of_type bytes_type limit (Text t) h = absurd (false≢true h)
of_type date_type limit (Text t) h = absurd (false≢true h)
of_type timestamp_type limit (Text t) h = absurd (false≢true h)
of_type bool_type limit (Bytes b) h = absurd (false≢true h)
of_type int64_type limit (Bytes b) h = absurd (false≢true h)
of_type numeric_type limit (Bytes b) h = absurd (false≢true h)
of_type text_type limit (Bytes b) h = absurd (false≢true h)
of_type bytes_type limit (Bytes b) h = refl
of_type date_type limit (Bytes b) h = absurd (false≢true h)
of_type timestamp_type limit (Bytes b) h = absurd (false≢true h)
of_type bool_type limit (Date d) h = absurd (false≢true h)
of_type int64_type limit (Date d) h = absurd (false≢true h)
of_type numeric_type limit (Date d) h = absurd (false≢true h)
of_type text_type limit (Date d) h = absurd (false≢true h)
of_type bytes_type limit (Date d) h = absurd (false≢true h)
of_type date_type limit (Date d) h = refl
of_type timestamp_type limit (Date d) h = absurd (false≢true h)
of_type bool_type limit (Timestamp t) h = absurd (false≢true h)
of_type int64_type limit (Timestamp t) h = absurd (false≢true h)
of_type numeric_type limit (Timestamp t) h = absurd (false≢true h)
of_type text_type limit (Timestamp t) h = absurd (false≢true h)
of_type bytes_type limit (Timestamp t) h = absurd (false≢true h)
of_type date_type limit (Timestamp t) h = absurd (false≢true h)
of_type timestamp_type limit (Timestamp t) h = refl

typed : (c : Column) (v : Value) → may_have c v ≡ true → IsOfType c.ty v
typed c v h = ⊎_elim (λ (n : is_null v ≡ true). null_typed v n) (λ (n : is_of c.ty c.limit v ≡ true). of_type c.ty c.limit v n) (or_cases (is_null v) (is_of c.ty c.limit v) h)
  where
    null_typed : (v : Value) → is_null v ≡ true → IsOfType c.ty v
    null_typed Null n = tt
    null_typed (Boolean b) n = absurd (false≢true n)
    null_typed (Int64 i) n = absurd (false≢true n)
    null_typed (Numeric i) n = absurd (false≢true n)
    null_typed (Text t) n = absurd (false≢true n)
    null_typed (Bytes b) n = absurd (false≢true n)
    null_typed (Date d) n = absurd (false≢true n)
    null_typed (Timestamp t) n = absurd (false≢true n)

some_same : {A : Type 0} (a b : A) → Some a ≡ Some b → a ≡ b
some_same a b e = cc

-- the column of a name is one of the columns, and has the name
found : (name : List ℕ) (columns : List Column) (c : Column) → column_named name columns ≡ Some c → Contains columns c × (c.name ≡ name)
found name [] c e = absurd cc
found name (d ∷ columns) c e = by (is_same d.name name) refl e (found name columns c)
  where
    by : (b : Bool) → is_same d.name name ≡ b → cond b (Some d) (column_named name columns) ≡ Some c → (column_named name columns ≡ Some c → Contains columns c × (c.name ≡ name)) → Contains (d ∷ columns) c × (c.name ≡ name)
    by true s k f = let same : d ≡ c = some_same d c k in (subst (λ z. Contains (d ∷ columns) z) same (in_head d columns), ap (λ (z : Column). z.name) (sym same) ∙ same_is d.name name s)
    by false s k f = let r = f k in (in_tail d c columns r.0, r.1)

fits_column : (columns : List Column) (cell : Cell) → FitsColumn columns cell → IsOfColumn columns cell
fits_column columns cell F =
    let r = found cell.column columns F.column F.there in
    record { column = F.column; there = r.0; named = r.1; typed = typed F.column cell.value F.value }

all_fit : (columns : List Column) (cells : List Cell) → All (FitsColumn columns) cells → All (IsOfColumn columns) cells
all_fit columns cells h = All-weaker (FitsColumn columns) (IsOfColumn columns) (fits_column columns) cells h

abbrev in_range : Cell → Type 0
in_range c = IsInRange c.value

-- the cells before and after a write
rows_fit : (t : Table) (count : ℕ) (kind : Kind) (before after : List Cell) → HasRows t count kind before after → All (IsOfColumn t.columns) before × All (IsOfColumn t.columns) after × AreInRange before × AreInRange after
rows_fit t count Insert before after h = (
  subst (All (IsOfColumn t.columns)) (sym h.0) (All-nil (IsOfColumn t.columns)),
  all_fit t.columns after h.1.values,
  subst AreInRange (sym h.0) (All-nil in_range),
  h.1.are_cells.in_range,
)
rows_fit t count Update before after h = (all_fit t.columns before h.0.values, all_fit t.columns after h.1.values, h.0.are_cells.in_range, h.1.are_cells.in_range)
rows_fit t count Delete before after h = (
  all_fit t.columns before h.0.values,
  subst (All (IsOfColumn t.columns)) (sym h.1) (All-nil (IsOfColumn t.columns)),
  h.0.are_cells.in_range,
  subst AreInRange (sym h.1) (All-nil in_range),
)

-- the table of a name is one of the tables
table_there : (name : List ℕ) (tables : List Table) (t : Table) → table_named name tables ≡ Some t → Contains tables t × (t.name ≡ name)
table_there name [] t e = absurd cc
table_there name (u ∷ tables) t e = by (table_named name tables) refl (is_same u.name name) refl e (table_there name tables t)
  where
    by : (o : Option Table) → table_named name tables ≡ o → (b : Bool) → is_same u.name name ≡ b → option_or o (cond b (Some u) None) ≡ Some t → (table_named name tables ≡ Some t → Contains tables t × (t.name ≡ name)) → Contains (u ∷ tables) t × (t.name ≡ name)
    by (Some v) k b s h f = let r = f (k ∙ h) in (in_tail u t tables r.0, r.1)
    by None k true s h f = let same : u ≡ t = some_same u t h in (subst (λ z. Contains (u ∷ tables) z) same (in_head u tables), ap (λ (z : Table). z.name) (sym same) ∙ same_is u.name name s)
    by None k false s h f = absurd cc

names_apart : (columns : List Column) → Pairwise (λ (a b : List ℕ). a ≢ b) (column_names columns) → Pairwise (λ (c d : Column). c.name ≢ d.name) columns
names_apart [] h = tt
names_apart (c ∷ columns) h = (λ d i. h.0 d.name (in_names d columns i), names_apart columns h.1)
  where
    in_names : (d : Column) (columns : List Column) → Contains columns d → Contains (column_names columns) d.name
    in_names d [] i = absurd (in_nil d i)
    in_names d (e ∷ columns) i = ⊎_elim (λ (s : d ≡ e). subst (λ z. Contains (e.name ∷ column_names columns) z) (ap (λ (z : Column). z.name) (sym s)) (in_head e.name (column_names columns))) (λ (j : Contains columns d). in_tail e.name d.name (column_names columns) (in_names d columns j)) (in_cons e d columns i)

pub columns_apart : (t : Table) → IsSoundTable t → AllPairs (λ (c d : Column). c.name ≢ d.name) t.columns
columns_apart t S = pairs_to (λ (c d : Column). c.name ≢ d.name) t.columns (names_apart t.columns (pairs_from (λ (a b : List ℕ). a ≢ b) (column_names t.columns) S.columns_differ))

pub of_table : (tables : List Table) (streams : List Stream) (m : Modification) → IsSoundCatalog tables streams → FitsCatalog tables m → IsOfTable (table_named m.row.table tables) m
of_table tables streams m S F =
    let t = F.table in
    let r = rows_fit t F.fits.count m.kind m.before m.after F.fits.rows in
    let is : IsOfTable (Some t) m = record {
      key = F.fits.key.columns;
      key_cells = F.fits.key.are_cells;
      keys = all_fit t.columns m.row.key F.fits.key.values;
      before = r.0;
      after = r.1;
      before_in_range = r.2;
      after_in_range = r.3;
      apart = columns_apart t (All-contains IsSoundTable tables t S.each_table (table_there m.row.table tables t F.there).0);
    } in
    subst (λ o. IsOfTable o m) (sym F.there) is

-- the name of its table is that of a table
pub named_table : (tables : List Table) (P : List ℕ → Type 0) (m : Modification) → FitsCatalog tables m → All (λ (t : Table). P t.name) tables → P m.row.table
named_table tables P m F h = let r = table_there m.row.table tables F.table F.there in subst P r.1 (All-contains (λ (t : Table). P t.name) tables F.table h r.0)
