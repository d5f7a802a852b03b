-- What is captured can be grouped: it has its columns, and the captured changes of one transaction agree.
use Rattle.std.proofs.Common.{◌≡◌, ◌≢◌, ℕ, true, List, map, Some, sym, ap, ◌∙◌, subst, Contains, All}
use Rattle.std.specs.declared.option.Option.{Option}
use Rattle.std.proofs.lemmas.List.Elements.{All-weaker}
use Rattle.cs_types.specs.declared.cells.Cell.{Cell}
use Rattle.cs_types.specs.declared.change.Change.{Change}
use Rattle.cs_types.specs.Names.{is_among, columns_of}
use Rattle.cs_types.specs.Value.{IsOfType}
use Rattle.cs_types.specs.Members.{all_in, pairs_to}
use Rattle.cs_records.specs.declared.captured.Captured.{Captured}
use Rattle.cs_records.specs.declared.captured.ColumnInfo.{ColumnInfo}
use Rattle.cs_records.specs.Group.{Agree, HasItsColumns}
use Rattle.cs_schema.specs.declared.types.Table.{Table}
use Rattle.cs_schema.specs.declared.types.Stream.{Stream}
use Rattle.cs_schema.specs.Sound.{IsSoundCatalog}
use Rattle.cs_schema.specs.Tables.{table_named}
use Rattle.cs_schema.specs.Watching.{key_of}
use Rattle.cs_txn.specs.declared.txn.Modification.{Modification}
use Rattle.cs_txn.specs.Fits.{FitsCatalog}
use Rattle.cs_capture.specs.Captured.{columns_in, captured}
use Rattle.cs_capture.specs.Types.{HasItsType, AreOfTheirTypes}
use Rattle.cs_capture.proofs.ToldColumns.{IsOf, is_of, info_is, each_name, marked, one_told, typed_as_told, names_differ, key_cells, new_cells, old_cells, IsInfo}
use Rattle.cs_capture.proofs.Fitting.{IsOfColumn, IsOfTable, of_table}
use Rattle.cs_capture.proofs.Ordinals.{rising}
use Rattle.cs_capture.proofs.SameNames.{columns_are, among_in, in_among, same_sorted}

pub has_columns : (tables : List Table) (streams : List Stream) (s : Stream) (m : Modification) (c : Captured) → IsSoundCatalog tables streams → FitsCatalog tables m → captured tables s m ≡ Some c → HasItsColumns c
has_columns tables streams s m c S F e =
    let O : IsOfTable (table_named m.row.table tables) m = of_table tables streams m S F in
    record {
      each = each_name tables s m c e O;
      marked = all_in (λ (x : ColumnInfo). x.is_key ≡ is_among x.name (columns_of c.change.row.key)) c.columns (marked tables s m c e O);
      rising = rising tables s m c e;
    }

-- the keys of two rows of a table have the same columns
pub same_key : (table : Option Table) (m n : Modification) → IsOfTable table m → IsOfTable table n → map (λ (x : Cell). x.column) m.row.key ≡ map (λ (x : Cell). x.column) n.row.key
same_key table m n F G = same_sorted (map (λ (x : Cell). x.column) m.row.key) (map (λ (x : Cell). x.column) n.row.key) F.key_cells.rising G.key_cells.rising (to m n F G) (to n m G F)
  where
    to : (m n : Modification) → IsOfTable table m → IsOfTable table n → (name : List ℕ) → Contains (map (λ (x : Cell). x.column) m.row.key) name → Contains (map (λ (x : Cell). x.column) n.row.key) name
    to m n F G name i =
        let here : is_among name (columns_of m.row.key) ≡ true = in_among name (columns_of m.row.key) (subst (λ l. Contains l name) (sym (columns_are m.row.key)) i) in
        subst (λ l. Contains l name) (columns_are n.row.key) (among_in name (columns_of n.row.key) (G.key name ∙ sym (F.key name) ∙ here))

pub agree : (tables : List Table) (streams : List Stream) (s : Stream) (m n : Modification) (c d : Captured) → IsSoundCatalog tables streams → FitsCatalog tables m → FitsCatalog tables n → m.stamp ≡ n.stamp → m.tx ≡ n.tx → m.tag ≡ n.tag
    → captured tables s m ≡ Some c → captured tables s n ≡ Some d → Agree c d
agree tables streams s m n c d S F G stamp tx tag e f = record {
  stamp = ap (λ (x : Change). x.stamp) a.change ∙ stamp ∙ sym (ap (λ (x : Change). x.stamp) b.change);
  tx = ap (λ (x : Change). x.tx) a.change ∙ tx ∙ sym (ap (λ (x : Change). x.tx) b.change);
  capture = a.capture ∙ sym b.capture;
  tag = a.tag ∙ tag ∙ sym b.tag;
  system = a.system ∙ sym b.system;
  key = λ t. ap (λ (x : Change). columns_of x.row.key) a.change ∙ keys (same_table t) ∙ sym (ap (λ (x : Change). columns_of x.row.key) b.change);
  columns = λ t. all_in (λ (x : ColumnInfo). All (λ (y : ColumnInfo). x.name ≡ y.name → x ≡ y) d.columns) c.columns (λ x i.
      all_in (λ (y : ColumnInfo). x.name ≡ y.name → x ≡ y) d.columns (λ y j names.
      one_told tables s m c e O x y (info_is tables s m c e O x i) (told_there t y j) names));
}
  where
    O : IsOfTable (table_named m.row.table tables) m
    O = of_table tables streams m S F

    Q : IsOfTable (table_named n.row.table tables) n
    Q = of_table tables streams n S G

    a : IsOf tables s m c
    a = is_of tables s m c e

    b : IsOf tables s n d
    b = is_of tables s n d f

    same_table : c.change.row.table ≡ d.change.row.table → m.row.table ≡ n.row.table
    same_table t = sym (ap (λ (x : Change). x.row.table) a.change) ∙ t ∙ ap (λ (x : Change). x.row.table) b.change

    keys : m.row.table ≡ n.row.table → columns_of m.row.key ≡ columns_of n.row.key
    keys t = columns_are m.row.key ∙ same_key (table_named m.row.table tables) m n O (subst (λ name. IsOfTable (table_named name tables) n) (sym t) Q) ∙ sym (columns_are n.row.key)

    told_there : c.change.row.table ≡ d.change.row.table → (y : ColumnInfo) → Contains d.columns y → IsInfo 1 (key_of (table_named m.row.table tables)) (columns_in (table_named m.row.table tables)) y
    told_there t y j = subst (λ name. IsInfo 1 (key_of (table_named name tables)) (columns_in (table_named name tables)) y) (sym (same_table t)) (info_is tables s n d f Q y j)

pub of_their_types : (tables : List Table) (streams : List Stream) (s : Stream) (m : Modification) (c : Captured) → IsSoundCatalog tables streams → FitsCatalog tables m → captured tables s m ≡ Some c → AreOfTheirTypes c
of_their_types tables streams s m c S F e =
    let O : IsOfTable (table_named m.row.table tables) m = of_table tables streams m S F in
    let told : (cell : Cell) → IsOfColumn (columns_in (table_named m.row.table tables)) cell → HasItsType c.columns cell =
    λ cell o. all_in (λ (x : ColumnInfo). x.name ≡ cell.column → IsOfType x.ty cell.value) c.columns (typed_as_told tables s m c e O cell o) in
    record {
      apart = pairs_to (λ (x y : ColumnInfo). x.name ≢ y.name) c.columns (names_differ tables s m c e O);
      key = All-weaker (IsOfColumn (columns_in (table_named m.row.table tables))) (HasItsType c.columns) told c.change.row.key (key_cells tables s m c e O);
      new = All-weaker (IsOfColumn (columns_in (table_named m.row.table tables))) (HasItsType c.columns) told c.change.new (new_cells tables s m c e O);
      old = All-weaker (IsOfColumn (columns_in (table_named m.row.table tables))) (HasItsType c.columns) told c.change.old (old_cells tables s m c e O);
    }
