-- What fits one catalog is of rows of one database.
use Rattle.std.proofs.Common.{◌≡◌, ◌∙◌, sym, ap, subst, refl, ℕ, List, [], ◌∷◌, Some, None, cond, false, true, Bool, is_some, true≢false, ◌||◌, All, nat_cmp}
use Rattle.std.specs.declared.option.Option.{Option}
use Rattle.std.specs.declared.cmp.Ordering.{Ordering}
use Rattle.std.specs.declared.cmp.Ordering.TheVariants.{Less, Equal, Greater}
use Rattle.std.specs.Ordering.{is_eq, ordering_reverse}
use Rattle.std.specs.Cmp.Lexicographic.{slice_cmp, nat_list_cmp_total}
use Rattle.std.specs.List.{AllByRecursion}
use Rattle.std.specs.List.Sorted.{IsStrictlySortedBy}
use Rattle.std.specs.Option.{option_or}
use Rattle.std.proofs.lemmas.List.Elements.{All-nil, All-cons, All-head, All-tail}
use Rattle.std.proofs.lemmas.Map.Lookups.{exact_bytes}
use Rattle.cs_types.specs.declared.value.Value.{Value}
use Rattle.cs_types.specs.declared.value.Value.TheVariants.{Null, Bool as Boolean, Int64, Numeric, Text, Bytes, Date, Timestamp}
use Rattle.cs_types.specs.declared.column_type.ColumnType.{ColumnType}
use Rattle.cs_types.specs.declared.column_type.ColumnType.TheVariants.{Bool as bool_type, Int64 as int64_type, Numeric as numeric_type, Text as text_type, Bytes as bytes_type, Date as date_type, Timestamp as timestamp_type}
use Rattle.cs_types.specs.declared.cells.Cell.{Cell}
use Rattle.cs_types.specs.declared.change.Kind.{Kind}
use Rattle.cs_types.specs.declared.change.Kind.TheVariants.{Insert, Update, Delete}
use Rattle.cs_types.specs.Cells.{IsRising}
use Rattle.cs_types.specs.Database.{columns, IsName, AreOfOneType, AgreeInTypes, AreOfOneDatabase}
use Rattle.cs_types.specs.Names.{is_same, is_among, columns_of}
use Rattle.cs_types.specs.Value.{IsOfType}
use Rattle.cs_schema.specs.declared.types.Column.{Column}
use Rattle.cs_schema.specs.declared.types.Table.{Table}
use Rattle.cs_schema.specs.Tables.{table_named}
use Rattle.cs_txn.specs.declared.txn.Modification.{Modification}
use Rattle.cs_txn.specs.Columns.{column_named, is_of, is_null}
use Rattle.cs_txn.specs.Fits.{FitsColumn, HaveNames, HasRows, FitsCatalog, TypesAgree}
use Rattle.cs_txn.proofs.Checked.{some_same, same_itself}

-- rising lists of the same names are one list

absent : (q : List ℕ) (names : List (List ℕ)) → AllByRecursion (λ y. slice_cmp nat_cmp q y ≡ Less) names → is_among q names ≡ false
absent q [] h = refl
absent q (y ∷ ys) h = at (slice_cmp nat_cmp y q) (nat_list_cmp_total.antisymm y q ∙ ap ordering_reverse h.0) (absent q ys h.1)
  where
    at : (o : Ordering) → o ≡ Greater → is_among q ys ≡ false → cond (is_eq o) true (is_among q ys) ≡ false
    at Less e i = i
    at Greater e i = i
    at Equal e i = absurd (true≢false (ap is_eq e))

above : (q p : List ℕ) (ps : List (List ℕ)) → slice_cmp nat_cmp q p ≡ Less → AllByRecursion (λ y. slice_cmp nat_cmp p y ≡ Less) ps → AllByRecursion (λ y. slice_cmp nat_cmp q y ≡ Less) ps
above q p [] l h = tt
above q p (r ∷ rs) l h = (nat_list_cmp_total.trans q p r l h.0, above q p rs l h.1)

first_among : (name : List ℕ) (names : List (List ℕ)) → is_among name (name ∷ names) ≡ true
first_among name names = ap (λ b. cond b true (is_among name names)) (same_itself name)

one_list : (xs ys : List (List ℕ)) → IsStrictlySortedBy (slice_cmp nat_cmp) xs → IsStrictlySortedBy (slice_cmp nat_cmp) ys → ((name : List ℕ) → is_among name xs ≡ is_among name ys) → xs ≡ ys
unfolding IsStrictlySortedBy
one_list [] [] r s h = refl
one_list [] (y ∷ ys) r s h = absurd (true≢false (sym (h y ∙ first_among y ys)))
one_list (x ∷ xs) [] r s h = absurd (true≢false (sym (first_among x xs) ∙ h x))
one_list (x ∷ xs) (y ∷ ys) r s h = at (slice_cmp nat_cmp x y) refl (λ k. one_list xs ys r.1 s.1 k)
  where
    tails : x ≡ y → (name : List ℕ) → is_among name xs ≡ is_among name ys
    tails same name = by (is_same x name) refl (h name ∙ ap (λ n. is_among name (n ∷ ys)) (sym same))
      where
        none_in : (zs : List (List ℕ)) → AllByRecursion (λ z. slice_cmp nat_cmp x z ≡ Less) zs → x ≡ name → is_among name zs ≡ false
        none_in zs a e = ap (λ n. is_among n zs) (sym e) ∙ absent x zs a

        by : (b : Bool) → is_same x name ≡ b → cond b true (is_among name xs) ≡ cond b true (is_among name ys) → is_among name xs ≡ is_among name ys
        by false e i = i
        by true e i =
            let named : x ≡ name = exact_bytes x name (is_equal (slice_cmp nat_cmp x name) e) in
            none_in xs r.0 named ∙ sym (none_in ys (subst (λ n. AllByRecursion (λ z. slice_cmp nat_cmp n z ≡ Less) ys) (sym same) s.0) named)
          where
            is_equal : (o : Ordering) → is_eq o ≡ true → o ≡ Equal
            is_equal Equal e = refl
            is_equal Less e = absurd (true≢false (sym e))
            is_equal Greater e = absurd (true≢false (sym e))

    at : (o : Ordering) → slice_cmp nat_cmp x y ≡ o → (((name : List ℕ) → is_among name xs ≡ is_among name ys) → xs ≡ ys) → x ∷ xs ≡ y ∷ ys
    at Less e f = absurd (true≢false (sym (first_among x xs) ∙ h x ∙ absent x (y ∷ ys) (e, above x y ys e s.0)))
    at Greater e f =
        let lower : slice_cmp nat_cmp y x ≡ Less = nat_list_cmp_total.antisymm y x ∙ ap ordering_reverse e in
        absurd (true≢false (sym (first_among y ys) ∙ sym (h y) ∙ absent y (x ∷ xs) (lower, above y x xs lower r.0)))
    at Equal e f =
        let same : x ≡ y = exact_bytes x y e in
        let rest = f (tails same) in
        λ i. same i ∷ rest i

mapped : (cells : List Cell) → columns_of cells ≡ columns cells
mapped [] = refl
mapped (c ∷ cs) = ap (λ l. c.column ∷ l) (mapped cs)

one_key : (a b : List Cell) → IsRising a → IsRising b → ((name : List ℕ) → is_among name (columns_of a) ≡ is_among name (columns_of b)) → columns a ≡ columns b
one_key a b r s h = one_list (columns a) (columns b) r s (λ name. ap (is_among name) (sym (mapped a)) ∙ h name ∙ ap (is_among name) (mapped b))

-- values of one type

of_type : (ty : ColumnType) (limit : Option ℕ) (v : Value) → (is_null v || is_of ty limit v) ≡ true → IsOfType ty v
of_type ty limit Null e = tt
of_type bool_type limit (Boolean b) e = refl
of_type int64_type limit (Boolean b) e = absurd (true≢false (sym e))
of_type numeric_type limit (Boolean b) e = absurd (true≢false (sym e))
of_type text_type limit (Boolean b) e = absurd (true≢false (sym e))
of_type bytes_type limit (Boolean b) e = absurd (true≢false (sym e))
of_type date_type limit (Boolean b) e = absurd (true≢false (sym e))
of_type timestamp_type limit (Boolean b) e = absurd (true≢false (sym e))
of_type bool_type limit (Int64 n) e = absurd (true≢false (sym e))
of_type int64_type limit (Int64 n) e = refl
of_type numeric_type limit (Int64 n) e = absurd (true≢false (sym e))
of_type text_type limit (Int64 n) e = absurd (true≢false (sym e))
of_type bytes_type limit (Int64 n) e = absurd (true≢false (sym e))
of_type date_type limit (Int64 n) e = absurd (true≢false (sym e))
of_type timestamp_type limit (Int64 n) e = absurd (true≢false (sym e))
of_type bool_type limit (Numeric n) e = absurd (true≢false (sym e))
of_type int64_type limit (Numeric n) e = absurd (true≢false (sym e))
of_type numeric_type limit (Numeric n) e = refl
of_type text_type limit (Numeric n) e = absurd (true≢false (sym e))
of_type bytes_type limit (Numeric n) e = absurd (true≢false (sym e))
of_type date_type limit (Numeric n) e = absurd (true≢false (sym e))
of_type timestamp_type limit (Numeric n) e = absurd (true≢false (sym e))
of_type bool_type limit (Text t) e = absurd (true≢false (sym e))
of_type int64_type limit (Text t) e = absurd (true≢false (sym e))
of_type numeric_type limit (Text t) e = absurd (true≢false (sym e))
of_type text_type limit (Text t) e = refl
of_type bytes_type limit (Text t) e = absurd (true≢false (sym e))
of_type date_type limit (Text t) e = absurd (true≢false (sym e))
of_type timestamp_type limit (Text t) e = absurd (true≢false (sym e))
of_type bool_type limit (Bytes b) e = absurd (true≢false (sym e))
of_type int64_type limit (Bytes b) e = absurd (true≢false (sym e))
of_type numeric_type limit (Bytes b) e = absurd (true≢false (sym e))
of_type text_type limit (Bytes b) e = absurd (true≢false (sym e))
of_type bytes_type limit (Bytes b) e = refl
of_type date_type limit (Bytes b) e = absurd (true≢false (sym e))
of_type timestamp_type limit (Bytes b) e = absurd (true≢false (sym e))
of_type bool_type limit (Date d) e = absurd (true≢false (sym e))
of_type int64_type limit (Date d) e = absurd (true≢false (sym e))
of_type numeric_type limit (Date d) e = absurd (true≢false (sym e))
of_type text_type limit (Date d) e = absurd (true≢false (sym e))
of_type bytes_type limit (Date d) e = absurd (true≢false (sym e))
of_type date_type limit (Date d) e = refl
of_type timestamp_type limit (Date d) e = absurd (true≢false (sym e))
of_type bool_type limit (Timestamp t) e = absurd (true≢false (sym e))
of_type int64_type limit (Timestamp t) e = absurd (true≢false (sym e))
of_type numeric_type limit (Timestamp t) e = absurd (true≢false (sym e))
of_type text_type limit (Timestamp t) e = absurd (true≢false (sym e))
of_type bytes_type limit (Timestamp t) e = absurd (true≢false (sym e))
of_type date_type limit (Timestamp t) e = absurd (true≢false (sym e))
of_type timestamp_type limit (Timestamp t) e = refl

one_column : (cs : List Column) (c d : Cell) → FitsColumn cs c → FitsColumn cs d → c.column ≡ d.column → AreOfOneType c.value d.value
one_column cs c d f g e =
    let same : f.column ≡ g.column = some_same f.column g.column (sym f.there ∙ ap (λ n. column_named n cs) e ∙ g.there) in
    (f.column.ty, of_type f.column.ty f.column.limit c.value f.value, subst (λ (x : Column). IsOfType x.ty d.value) (sym same) (of_type g.column.ty g.column.limit d.value g.value))

agree : (cs : List Column) (xs ys : List Cell) → All (FitsColumn cs) xs → All (FitsColumn cs) ys → AgreeInTypes xs ys
agree cs [] ys a b = All-nil (λ (c : Cell). All (λ (d : Cell). c.column ≡ d.column → AreOfOneType c.value d.value) ys)
agree cs (x ∷ xs) ys a b = All-cons (λ (c : Cell). All (λ (d : Cell). c.column ≡ d.column → AreOfOneType c.value d.value) ys) x xs (each ys b) (agree cs xs ys (All-tail (FitsColumn cs) x xs a) b)
  where
    each : (zs : List Cell) → All (FitsColumn cs) zs → All (λ (d : Cell). x.column ≡ d.column → AreOfOneType x.value d.value) zs
    each [] h = All-nil (λ (d : Cell). x.column ≡ d.column → AreOfOneType x.value d.value)
    each (z ∷ zs) h = All-cons (λ (d : Cell). x.column ≡ d.column → AreOfOneType x.value d.value) z zs (one_column cs x z (All-head (FitsColumn cs) x xs a) (All-head (FitsColumn cs) z zs h)) (each zs (All-tail (FitsColumn cs) z zs h))

-- two modifications of one catalog

abbrev Named : Table → Type 0
Named u = IsName u.name

named_table : (tables : List Table) (name : List ℕ) (t : Table) → HaveNames tables → table_named name tables ≡ Some t → IsName name
named_table [] name t h e = absurd (true≢false (sym (ap is_some e)))
named_table (x ∷ ts) name t h e = at (table_named name ts) (is_same x.name name) refl refl e (named_table ts name t (All-tail Named x ts h))
  where
    is_equal : (o : Ordering) → is_eq o ≡ true → o ≡ Equal
    is_equal Equal e = refl
    is_equal Less e = absurd (true≢false (sym e))
    is_equal Greater e = absurd (true≢false (sym e))

    at : (o : Option Table) (b : Bool) → table_named name ts ≡ o → is_same x.name name ≡ b → option_or o (cond b (Some x) None) ≡ Some t → (table_named name ts ≡ Some t → IsName name) → IsName name
    at (Some y) b f g e r = r (f ∙ e)
    at None true f g e r = subst IsName (exact_bytes x.name name (is_equal (slice_cmp nat_cmp x.name name) g)) (All-head Named x ts h)
    at None false f g e r = absurd (true≢false (sym (ap is_some e)))

one_table : (tables : List Table) (a b : Modification) (f : FitsCatalog tables a) (g : FitsCatalog tables b) → a.row.table ≡ b.row.table → f.table ≡ g.table
one_table tables a b f g e = some_same f.table g.table (sym f.there ∙ ap (λ n. table_named n tables) e ∙ g.there)

pub one_database : (tables : List Table) (a b : Modification) → HaveNames tables → FitsCatalog tables a → FitsCatalog tables b → AreOfOneDatabase a.row b.row
one_database tables a b h f g = record {
  layout = record {
    names = (named_table tables a.row.table f.table h f.there, named_table tables b.row.table g.table h g.there);
    columns_of_one_table = λ e. one_key a.row.key b.row.key f.fits.key.are_cells.rising g.fits.key.are_cells.rising (λ name. f.fits.key.columns name ∙ ap (λ (t : Table). is_among name t.key) (one_table tables a b f g e) ∙ sym (g.fits.key.columns name));
    values = (f.fits.key.are_cells.in_range, g.fits.key.are_cells.in_range);
  };
  types_of_one_table = λ e. agree g.table.columns a.row.key b.row.key (subst (λ (t : Table). All (FitsColumn t.columns) a.row.key) (one_table tables a b f g e) f.fits.key.values) g.fits.key.values;
}

before_fits : (t : Table) (n : ℕ) (k : Kind) (before after : List Cell) → HasRows t n k before after → All (FitsColumn t.columns) before
before_fits t n Insert before after h = subst (All (FitsColumn t.columns)) (sym h.0) (All-nil (FitsColumn t.columns))
before_fits t n Update before after h = h.0.values
before_fits t n Delete before after h = h.0.values

after_fits : (t : Table) (n : ℕ) (k : Kind) (before after : List Cell) → HasRows t n k before after → All (FitsColumn t.columns) after
after_fits t n Insert before after h = h.1.values
after_fits t n Update before after h = h.1.values
after_fits t n Delete before after h = subst (All (FitsColumn t.columns)) (sym h.1) (All-nil (FitsColumn t.columns))

pub types_agree : (tables : List Table) (a b : Modification) → FitsCatalog tables a → FitsCatalog tables b → a.row.table ≡ b.row.table → TypesAgree a b
types_agree tables a b f g e =
    let same = one_table tables a b f g e in
    let before = subst (λ (t : Table). All (FitsColumn t.columns) a.before) same (before_fits f.table f.fits.count a.kind a.before a.after f.fits.rows) in
    let after = subst (λ (t : Table). All (FitsColumn t.columns) a.after) same (after_fits f.table f.fits.count a.kind a.before a.after f.fits.rows) in
    let other_before = before_fits g.table g.fits.count b.kind b.before b.after g.fits.rows in
    let other_after = after_fits g.table g.fits.count b.kind b.before b.after g.fits.rows in
    record {
      before = agree g.table.columns a.before b.before before other_before;
      after = agree g.table.columns a.after b.after after other_after;
      across = agree g.table.columns a.before b.after before other_after;
    }
