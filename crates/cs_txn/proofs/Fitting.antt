-- What a transaction adds fits the catalog that did not refuse it.
use Rattle.std.proofs.Common.{◌≡◌, ◌∙◌, sym, ap, subst, refl, ℕ, zero, suc, List, [], ◌∷◌, ◌++◌, Some, None, cond, false, true, Bool, is_some, true≢false, not, ◌&&◌, All, length, take, arith, append_assoc, append-nil}
use Rattle.std.specs.declared.option.Option.{Option}
use Rattle.std.specs.List.{AllByRecursion}
use Rattle.std.specs.Option.{option_or}
use Rattle.std.specs.Cmp.{Equal-is}
use Rattle.std.proofs.Math.Seq.{take-length}
use Rattle.std.proofs.lemmas.List.Elements.{All-nil, All-cons, All-head, All-tail, All-append}
use Rattle.cs_types.specs.declared.value.Value.{Value}
use Rattle.cs_types.specs.declared.value.Value.TheVariants.{Null}
use Rattle.cs_types.specs.declared.cells.Cell.{Cell}
use Rattle.cs_types.specs.declared.change.RowName.{RowName}
use Rattle.cs_types.specs.declared.change.Kind.{Kind}
use Rattle.cs_types.specs.declared.change.Kind.TheVariants.{Insert, Update, Delete}
use Rattle.cs_types.specs.Cells.{AreCells}
use Rattle.cs_types.specs.Exact.{exact_row}
use Rattle.cs_types.specs.Firsts.{first_of}
use Rattle.cs_types.specs.Names.{is_same, is_among, columns_of}
use Rattle.cs_types.specs.Row.{row_cmp, same_row}
use Rattle.cs_schema.specs.declared.types.Column.{Column}
use Rattle.cs_schema.specs.declared.types.Table.{Table}
use Rattle.cs_schema.specs.Sound.{IsSoundTable}
use Rattle.cs_schema.specs.Tables.{table_named, column_names}
use Rattle.cs_txn.specs.declared.fault.TxnFault.TheVariants.{RowTwice}
use Rattle.cs_txn.specs.declared.txn.Write.{Write}
use Rattle.cs_txn.specs.declared.txn.Txn.{Txn}
use Rattle.cs_txn.specs.declared.txn.Modification.{Modification}
use Rattle.cs_txn.specs.Columns.{column_named, value_fault, no_such, no_key, key_without, unset_by}
use Rattle.cs_txn.specs.Faults.{is_named, twice_behind, write_fault}
use Rattle.cs_txn.specs.Fits.{FitsColumn, is_free, IsKeyOf, IsRowOf, HasRows, FitsCatalog, StandsBefore, StandsAfter, HasCells, HasAllOf, FitsBehind, EachFits, IsHistoryOf}
use Rattle.cs_txn.specs.History.{last_of, left_by, left_of, state_before, modification_of, modifications_from, modifications_of, IsAllowed}
use Rattle.cs_txn.specs.Left.{free_names, free_columns, free_columns_of, found_in, or_under, value_over, cells_for, cells_or_none, row_cells, cells_left}
use Rattle.cs_txn.proofs.Checked.{neither, some_same, same_names, among_first, among_later, free_is, named_column, cells_fit, set_free, free_there, key_columns, Unrefused, AllUnrefused}
use Rattle.cs_txn.proofs.Kept.{last_kept, not_first, from_append, all_unrefused, all_allowed, unnamed_twice}
use Rattle.cs_txn.proofs.Leaves.{columns_for}

-- what holds of each cell

found_has : (P : Cell → Type 0) (name : List ℕ) (cells : List Cell) (v : Value) → All P cells → found_in name cells ≡ Some v → P (record { column = name; value = v })
found_has P name [] v a e = absurd (true≢false (sym (ap is_some e)))
found_has P name (c ∷ cs) v a e = at (is_same c.column name) refl e (found_has P name cs v (All-tail P c cs a))
  where
    at : (b : Bool) → is_same c.column name ≡ b → cond b (Some c.value) (found_in name cs) ≡ Some v → (found_in name cs ≡ Some v → P (record { column = name; value = v })) → P (record { column = name; value = v })
    at true s e r =
        let column = same_names c.column name s in
        let value = some_same c.value v e in
        let is : c ≡ record { column = name; value = v } = λ i. record { column = column i; value = value i } in
        subst P is (All-head P c cs a)
    at false s e r = r e

over_has : (P : Cell → Type 0) (name : List ℕ) (set under : List Cell) → P (record { column = name; value = Null }) → All P set → All P under → P (record { column = name; value = value_over name set under })
over_has P name set under n a b = at (found_in name set) (found_in name under) refl refl
  where
    at : (s u : Option Value) → found_in name set ≡ s → found_in name under ≡ u → P (record { column = name; value = or_under s u })
    at (Some v) u e f = found_has P name set v a e
    at None (Some v) e f = found_has P name under v b f
    at None None e f = n

each_for : (P : Cell → Type 0) (columns : List (List ℕ)) (set under : List Cell) → ((name : List ℕ) → is_among name columns ≡ true → P (record { column = name; value = Null })) → All P set → All P under → All P (cells_for columns set under)
each_for P [] set under n a b = All-nil P
each_for P (c ∷ cs) set under n a b =
    All-cons P (record { column = c; value = value_over c set under }) (cells_for cs set under)
    (over_has P c set under (n c (among_first c cs)) a b)
    (each_for P cs set under (λ name i. n name (among_later name c cs i)) a b)

-- the cells of a row

module _ (t : Table) where
  abbrev free : List (List ℕ)
  free = free_names [] t.key t.columns

  null_fits : (name : List ℕ) → is_among name free ≡ true → FitsColumn t.columns (record { column = name; value = Null })
  null_fits name i = named_column t.columns (record { column = name; value = Null }) (column_named name t.columns) refl (free_there t name (sym (free_is t name) ∙ i)) (λ c e. refl)

  row_of : (set under : List Cell) → AreCells (cells_for free set under) → All (FitsColumn t.columns) set → All (FitsColumn t.columns) under → IsRowOf t (length t.columns) (cells_for free set under)
  row_of set under r a b = record {
    are_cells = r;
    columns = λ name. ap (is_among name) (columns_for free set under) ∙ free_is t name ∙ ap (λ cs. is_free t.key cs name) (sym (take-length t.columns));
    values = each_for (FitsColumn t.columns) free set under null_fits a b;
  }

  has_rows : (k : Kind) (set : List Cell) (o : Option (List Cell)) → IsAllowed k (is_some o) → StandsBefore k (row_cells free o) → StandsAfter k (cells_left free k set o) → All (FitsColumn t.columns) set → All (FitsColumn t.columns) (cells_or_none o)
      → HasRows t (length t.columns) k (row_cells free o) (cells_left free k set o)
  has_rows Insert set None h r q a b = (refl, row_of set [] q a b)
  has_rows Insert set (Some s) h r q a b = absurd (true≢false h)
  has_rows Update set None h r q a b = absurd (true≢false (sym h))
  has_rows Update set (Some s) h r q a b = (row_of [] s r (All-nil (FitsColumn t.columns)) b, row_of set s q a b)
  has_rows Delete set None h r q a b = absurd (true≢false (sym h))
  has_rows Delete set (Some s) h r q a b = (row_of [] s r (All-nil (FitsColumn t.columns)) b, refl)

  all_named : (cells : List Cell) → ((name : List ℕ) → is_among name (columns_of cells) ≡ true → is_free t.key t.columns name ≡ true) → All (λ name. is_free t.key (take (length t.columns) t.columns) name ≡ true) (columns_of cells)
  all_named [] h = All-nil (λ name. is_free t.key (take (length t.columns) t.columns) name ≡ true)
  all_named (c ∷ cs) h =
      All-cons (λ name. is_free t.key (take (length t.columns) t.columns) name ≡ true) c.column (columns_of cs)
      (ap (λ l. is_free t.key l c.column) (take-length t.columns) ∙ h c.column (among_first c.column (columns_of cs)))
      (all_named cs (λ name i. h name (among_later name c.column (columns_of cs) i)))

-- what an earlier modification left

pub last_has : (P : Modification → Type 0) (row : RowName) (ms : List Modification) (m : Modification) → All P ms → last_of row ms ≡ Some m → P m × (m.row ≡ row)
last_has P row [] m a e = absurd (true≢false (sym (ap is_some e)))
last_has P row (x ∷ ms) m a e = at (last_of row ms) (same_row x.row row) refl refl e (last_has P row ms m (All-tail P x ms a))
  where
    at : (o : Option Modification) (b : Bool) → last_of row ms ≡ o → same_row x.row row ≡ b → option_or o (cond b (Some x) None) ≡ Some m → (last_of row ms ≡ Some m → P m × (m.row ≡ row)) → P m × (m.row ≡ row)
    at (Some y) b f g e r = r (f ∙ e)
    at None true f g e r =
        let is : x ≡ m = some_same x m e in
        (subst P is (All-head P x ms a), ap (λ (y : Modification). y.row) (sym is) ∙ exact_row x.row row ((Equal-is (row_cmp x.row row)).0 g))
    at None false f g e r = absurd (true≢false (sym (ap is_some e)))

-- cells of the first columns
abbrev Stood : Table → List Cell → Type 0
Stood t cells = All (FitsColumn t.columns) cells × ((name : List ℕ) → is_among name (columns_of cells) ≡ true → is_free t.key t.columns name ≡ true)

more_columns : (columns : List Column) (n : ℕ) (name : List ℕ) → is_some (column_named name (take n columns)) ≡ true → is_some (column_named name columns) ≡ true
more_columns [] zero name e = e
more_columns [] (suc n) name e = e
more_columns (c ∷ cs) zero name e = absurd (true≢false (sym e))
more_columns (c ∷ cs) (suc n) name e = at (is_same c.name name) e (more_columns cs n name)
  where
    at : (b : Bool) → is_some (cond b (Some c) (column_named name (take n cs))) ≡ true → (is_some (column_named name (take n cs)) ≡ true → is_some (column_named name cs) ≡ true) → is_some (cond b (Some c) (column_named name cs)) ≡ true
    at true e r = refl
    at false e r = r e

more_free : (t : Table) (n : ℕ) (name : List ℕ) → is_free t.key (take n t.columns) name ≡ true → is_free t.key t.columns name ≡ true
more_free t n name e = at (is_some (column_named name (take n t.columns))) (is_some (column_named name t.columns)) (not (is_among name t.key)) (more_columns t.columns n name) e
  where
    at : (a b c : Bool) → (a ≡ true → b ≡ true) → (a && c) ≡ true → (b && c) ≡ true
    at true true c f e = e
    at true false c f e = absurd (true≢false (sym (f refl)))
    at false b c f e = absurd (true≢false (sym e))

row_stood : (t : Table) (n : ℕ) (cells : List Cell) → IsRowOf t n cells → Stood t cells
row_stood t n cells r = (r.values, λ name i. more_free t n name (sym (r.columns name) ∙ i))

left_stood : (t : Table) (n : ℕ) (k : Kind) (before after : List Cell) → HasRows t n k before after → Stood t (cells_or_none (left_by k after))
left_stood t n Insert before after h = row_stood t n after h.1
left_stood t n Update before after h = row_stood t n after h.1
left_stood t n Delete before after h = none_stood t
  where
    none_stood : (u : Table) → Stood u []
    none_stood u = (All-nil (FitsColumn u.columns), λ name i. absurd (true≢false (sym i)))

pub state_stood : (tables : List Table) (t : Table) (row : RowName) (ms : List Modification) → table_named row.table tables ≡ Some t → All (FitsCatalog tables) ms → Stood t (cells_or_none (state_before ms row))
state_stood tables t row ms there a = at (last_of row ms) refl
  where
    at : (o : Option Modification) → last_of row ms ≡ o → Stood t (cells_or_none (left_of o))
    at None e = (All-nil (FitsColumn t.columns), λ name i. absurd (true≢false (sym i)))
    at (Some m) e =
        let (f, same) = last_has (FitsCatalog tables) row ms m a e in
        let table : f.table ≡ t = some_same f.table t (sym f.there ∙ ap (λ (r : RowName). table_named r.table tables) same ∙ there) in
        subst (λ u. Stood u (cells_or_none (left_by m.kind m.after))) table (left_stood f.table f.fits.count m.kind m.before m.after f.fits.rows)

-- one write

key_fits : (t : Table) (key : List Cell) → AreCells key → All (λ name. is_some (column_named name t.columns) ≡ true) t.key → first_of (value_fault t.columns) key ≡ None → first_of (no_key t.key) key ≡ None → key_without key t.key ≡ None → IsKeyOf t key
key_fits t key r h v a b = record {
  are_cells = r;
  columns = key_columns t key a b;
  values = cells_fit t key v (λ name i. among_all t.key name h (sym (key_columns t key a b name) ∙ i));
}
  where
    among_all : (names : List (List ℕ)) (name : List ℕ) → All (λ n. is_some (column_named n t.columns) ≡ true) names → is_among name names ≡ true → is_some (column_named name t.columns) ≡ true
    among_all [] name h i = absurd (true≢false (sym i))
    among_all (n ∷ ns) name h i = at (is_same n name) refl i (among_all ns name (All-tail (λ x. is_some (column_named x t.columns) ≡ true) n ns h))
      where
        at : (b : Bool) → is_same n name ≡ b → cond b true (is_among name ns) ≡ true → (is_among name ns ≡ true → is_some (column_named name t.columns) ≡ true) → is_some (column_named name t.columns) ≡ true
        at true e i r = subst (λ x. is_some (column_named x t.columns) ≡ true) (same_names n name e) (All-head (λ x. is_some (column_named x t.columns) ≡ true) n ns h)
        at false e i r = r i

name_there : (columns : List Column) (name : List ℕ) → is_among name (column_names columns) ≡ is_some (column_named name columns)
name_there [] name = refl
name_there (c ∷ cs) name = at (is_same c.name name) (name_there cs name)
  where
    at : (b : Bool) → is_among name (column_names cs) ≡ is_some (column_named name cs) → cond b true (is_among name (column_names cs)) ≡ is_some (cond b (Some c) (column_named name cs))
    at true i = refl
    at false i = i

keys_there : (columns : List Column) (key : List (List ℕ)) → All (λ name. is_among name (column_names columns) ≡ true) key → All (λ name. is_some (column_named name columns) ≡ true) key
keys_there columns [] h = All-nil (λ name. is_some (column_named name columns) ≡ true)
keys_there columns (n ∷ ns) h =
    All-cons (λ name. is_some (column_named name columns) ≡ true) n ns
    (sym (name_there columns n) ∙ All-head (λ name. is_among name (column_names columns) ≡ true) n ns h)
    (keys_there columns ns (All-tail (λ name. is_among name (column_names columns) ≡ true) n ns h))

abbrev IsKeyed : Table → Type 0
IsKeyed u = All (λ k. is_some (column_named k u.columns) ≡ true) u.key

keyed : (tables : List Table) (name : List ℕ) (t : Table) → All IsSoundTable tables → table_named name tables ≡ Some t → IsKeyed t
keyed [] name t h e = absurd (true≢false (sym (ap is_some e)))
keyed (x ∷ ts) name t h e = at (table_named name ts) (is_same x.name name) refl e (keyed ts name t (All-tail IsSoundTable x ts h))
  where
    at : (o : Option Table) (b : Bool) → table_named name ts ≡ o → option_or o (cond b (Some x) None) ≡ Some t → (table_named name ts ≡ Some t → IsKeyed t) → IsKeyed t
    at (Some y) b f e r = r (f ∙ e)
    at None true f e r = subst IsKeyed (some_same x t e) (keys_there x.columns x.key (All-head IsSoundTable x ts h).key_there)
    at None false f e r = absurd (true≢false (sym (ap is_some e)))

module _ (tables : List Table) (ms : List Modification) (txn : Txn) (k : All IsSoundTable tables) (a : All (FitsCatalog tables) ms) where
  one_fits : (w : Write) → Unrefused tables w → IsAllowed w.kind (is_some (state_before ms w.row)) → HasCells (modification_of tables ms txn w) → FitsCatalog tables (modification_of tables ms txn w)
  one_fits w u allowed made =
      let t : Table = u.table in
      let v = neither (first_of (value_fault t.columns) w.row.key) (option_or (first_of (value_fault t.columns) w.set) (unset_by w.kind t w.set)) u.values in
      let s = neither (first_of (value_fault t.columns) w.set) (unset_by w.kind t w.set) v.1 in
      let n = neither (first_of (no_such t.columns) w.set) (option_or (first_of (no_key t.key) w.row.key) (key_without w.row.key t.key)) u.columns in
      let b = neither (first_of (no_key t.key) w.row.key) (key_without w.row.key t.key) n.1 in
      let names = set_free t w.set u.key n.0 in
      let set = cells_fit t w.set s.0 (λ name i. free_there t name (names name i)) in
      let state = state_stood tables t w.row ms u.there a in
      let P : Option Table → Type 0 = λ o. StandsBefore w.kind (row_cells (free_columns o) (state_before ms w.row)) × StandsAfter w.kind (cells_left (free_columns o) w.kind w.set (state_before ms w.row)) in
      let stands = subst P u.there (made.before, made.after) in
      let Q : Option Table → Type 0 = λ o. HasRows t (length t.columns) w.kind (row_cells (free_columns o) (state_before ms w.row)) (cells_left (free_columns o) w.kind w.set (state_before ms w.row)) in
      record {
        table = t;
        there = u.there;
        fits = record {
          key = key_fits t w.row.key made.key (keyed tables w.row.table t k u.there) v.0 b.0 b.1;
          count = length t.columns;
          within = omega arith;
          named = all_named t w.set names;
          rows = subst Q (sym u.there) (has_rows t w.kind w.set (state_before ms w.row) allowed stands.0 stands.1 set state.0);
        };
      }

  all_fit : (ws : List Write) → AllUnrefused tables ws → AllByRecursion (λ (w : Write). IsAllowed w.kind (is_some (state_before ms w.row))) ws → All HasCells (modifications_from tables ms txn ws) → All (FitsCatalog tables) (modifications_from tables ms txn ws)
  all_fit [] u h m = All-nil (FitsCatalog tables)
  all_fit (w ∷ ws) u h m =
      All-cons (FitsCatalog tables) (modification_of tables ms txn w) (modifications_from tables ms txn ws)
      (one_fits w u.0 h.0 (All-head HasCells (modification_of tables ms txn w) (modifications_from tables ms txn ws) m))
      (all_fit ws u.1 h.1 (All-tail HasCells (modification_of tables ms txn w) (modifications_from tables ms txn ws) m))

  pub fits_kept : write_fault tables ms txn ≡ None → All HasCells (modifications_of tables ms txn) → All (FitsCatalog tables) (ms ++ modifications_of tables ms txn)
  fits_kept none m = All-append (FitsCatalog tables) ms (modifications_of tables ms txn) a (all_fit txn.writes (all_unrefused tables ms txn none) (all_allowed tables ms txn none) m)

-- a history of a catalog

pub each_fits : (tables : List Table) (earlier ms : List Modification) → EachFits tables earlier ms → All (FitsCatalog tables) ms
each_fits tables earlier [] h = All-nil (FitsCatalog tables)
each_fits tables earlier (m ∷ ms) h = All-cons (FitsCatalog tables) m ms h.0.fits (each_fits tables (earlier ++ m ∷ []) ms h.1)

each_append : (tables : List Table) (e xs ys : List Modification) → EachFits tables e xs → EachFits tables (e ++ xs) ys → EachFits tables e (xs ++ ys)
each_append tables e [] ys h k = let P : List Modification → Type 0 = λ l. EachFits tables l ys in subst P (append-nil e) k
each_append tables e (x ∷ xs) ys h k =
    let P : List Modification → Type 0 = λ l. EachFits tables l ys in
    (h.0, each_append tables (e ++ x ∷ []) xs ys h.1 (subst P (sym (append_assoc e (x ∷ []) xs)) k))

finds_all : (t : Table) (o : Option (List Cell)) → ((name : List ℕ) → is_among name (columns_of (cells_or_none o)) ≡ true → is_free t.key t.columns name ≡ true) → HasAllOf (cells_or_none o) (row_cells (free t) o)
finds_all t None h name i = i
finds_all t (Some s) h name i = ap (is_among name) (columns_for (free t) [] s) ∙ free_is t name ∙ h name i

module _ (tables : List Table) (ms : List Modification) (txn : Txn) (k : All IsSoundTable tables) (a : All (FitsCatalog tables) ms) where
  one_behind : (done : List Write) (w : Write) → is_named w.row done ≡ false → Unrefused tables w → IsAllowed w.kind (is_some (state_before ms w.row)) → HasCells (modification_of tables ms txn w)
      → FitsBehind tables (ms ++ modifications_from tables ms txn done) (modification_of tables ms txn w)
  one_behind done w new u allowed made =
      let state = state_stood tables u.table w.row ms u.there a in
      let kept : state_before (ms ++ modifications_from tables ms txn done) w.row ≡ state_before ms w.row = ap left_of (last_kept tables w.row ms txn done new) in
      let P : Option Table → Type 0 = λ o. HasAllOf (cells_or_none (state_before ms w.row)) (row_cells (free_columns o) (state_before ms w.row)) in
      let Q : Option (List Cell) → Type 0 = λ o. HasAllOf (cells_or_none o) (row_cells (free_columns_of w.row.table tables) (state_before ms w.row)) in
      record {
        fits = one_fits tables ms txn k a w u allowed made;
        found = subst Q (sym kept) (subst P (sym u.there) (finds_all u.table (state_before ms w.row) state.1));
      }

  all_behind : (done ws : List Write) → twice_behind done ws ≡ None → AllUnrefused tables ws → AllByRecursion (λ (w : Write). IsAllowed w.kind (is_some (state_before ms w.row))) ws → All HasCells (modifications_from tables ms txn ws)
      → EachFits tables (ms ++ modifications_from tables ms txn done) (modifications_from tables ms txn ws)
  all_behind done [] t u h m = tt
  all_behind done (w ∷ ws) t u h m =
      let n = not_first (is_named w.row done) (RowTwice w.row) (twice_behind (done ++ w ∷ []) ws) t in
      let P : List Modification → Type 0 = λ l. EachFits tables l (modifications_from tables ms txn ws) in
      let is : ms ++ modifications_from tables ms txn (done ++ w ∷ []) ≡ (ms ++ modifications_from tables ms txn done) ++ modification_of tables ms txn w ∷ [] = ap (λ l. ms ++ l) (from_append tables ms txn done w) ∙ sym (append_assoc ms (modifications_from tables ms txn done) (modification_of tables ms txn w ∷ [])) in (
        one_behind done w n.0 u.0 h.0 (All-head HasCells (modification_of tables ms txn w) (modifications_from tables ms txn ws) m),
        subst P is (all_behind (done ++ w ∷ []) ws n.1 u.1 h.1 (All-tail HasCells (modification_of tables ms txn w) (modifications_from tables ms txn ws) m)),
      )

pub history_of_kept : (tables : List Table) (ms : List Modification) (txn : Txn) → All IsSoundTable tables → IsHistoryOf tables ms → write_fault tables ms txn ≡ None → All HasCells (modifications_of tables ms txn) → IsHistoryOf tables (ms ++ modifications_of tables ms txn)
history_of_kept tables ms txn k h none m =
    let P : List Modification → Type 0 = λ l. EachFits tables l (modifications_of tables ms txn) in
    each_append tables [] ms (modifications_of tables ms txn) h (subst P (append-nil ms) (all_behind tables ms txn k (each_fits tables [] ms h) [] txn.writes (unnamed_twice tables ms txn none) (all_unrefused tables ms txn none) (all_allowed tables ms txn none) m))
