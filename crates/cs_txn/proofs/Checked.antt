-- What a write has that the catalog does not refuse.
use Rattle.std.proofs.Common.{◌≡◌, ◌∙◌, sym, ap, subst, refl, ℕ, List, [], ◌∷◌, Some, None, cond, false, true, Bool, is_some, true≢false, not, ◌&&◌, ◌||◌, All, nat_cmp, rules}
use Rattle.std.specs.declared.option.Option.{Option}
use Rattle.std.specs.declared.cmp.Ordering.{Ordering}
use Rattle.std.specs.declared.cmp.Ordering.TheVariants.{Less, Equal, Greater}
use Rattle.std.specs.Ordering.{is_eq, match_ordering}
use Rattle.std.specs.Cmp.{Equal-is}
use Rattle.std.specs.Cmp.Lexicographic.{slice_cmp, nat_list_cmp_total}
use Rattle.std.specs.BTreeSet.{insert_key}
use Rattle.std.specs.List.{AllByRecursion}
use Rattle.std.specs.Option.{option_or}
use Rattle.std.proofs.lemmas.Cmp.{tied_itself}
use Rattle.std.proofs.lemmas.List.Elements.{All-nil, All-cons}
use Rattle.std.proofs.lemmas.Map.Lookups.{exact_bytes}
use Rattle.cs_types.specs.declared.value.Value.{Value}
use Rattle.cs_types.specs.declared.cells.Cell.{Cell}
use Rattle.cs_types.specs.Firsts.{first_of}
use Rattle.cs_types.specs.Names.{is_same, is_among, columns_of}
use Rattle.cs_schema.specs.declared.types.Column.{Column}
use Rattle.cs_schema.specs.declared.types.Table.{Table}
use Rattle.cs_schema.specs.Tables.{table_named}
use Rattle.cs_txn.specs.declared.fault.TxnFault.TheVariants.{BadValue, KeyColumnSet, NoColumn}
use Rattle.cs_txn.specs.declared.test.Test.TheVariants.{Values, Set, Tables, Columns}
use Rattle.cs_txn.specs.declared.txn.Write.{Write}
use Rattle.cs_txn.specs.Columns.{column_named, fits, is_of, is_null, misfit, value_fault, bad_value, key_cell, key_set, no_such, no_key, key_without, no_column, fault_at, fault_by}
use Rattle.cs_txn.specs.Left.{free_names, free_columns, free_columns_of, found_in}
use Rattle.cs_txn.specs.Fits.{may_have, FitsColumn, is_free}

-- alternatives

pub neither : {A : Type 0} (a b : Option A) → option_or a b ≡ None → (a ≡ None) × (b ≡ None)
neither None b e = (refl, e)
neither (Some x) b e = absurd (true≢false (ap is_some e))

pub not_some : {A : Type 0} (b : Bool) (x : A) → cond b (Some x) None ≡ None → b ≡ false
not_some true x e = absurd (true≢false (ap is_some e))
not_some false x e = refl

pub not_none : {A : Type 0} (b : Bool) (x : A) → cond b None (Some x) ≡ None → b ≡ true
not_none true x e = refl
not_none false x e = absurd (true≢false (ap is_some e))

pub some_same : {A : Type 0} (x y : A) → Some x ≡ Some y → x ≡ y
some_same x y e = search rules

pub alike : (a b : Bool) → (a ≡ true → b ≡ true) → (b ≡ true → a ≡ true) → a ≡ b
alike true b f g = sym (f refl)
alike false true f g = g refl
alike false false f g = refl

-- names

pub same_names : (a b : List ℕ) → is_same a b ≡ true → a ≡ b
same_names a b e = exact_bytes a b ((Equal-is (slice_cmp nat_cmp a b)).0 e)

pub same_itself : (a : List ℕ) → is_same a a ≡ true
same_itself a = ap is_eq (tied_itself nat_list_cmp_total a)

pub among_first : (name : List ℕ) (names : List (List ℕ)) → is_among name (name ∷ names) ≡ true
among_first name names = ap (λ b. cond b true (is_among name names)) (same_itself name)

pub among_later : (name n : List ℕ) (names : List (List ℕ)) → is_among name names ≡ true → is_among name (n ∷ names) ≡ true
among_later name n names e = at (is_same n name)
  where
    at : (b : Bool) → cond b true (is_among name names) ≡ true
    at true = refl
    at false = e

insert_among : (name k : List ℕ) (names : List (List ℕ)) → is_among name (insert_key (slice_cmp nat_cmp) names k) ≡ cond (is_same k name) true (is_among name names)
insert_among name k [] = refl
insert_among name k (x ∷ xs) = at (slice_cmp nat_cmp k x) refl (insert_among name k xs)
  where
    once : (b r : Bool) → cond b true r ≡ cond b true (cond b true r)
    once true r = refl
    once false r = refl

    swap : (a b r : Bool) → cond a true (cond b true r) ≡ cond b true (cond a true r)
    swap true true r = refl
    swap true false r = refl
    swap false true r = refl
    swap false false r = refl

    at : (o : Ordering) → slice_cmp nat_cmp k x ≡ o → is_among name (insert_key (slice_cmp nat_cmp) xs k) ≡ cond (is_same k name) true (is_among name xs)
        → is_among name (match_ordering o (k ∷ x ∷ xs) (x ∷ xs) (x ∷ insert_key (slice_cmp nat_cmp) xs k)) ≡ cond (is_same k name) true (cond (is_same x name) true (is_among name xs))
    at Less e i = refl
    at Equal e i = once (is_same x name) (is_among name xs) ∙ ap (λ n. cond (is_same n name) true (cond (is_same x name) true (is_among name xs))) (sym (exact_bytes k x e))
    at Greater e i = ap (cond (is_same x name) true) i ∙ swap (is_same x name) (is_same k name) (is_among name xs)

-- the free columns are just those that are no key columns
pub free_among : (key : List (List ℕ)) (name : List ℕ) (names : List (List ℕ)) (columns : List Column) → is_among name (free_names names key columns) ≡ cond (is_among name names) true (is_free key columns name)
free_among key name names [] = elim (is_among name names) as (λ b. b ≡ cond b true false) [ true ↦ refl | false ↦ refl ]
free_among key name names (c ∷ cs) = free_among key name (cond (is_among c.name key) names (insert_key (slice_cmp nat_cmp) names c.name)) cs ∙ at (is_among c.name key) refl
  where
    of_key : (s : Bool) → is_same c.name name ≡ s → is_among c.name key ≡ true → is_free key cs name ≡ (is_some (cond s (Some c) (column_named name cs)) && not (is_among name key))
    of_key false e k = refl
    of_key true e k =
        let in_key : is_among name key ≡ true = ap (λ n. is_among n key) (sym (same_names c.name name e)) ∙ k in
        none (is_some (column_named name cs)) (is_among name key) in_key
      where
        none : (a b : Bool) → b ≡ true → (a && not b) ≡ (true && not b)
        none true b f = refl
        none false true f = refl
        none false false f = absurd (true≢false (sym f))

    of_none : (s : Bool) → is_same c.name name ≡ s → is_among c.name key ≡ false → cond (cond s true (is_among name names)) true (is_free key cs name) ≡ cond (is_among name names) true (is_some (cond s (Some c) (column_named name cs)) && not (is_among name key))
    of_none false e k = refl
    of_none true e k =
        let no_key : is_among name key ≡ false = ap (λ n. is_among n key) (sym (same_names c.name name e)) ∙ k in
        some (is_among name names) (is_among name key) no_key
      where
        some : (a b : Bool) → b ≡ false → true ≡ cond a true (true && not b)
        some true b f = refl
        some false true f = absurd (true≢false f)
        some false false f = refl

    at : (b : Bool) → is_among c.name key ≡ b → cond (is_among name (cond b names (insert_key (slice_cmp nat_cmp) names c.name))) true (is_free key cs name) ≡ cond (is_among name names) true (is_free key (c ∷ cs) name)
    at true e = ap (cond (is_among name names) true) (of_key (is_same c.name name) refl e)
    at false e = ap (λ b. cond b true (is_free key cs name)) (insert_among name c.name names) ∙ of_none (is_same c.name name) refl e

pub free_is : (t : Table) (name : List ℕ) → is_among name (free_names [] t.key t.columns) ≡ is_free t.key t.columns name
free_is t name = free_among t.key name [] t.columns

-- cells that are set

pub named_column : (columns : List Column) (cell : Cell) (o : Option Column) → column_named cell.column columns ≡ o → is_some o ≡ true → ((c : Column) → column_named cell.column columns ≡ Some c → may_have c cell.value ≡ true) → FitsColumn columns cell
named_column columns cell None e s f = absurd (true≢false (sym s))
named_column columns cell (Some c) e s f = record { column = c; there = e; value = f c e }

-- a value that fits its column is one that it may have
may_stand : (c : Column) (v : Value) → fits c v ≡ true → may_have c v ≡ true
may_stand c v e = at (is_null v) (is_of c.ty c.limit v) (not c.not_null) e
  where
    at : (n o m : Bool) → cond n m o ≡ true → (n || o) ≡ true
    at true o m e = refl
    at false o m e = e

unmisfit : (columns : List Column) (cell : Cell) → value_fault columns cell ≡ None → (c : Column) → column_named cell.column columns ≡ Some c → may_have c cell.value ≡ true
unmisfit columns cell e c is = may_stand c cell.value (not_none (fits c cell.value) (BadValue cell.column) (sym (ap (λ o. misfit o cell) is) ∙ e))

pub cells_fit : (t : Table) (cells : List Cell) → first_of (value_fault t.columns) cells ≡ None → ((name : List ℕ) → is_among name (columns_of cells) ≡ true → is_some (column_named name t.columns) ≡ true) → All (FitsColumn t.columns) cells
cells_fit t [] e h = All-nil (FitsColumn t.columns)
cells_fit t (c ∷ cs) e h =
    let n = neither (value_fault t.columns c) (first_of (value_fault t.columns) cs) e in
    All-cons (FitsColumn t.columns) c cs
    (named_column t.columns c (column_named c.column t.columns) refl (h c.column (among_first c.column (columns_of cs))) (unmisfit t.columns c n.0))
    (cells_fit t cs n.1 (λ name i. h name (among_later name c.column (columns_of cs) i)))

-- what is set is of columns that are no key columns
pub set_free : (t : Table) (cells : List Cell) → first_of (key_cell t.key) cells ≡ None → first_of (no_such t.columns) cells ≡ None → (name : List ℕ) → is_among name (columns_of cells) ≡ true → is_free t.key t.columns name ≡ true
set_free t [] k n name i = absurd (true≢false (sym i))
set_free t (c ∷ cs) k n name i =
    let a = neither (key_cell t.key c) (first_of (key_cell t.key) cs) k in
    let b = neither (no_such t.columns c) (first_of (no_such t.columns) cs) n in
    at (is_same c.column name) refl i (not_some (is_among c.column t.key) (KeyColumnSet c.column) a.0) (not_none (is_some (column_named c.column t.columns)) (NoColumn c.column) b.0) (set_free t cs a.1 b.1 name)
  where
    both : (a b : Bool) → a ≡ true → b ≡ false → (a && not b) ≡ true
    both true false e f = refl
    both true true e f = absurd (true≢false f)
    both false b e f = absurd (true≢false (sym e))

    at : (s : Bool) → is_same c.column name ≡ s → cond s true (is_among name (columns_of cs)) ≡ true → is_among c.column t.key ≡ false → is_some (column_named c.column t.columns) ≡ true
        → (is_among name (columns_of cs) ≡ true → is_free t.key t.columns name ≡ true) → is_free t.key t.columns name ≡ true
    at true e i k n f = subst (λ x. is_free t.key t.columns x ≡ true) (same_names c.column name e) (both (is_some (column_named c.column t.columns)) (is_among c.column t.key) n k)
    at false e i k n f = f i

-- a free name is that of a column
pub free_there : (t : Table) (name : List ℕ) → is_free t.key t.columns name ≡ true → is_some (column_named name t.columns) ≡ true
free_there t name e = at (is_some (column_named name t.columns)) (not (is_among name t.key)) e
  where
    at : (a b : Bool) → (a && b) ≡ true → a ≡ true
    at true b e = refl
    at false b e = absurd (true≢false (sym e))

-- the row's key has just the key columns

key_only : (key : List (List ℕ)) (cells : List Cell) → first_of (no_key key) cells ≡ None → (name : List ℕ) → is_among name (columns_of cells) ≡ true → is_among name key ≡ true
key_only key [] e name i = absurd (true≢false (sym i))
key_only key (c ∷ cs) e name i =
    let n = neither (no_key key c) (first_of (no_key key) cs) e in
    at (is_same c.column name) refl i (not_none (is_among c.column key) (NoColumn c.column) n.0) (key_only key cs n.1 name)
  where
    at : (s : Bool) → is_same c.column name ≡ s → cond s true (is_among name (columns_of cs)) ≡ true → is_among c.column key ≡ true → (is_among name (columns_of cs) ≡ true → is_among name key ≡ true) → is_among name key ≡ true
    at true e i k f = subst (λ x. is_among x key ≡ true) (same_names c.column name e) k
    at false e i k f = f i

found_among : (name : List ℕ) (cells : List Cell) → is_some (found_in name cells) ≡ is_among name (columns_of cells)
found_among name [] = refl
found_among name (c ∷ cs) = at (is_same c.column name) (found_among name cs)
  where
    at : (s : Bool) → is_some (found_in name cs) ≡ is_among name (columns_of cs) → is_some (cond s (Some c.value) (found_in name cs)) ≡ cond s true (is_among name (columns_of cs))
    at true i = refl
    at false i = i

key_whole : (cells : List Cell) (key : List (List ℕ)) → key_without cells key ≡ None → (name : List ℕ) → is_among name key ≡ true → is_among name (columns_of cells) ≡ true
key_whole cells [] e name i = absurd (true≢false (sym i))
key_whole cells (k ∷ ks) e name i = by (is_some (found_in k cells)) refl e (key_whole cells ks)
  where
    by : (f : Bool) → is_some (found_in k cells) ≡ f → cond f (key_without cells ks) (Some (NoColumn k)) ≡ None → (key_without cells ks ≡ None → (n : List ℕ) → is_among n ks ≡ true → is_among n (columns_of cells) ≡ true) → is_among name (columns_of cells) ≡ true
    by false g e r = absurd (true≢false (ap is_some e))
    by true g e r = at (is_same k name) refl i
      where
        at : (s : Bool) → is_same k name ≡ s → cond s true (is_among name ks) ≡ true → is_among name (columns_of cells) ≡ true
        at true h j = subst (λ x. is_among x (columns_of cells) ≡ true) (same_names k name h) (sym (found_among k cells) ∙ g)
        at false h j = r e name j

pub key_columns : (t : Table) (cells : List Cell) → first_of (no_key t.key) cells ≡ None → key_without cells t.key ≡ None → (name : List ℕ) → is_among name (columns_of cells) ≡ is_among name t.key
key_columns t cells a b name = alike (is_among name (columns_of cells)) (is_among name t.key) (key_only t.key cells a name) (key_whole cells t.key b name)

-- a write whose table is there

-- what the four tests of a write leave
pub record Unrefused (tables : List Table) (w : Write) : Type 0 where
  pub table : Table
  pub there : table_named w.row.table tables ≡ Some table
  pub values : bad_value table w ≡ None
  pub key : key_set table w ≡ None
  pub columns : no_column table w ≡ None

pub unrefused : (tables : List Table) (w : Write) → fault_by Values tables w ≡ None → fault_by Set tables w ≡ None → fault_by Tables tables w ≡ None → fault_by Columns tables w ≡ None → Unrefused tables w
unrefused tables w b k t c = at (table_named w.row.table tables) refl b k t c
  where
    at : (o : Option Table) → table_named w.row.table tables ≡ o → fault_at Values o w ≡ None → fault_at Set o w ≡ None → fault_at Tables o w ≡ None → fault_at Columns o w ≡ None → Unrefused tables w
    at None e b k t c = absurd (true≢false (ap is_some t))
    at (Some x) e b k t c = record { table = x; there = e; values = b; key = k; columns = c }

abbrev pub AllUnrefused : List Table → List Write → Type 0
AllUnrefused tables ws = AllByRecursion (Unrefused tables) ws

pub each_unrefused : (tables : List Table) (ws : List Write) → first_of (fault_by Values tables) ws ≡ None → first_of (fault_by Set tables) ws ≡ None → first_of (fault_by Tables tables) ws ≡ None → first_of (fault_by Columns tables) ws ≡ None → AllUnrefused tables ws
each_unrefused tables [] b k t c = tt
each_unrefused tables (w ∷ ws) b k t c =
    let p = neither (fault_by Values tables w) (first_of (fault_by Values tables) ws) b in
    let q = neither (fault_by Set tables w) (first_of (fault_by Set tables) ws) k in
    let r = neither (fault_by Tables tables w) (first_of (fault_by Tables tables) ws) t in
    let s = neither (fault_by Columns tables w) (first_of (fault_by Columns tables) ws) c in
    (unrefused tables w p.0 q.0 r.0 s.0, each_unrefused tables ws p.1 q.1 r.1 s.1)

-- what it sets is free in its table
pub sets_free : (tables : List Table) (w : Write) → Unrefused tables w → (name : List ℕ) → is_among name (columns_of w.set) ≡ true → is_among name (free_columns_of w.row.table tables) ≡ true
sets_free tables w u name i =
    let n = neither (first_of (no_such u.table.columns) w.set) (option_or (first_of (no_key u.table.key) w.row.key) (key_without w.row.key u.table.key)) u.columns in
    subst (λ (o : Option Table). is_among name (free_columns o) ≡ true) (sym u.there) (free_is u.table name ∙ set_free u.table w.set u.key n.0 name i)
