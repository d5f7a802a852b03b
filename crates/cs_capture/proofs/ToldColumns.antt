-- What is captured of a modification: its change, and the columns that it tells of.
use Rattle.std.proofs.Common.{◌≡◌, ◌≢◌, ℕ, suc, ◌+◌, ◌<◌, Bool, true, false, ◌&&◌, ◌||◌, cond, List, [], ◌∷◌, ◌++◌, get_or, length, map, Some, ⊎_elim, refl, sym, ap, ◌∙◌, subst, arith, Contains, All, AllPairs}
use Rattle.std.proofs.lemmas.Bool.{or_cases, or_left, or_right}
use Rattle.std.proofs.lemmas.List.{get_or_default}
use Rattle.std.proofs.lemmas.Bool.{cases_order}
use Rattle.std.proofs.lemmas.List.Elements.{All-contains, All-filter, Contains-get_or, Contains-append_cases, Contains-append_left, Contains-append_right}
use Rattle.cs_types.specs.declared.cells.Cell.{Cell}
use Rattle.cs_types.specs.declared.change.Change.{Change}
use Rattle.cs_types.specs.Names.{is_among, columns_of}
use Rattle.cs_types.specs.Value.{IsOfType}
use Rattle.cs_types.specs.Members.{Pairwise, in_nil, in_cons, pairs_from, pairs_two, in_map}
use Rattle.cs_records.specs.declared.captured.Captured.{Captured}
use Rattle.cs_records.specs.declared.captured.ColumnInfo.{ColumnInfo}
use Rattle.cs_schema.specs.declared.types.Column.{Column}
use Rattle.cs_schema.specs.declared.types.Table.{Table}
use Rattle.cs_schema.specs.declared.types.Stream.{Stream}
use Rattle.cs_schema.specs.Tables.{table_named}
use Rattle.cs_schema.specs.Watching.{key_of}
use Rattle.cs_txn.specs.declared.txn.Modification.{Modification}
use Rattle.cs_capture.specs.Captured.{told_columns, is_told, is_captured, change_of, change_if, column_info, columns_in, infos_from, infos_of, with_columns, captured}
use Rattle.cs_capture.proofs.Fitting.{IsOfColumn, IsOfTable}
use Rattle.cs_capture.specs.Table.{told_by}
use Rattle.cs_capture.proofs.Listed.{told}
use Rattle.cs_capture.proofs.SameNames.{among_in, in_among, column_in, both_ways}

-- ---- the change

pub record IsOf (tables : List Table) (s : Stream) (m : Modification) (c : Captured) : Type 0 where
  pub change : c.change ≡ change_of s (key_of (table_named m.row.table tables)) m
  pub capture : c.capture ≡ s.capture
  pub tag : c.tag ≡ m.tag
  pub system : c.system ≡ false
  pub columns : c.columns ≡ infos_of (table_named m.row.table tables) (told_columns (key_of (table_named m.row.table tables)) c.change)

pub is_of : (tables : List Table) (s : Stream) (m : Modification) (c : Captured) → captured tables s m ≡ Some c → IsOf tables s m c
is_of tables s m c e = by (is_captured s key m) e
  where
    key : List (List ℕ)
    key = key_of (table_named m.row.table tables)

    some_same : (a b : Captured) → Some a ≡ Some b → a ≡ b
    some_same a b h = cc

    by : (b : Bool) → with_columns (table_named m.row.table tables) s m (change_if b s (key_of (table_named m.row.table tables)) m) ≡ Some c → IsOf tables s m c
    by false h = cc
    by true h =
        let k = some_same _ c h in
        record {
          change = ap (λ (x : Captured). x.change) (sym k);
          capture = ap (λ (x : Captured). x.capture) (sym k);
          tag = ap (λ (x : Captured). x.tag) (sym k);
          system = ap (λ (x : Captured). x.system) (sym k);
          columns = ap (λ (x : Captured). x.columns) (sym k) ∙ ap (λ (x : Change). infos_of (table_named m.row.table tables) (told_columns (key_of (table_named m.row.table tables)) x)) (ap (λ (x : Captured). x.change) k);
        }

-- ---- columns of a table

-- of one name there is one
pub one_column : (columns : List Column) → AllPairs (λ (c d : Column). c.name ≢ d.name) columns → (c d : Column) → Contains columns c → Contains columns d → c.name ≡ d.name → c ≡ d
one_column columns apart c d i j e = ⊎_elim
    (λ (s : c ≡ d). s)
    (λ h. ⊎_elim (λ (n : c.name ≢ d.name). absurd (n e)) (λ (n : d.name ≢ c.name). absurd (n (sym e))) h)
    (pairs_two (λ (c d : Column). c.name ≢ d.name) columns (pairs_from (λ (c d : Column). c.name ≢ d.name) columns apart) c d i j)

abbrev pub names_in : List Column → List (List ℕ)
names_in columns = map (λ (d : Column). d.name) columns

-- a column of cells of a table is one of the table
pub listed : (columns : List Column) (cells : List Cell) → All (IsOfColumn columns) cells → (name : List ℕ) → is_among name (columns_of cells) ≡ true → is_among name (names_in columns) ≡ true
listed columns cells h name t =
    let r = column_in name cells t in
    let o = All-contains (IsOfColumn columns) cells r.0 h r.1 in
    in_among name (names_in columns) (subst (λ n. Contains (names_in columns) n) (o.named ∙ sym r.2) (in_map (λ (d : Column). d.name) o.column columns o.there))

-- ---- what is told of columns

-- what is told of a column is that of one of the table
pub record IsInfo (n : ℕ) (key : List (List ℕ)) (cs : List Column) (x : ColumnInfo) : Type 0 where
  pub place : ℕ
  pub column : Column
  pub below : place < length cs
  pub there : get_or cs place column ≡ column
  pub is : x ≡ column_info key (n + place) column

infos : (n : ℕ) (key names : List (List ℕ)) (cs : List Column) (x : ColumnInfo) → Contains (infos_from n key names cs) x → IsInfo n key cs x
infos n key names [] x i = absurd (in_nil x i)
infos n key names (c ∷ cs) x i = by (is_among c.name names) i (infos (n + 1) key names cs x)
  where
    further : IsInfo (n + 1) key cs x → IsInfo n key (c ∷ cs) x
    further r = let k : (n + 1) + r.place ≡ n + suc r.place = omega arith in record { place = suc r.place; column = r.column; below = omega (arith, r.below); there = r.there; is = r.is ∙ ap (λ o. column_info key o r.column) k }

    by : (b : Bool) → Contains (cond b (column_info key n c ∷ infos_from (n + 1) key names cs) (infos_from (n + 1) key names cs)) x → (Contains (infos_from (n + 1) key names cs) x → IsInfo (n + 1) key cs x) → IsInfo n key (c ∷ cs) x
    by true j f = ⊎_elim
        (λ (s : x ≡ column_info key n c). let k : n ≡ n + 0 = omega arith in record { place = 0; column = c; below = omega arith; there = refl; is = s ∙ ap (λ o. column_info key o c) k })
        (λ h. further (f h))
        (in_cons (column_info key n c) x (infos_from (n + 1) key names cs) j)
    by false j f = further (f j)

-- of one name there is one
one_info : (n : ℕ) (key : List (List ℕ)) (cs : List Column) → AllPairs (λ (c d : Column). c.name ≢ d.name) cs → (x y : ColumnInfo) → IsInfo n key cs x → IsInfo n key cs y → x.name ≡ y.name → x ≡ y
one_info n key cs apart x y a b e = ⊎_elim
    (λ (p : a.place ≡ b.place).
    let column : a.column ≡ b.column = sym a.there ∙ get_or_default cs a.place a.column b.column a.below ∙ ap (λ k. get_or cs k b.column) p ∙ b.there in
    a.is ∙ (λ i. column_info key (n + p i) (column i)) ∙ sym b.is)
    (λ o. ⊎_elim
    (λ (l : a.place < b.place). absurd (apart a.place b.place a.column l b.below (ap (λ (z : Column). z.name) a.there ∙ names ∙ sym (ap (λ (z : Column). z.name) (get_or_default cs b.place a.column b.column b.below ∙ b.there)))))
    (λ (l : b.place < a.place). absurd (apart b.place a.place b.column l a.below (ap (λ (z : Column). z.name) b.there ∙ sym names ∙ sym (ap (λ (z : Column). z.name) (get_or_default cs a.place b.column a.column a.below ∙ a.there)))))
    o)
    (cases_order a.place b.place)
  where
    names : a.column.name ≡ b.column.name
    names = sym (ap (λ (z : ColumnInfo). z.name) a.is) ∙ e ∙ ap (λ (z : ColumnInfo). z.name) b.is

-- columns of different names are told by different names
infos_apart : (n : ℕ) (key names : List (List ℕ)) (cs : List Column) → Pairwise (λ (c d : Column). c.name ≢ d.name) cs → Pairwise (λ (x y : ColumnInfo). x.name ≢ y.name) (infos_from n key names cs)
infos_apart n key names [] h = tt
infos_apart n key names (c ∷ cs) h = by (is_among c.name names) (infos_apart (n + 1) key names cs h.1)
  where
    by : (b : Bool) → Pairwise (λ (x y : ColumnInfo). x.name ≢ y.name) (infos_from (n + 1) key names cs) → Pairwise (λ (x y : ColumnInfo). x.name ≢ y.name) (cond b (column_info key n c ∷ infos_from (n + 1) key names cs) (infos_from (n + 1) key names cs))
    by true k = (λ y i e. let r = infos (n + 1) key names cs y i in h.0 r.column (subst (λ z. Contains cs z) r.there (Contains-get_or cs r.place r.column r.below)) (e ∙ ap (λ (z : ColumnInfo). z.name) r.is), k)
    by false k = k

-- ---- the columns of one captured change

module _ (tables : List Table) (s : Stream) (m : Modification) (c : Captured) (e : captured tables s m ≡ Some c) (F : IsOfTable (table_named m.row.table tables) m) where
  abbrev key : List (List ℕ)
  key = key_of (table_named m.row.table tables)

  abbrev columns : List Column
  columns = columns_in (table_named m.row.table tables)

  of : IsOf tables s m c
  of = is_of tables s m c e

  pub row_is : c.change.row ≡ m.row
  row_is = ap (λ (x : Change). x.row) of.change

  key_names : (name : List ℕ) → is_among name (columns_of c.change.row.key) ≡ is_among name key
  key_names name = ap (λ r. is_among name (columns_of r.key)) row_is ∙ F.key name

  pub key_cells : All (IsOfColumn columns) c.change.row.key
  key_cells = subst (λ r. All (IsOfColumn columns) r.key) (sym row_is) F.keys

  pub new_cells : All (IsOfColumn columns) c.change.new
  new_cells = subst (λ (x : Change). All (IsOfColumn columns) x.new) (sym of.change) (All-filter (is_told (told_by s.capture m.kind).new s.watch key m) (IsOfColumn columns) m.after F.after)

  pub old_cells : All (IsOfColumn columns) c.change.old
  old_cells = subst (λ (x : Change). All (IsOfColumn columns) x.old) (sym of.change) (All-filter (is_told (told_by s.capture m.kind).old s.watch key m) (IsOfColumn columns) m.before F.before)

  -- a name is told where it is one of the key, of the new or of the old cells
  among_three : (a b d : List (List ℕ)) (name : List ℕ) → is_among name (a ++ b ++ d) ≡ (is_among name a || (is_among name b || is_among name d))
  among_three a b d name = both_ways (is_among name (a ++ b ++ d)) (is_among name a || (is_among name b || is_among name d)) to from
    where
      to : is_among name (a ++ b ++ d) ≡ true → (is_among name a || (is_among name b || is_among name d)) ≡ true
      to h = ⊎_elim
          (λ (i : Contains (a ++ b) name). ⊎_elim
          (λ (j : Contains a name). or_left (is_among name a) (is_among name b || is_among name d) (in_among name a j))
          (λ (j : Contains b name). or_right (is_among name a) (is_among name b || is_among name d) (or_left (is_among name b) (is_among name d) (in_among name b j)))
          (Contains-append_cases a b name i))
          (λ (i : Contains d name). or_right (is_among name a) (is_among name b || is_among name d) (or_right (is_among name b) (is_among name d) (in_among name d i)))
          (Contains-append_cases (a ++ b) d name (among_in name (a ++ b ++ d) h))

      from : (is_among name a || (is_among name b || is_among name d)) ≡ true → is_among name (a ++ b ++ d) ≡ true
      from h = in_among name (a ++ b ++ d) (⊎_elim
          (λ (t : is_among name a ≡ true). Contains-append_left (a ++ b) d name (Contains-append_left a b name (among_in name a t)))
          (λ (t : (is_among name b || is_among name d) ≡ true). ⊎_elim
          (λ (u : is_among name b ≡ true). Contains-append_left (a ++ b) d name (Contains-append_right a b name (among_in name b u)))
          (λ (u : is_among name d ≡ true). Contains-append_right (a ++ b) d name (among_in name d u))
          (or_cases (is_among name b) (is_among name d) t))
          (or_cases (is_among name a) (is_among name b || is_among name d) h))

  -- a test beside one that it implies
  beside : (k n o all : Bool) → (k ≡ true → all ≡ true) → (n ≡ true → all ≡ true) → (o ≡ true → all ≡ true) → ((k || (n || o)) && all) ≡ (k || (n || o))
  beside true n o all f g h = f refl
  beside false true o all f g h = g refl
  beside false false true all f g h = h refl
  beside false false false all f g h = refl

  pub each_name : (name : List ℕ) → is_among name (map (λ (x : ColumnInfo). x.name) c.columns) ≡ (is_among name (columns_of c.change.row.key) || (is_among name (columns_of c.change.new) || is_among name (columns_of c.change.old)))
  each_name name =
      told tables s m c name e
      ∙ ap (λ b. b && is_among name (names_in columns)) (among_three key (columns_of c.change.new) (columns_of c.change.old) name ∙ ap (λ b. b || (is_among name (columns_of c.change.new) || is_among name (columns_of c.change.old))) (sym (key_names name)))
      ∙ beside (is_among name (columns_of c.change.row.key)) (is_among name (columns_of c.change.new)) (is_among name (columns_of c.change.old)) (is_among name (names_in columns)) (listed columns c.change.row.key key_cells name) (listed columns c.change.new new_cells name) (listed columns c.change.old old_cells name)

  pub info_is : (x : ColumnInfo) → Contains c.columns x → IsInfo 1 key columns x
  info_is x i = infos 1 key (told_columns key c.change) columns x (subst (λ l. Contains l x) of.columns i)

  pub marked : (x : ColumnInfo) → Contains c.columns x → x.is_key ≡ is_among x.name (columns_of c.change.row.key)
  marked x i =
      let r = info_is x i in
      ap (λ (z : ColumnInfo). z.is_key) r.is ∙ ap (λ n. is_among n key) (sym (ap (λ (z : ColumnInfo). z.name) r.is)) ∙ sym (key_names x.name)

  -- of one name one column is told
  pub one_told : (x y : ColumnInfo) → IsInfo 1 key columns x → IsInfo 1 key columns y → x.name ≡ y.name → x ≡ y
  one_told = one_info 1 key columns F.apart

  -- a cell of the table is of the type that is told of its column
  pub typed_as_told : (cell : Cell) → IsOfColumn columns cell → (x : ColumnInfo) → Contains c.columns x → x.name ≡ cell.column → IsOfType x.ty cell.value
  typed_as_told cell o x i named =
      let r = info_is x i in
      let name : r.column.name ≡ o.column.name = sym (ap (λ (z : ColumnInfo). z.name) r.is) ∙ named ∙ sym o.named in
      let same : r.column ≡ o.column = one_column columns F.apart r.column o.column (subst (λ z. Contains columns z) r.there (Contains-get_or columns r.place r.column r.below)) o.there name in
      subst (λ ty. IsOfType ty cell.value) (sym (ap (λ (z : ColumnInfo). z.ty) r.is ∙ ap (λ (z : Column). z.ty) same)) o.typed

  pub names_differ : Pairwise (λ (x y : ColumnInfo). x.name ≢ y.name) c.columns
  names_differ = subst (λ l. Pairwise (λ (x y : ColumnInfo). x.name ≢ y.name) l) (sym of.columns) (infos_apart 1 key (told_columns key c.change) columns (pairs_from (λ (c d : Column). c.name ≢ d.name) columns F.apart))
