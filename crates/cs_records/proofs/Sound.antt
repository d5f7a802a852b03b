-- A record that is cut from the captured changes of a transaction has the keys that its columns name, and no row twice.
use Rattle.std.proofs.Common.{◌≡◌, ◌+◌, ℕ, List, [], ◌∷◌, ◌++◌, get_or, map, Bool, true, false, not, cond, ◌||◌, Some, None, is_eq, nat_cmp, refl, ap, ◌∙◌, sym, subst, All}
use Rattle.std.specs.Cmp.{IsEquivalence, eq_by_cmp_equiv}
use Rattle.std.specs.Cmp.Lexicographic.{slice_cmp, nat_list_cmp_total}
use Rattle.std.specs.List.{AllByRecursion, IsDistinct, filter}
use Rattle.std.specs.Option.{option_or}
use Rattle.std.specs.Ordering.{eq_by_cmp, ordering_then}
use Rattle.std.proofs.lemmas.Cmp.{tied_itself}
use Rattle.std.proofs.lemmas.List.{append_assoc, map-append}
use Rattle.std.proofs.lemmas.List.Elements.{All-cons, All-nil, recursion_from_All}
use Rattle.cs_types.specs.declared.cells.Cell.{Cell}
use Rattle.cs_types.specs.declared.change.RowName.{RowName}
use Rattle.cs_types.specs.Order.{cells_cmp, cells_total}
use Rattle.cs_types.specs.Row.{same_row}
use Rattle.cs_records.specs.declared.captured.Captured.{Captured}
use Rattle.cs_records.specs.declared.captured.ColumnInfo.{ColumnInfo}
use Rattle.cs_records.specs.declared.records.DataRecord.{DataRecord}
use Rattle.cs_types.specs.Names.{is_same, is_among, columns_of}
use Rattle.cs_records.specs.Columns.{key_columns, first_beyond}
use Rattle.cs_records.specs.Told.{key_fault, first_key_fault, has_key, keys_of, first_key_again, record_fault}
use Rattle.cs_records.specs.Group.{HasItsColumns, mod_of, record_of, AreCut}
use Rattle.cs_records.proofs.Cutting.{same_bytes}
use Rattle.cs_records.proofs.Seen.{among_at}
use Rattle.cs_records.proofs.Groups.{AreOfOne, OfOneRecord, known, after_ones, all_left, all_right}

-- ---- the keys are those that the columns name

abbrev Marked : List (List ℕ) → List ColumnInfo → Type 0
Marked key columns = AllByRecursion (λ x. x.is_key ≡ is_among x.name key) columns

none_lacks : (key : List (List ℕ)) (x : ColumnInfo) (columns : List ColumnInfo) (b : Bool) → b ≡ is_among x.name key → first_beyond key (key_columns columns) ≡ None
    → first_beyond key (map (λ (c : ColumnInfo). c.name) (cond b (x ∷ filter (λ c. c.is_key) columns) (filter (λ c. c.is_key) columns))) ≡ None
none_lacks key x columns true e h = ap (λ t. cond (not t) (Some x.name) (first_beyond key (key_columns columns))) (sym e) ∙ h
none_lacks key x columns false e h = h

key_lacks_none : (key : List (List ℕ)) (columns : List ColumnInfo) → Marked key columns → first_beyond key (key_columns columns) ≡ None
key_lacks_none key [] h = refl
key_lacks_none key (x ∷ columns) h = none_lacks key x columns x.is_key h.0 (key_lacks_none key columns h.1)

all_among : (others names : List (List ℕ)) → AllByRecursion (λ n. is_among n others ≡ true) names → first_beyond others names ≡ None
all_among others [] h = refl
all_among others (n ∷ names) h = ap (λ t. cond (not t) (Some n) (first_beyond others names)) h.0 ∙ all_among others names h.1

or_true : (b : Bool) → cond b true true ≡ true
or_true true = refl
or_true false = refl

key_here : (name : List ℕ) (x : ColumnInfo) (columns : List ColumnInfo) (b : Bool) → b ≡ true → is_same x.name name ≡ true
    → is_among name (map (λ (c : ColumnInfo). c.name) (cond b (x ∷ filter (λ c. c.is_key) columns) (filter (λ c. c.is_key) columns))) ≡ true
key_here name x columns true e h = ap (λ t. cond t true (is_among name (key_columns columns))) h
key_here name x columns false e h = cc

key_later : (name : List ℕ) (x : ColumnInfo) (columns : List ColumnInfo) (b : Bool) → is_among name (key_columns columns) ≡ true
    → is_among name (map (λ (c : ColumnInfo). c.name) (cond b (x ∷ filter (λ c. c.is_key) columns) (filter (λ c. c.is_key) columns))) ≡ true
key_later name x columns true h = ap (λ t. cond (is_same x.name name) true t) h ∙ or_true (is_same x.name name)
key_later name x columns false h = h

key_found_in : (key : List (List ℕ)) (name : List ℕ) (x : ColumnInfo) (columns : List ColumnInfo) (b : Bool) → is_same x.name name ≡ b → x.is_key ≡ is_among x.name key → is_among name key ≡ true
    → (is_among name (map (λ (c : ColumnInfo). c.name) columns) ≡ true → is_among name (key_columns columns) ≡ true)
    → cond b true (is_among name (map (λ (c : ColumnInfo). c.name) columns)) ≡ true → is_among name (key_columns (x ∷ columns)) ≡ true
key_found_in key name x columns true e marked own later h =
    let same : x.name ≡ name = (same_bytes x.name name).0 e in
    key_here name x columns x.is_key (marked ∙ ap (λ n. is_among n key) same ∙ own) e
key_found_in key name x columns false e marked own later h = key_later name x columns x.is_key (later h)

key_found : (key : List (List ℕ)) (name : List ℕ) (columns : List ColumnInfo) → Marked key columns → is_among name key ≡ true → is_among name (map (λ (c : ColumnInfo). c.name) columns) ≡ true → is_among name (key_columns columns) ≡ true
key_found key name [] marked own h = h
key_found key name (x ∷ columns) marked own h = key_found_in key name x columns (is_same x.name name) refl marked.0 own (key_found key name columns marked.1 own) h

key_right : (c : Captured) → HasItsColumns c → key_fault (key_columns c.columns) (columns_of c.change.row.key) ≡ None
key_right c h =
    let marked : Marked (columns_of c.change.row.key) c.columns = recursion_from_All (λ (x : ColumnInfo). x.is_key ≡ is_among x.name (columns_of c.change.row.key)) c.columns h.marked in
    let each : AllByRecursion (λ n. is_among n (key_columns c.columns) ≡ true) (columns_of c.change.row.key) =
    recursion_from_All (λ (n : List ℕ). is_among n (key_columns c.columns) ≡ true) (columns_of c.change.row.key) (λ k d lt.
    let own = among_at (columns_of c.change.row.key) k d lt in
    key_found (columns_of c.change.row.key) (get_or (columns_of c.change.row.key) k d) c.columns marked own
    (h.each (get_or (columns_of c.change.row.key) k d) ∙ ap (λ t. t || (is_among (get_or (columns_of c.change.row.key) k d) (columns_of c.change.new) || is_among (get_or (columns_of c.change.row.key) k d) (columns_of c.change.old))) own)) in
    (λ i. option_or (key_lacks_none (columns_of c.change.row.key) c.columns marked i) (all_among (key_columns c.columns) (columns_of c.change.row.key) each i))

keys_right : (columns : List (List ℕ)) (group : List Captured) → AllByRecursion (λ c. key_fault columns (columns_of c.change.row.key) ≡ None) group → first_key_fault columns (map mod_of group) ≡ None
keys_right columns [] h = refl
keys_right columns (c ∷ group) h = (λ i. option_or (h.0 i) (first_key_fault columns (map mod_of group))) ∙ keys_right columns group h.1

-- ---- no key stands twice

abbrev same_key : List Cell → List Cell → Bool
same_key a b = is_eq (cells_cmp a b)

keys_same : IsEquivalence (eq_by_cmp cells_cmp)
keys_same = eq_by_cmp_equiv cells_total

of_middle : (P : List Cell → Type 0) (before : List (List Cell)) (k : List Cell) (after : List (List Cell)) → AllByRecursion P (before ++ k ∷ after) → P k
of_middle P [] k after h = h.0
of_middle P (x ∷ before) k after h = of_middle P before k after h.1

not_before : (before : List (List Cell)) (k : List Cell) (after : List (List Cell)) → IsDistinct same_key (before ++ k ∷ after) → has_key before k ≡ false
unfolding IsDistinct
not_before [] k after h = refl
not_before (x ∷ before) k after h =
    let this : is_eq (cells_cmp k x) ≡ false = keys_same.symm k x ∙ of_middle (λ y. is_eq (cells_cmp x y) ≡ false) before k after h.0 in
    (λ i. this i || has_key before k) ∙ not_before before k after h.1

none_again : (earlier keys : List (List Cell)) → IsDistinct same_key (earlier ++ keys) → first_key_again earlier keys ≡ None
none_again earlier [] h = refl
none_again earlier (k ∷ keys) h =
    ap (λ b. cond b (Some k) (first_key_again (earlier ++ k ∷ []) keys)) (not_before earlier k keys h)
    ∙ none_again (earlier ++ k ∷ []) keys (subst (IsDistinct same_key) (sym (append_assoc earlier (k ∷ []) keys)) h)

of_table : (t : List ℕ) (row : RowName) (group : List Captured) → row.table ≡ t → AllByRecursion (λ c. t ≡ c.change.row.table) group → AllByRecursion (λ r. same_row row r ≡ false) (map (λ (c : Captured). c.change.row) group)
    → AllByRecursion (λ k. same_key row.key k ≡ false) (map (λ (c : Captured). c.change.row.key) group)
of_table t row [] e tables h = tt
of_table t row (c ∷ group) e tables h =
    let equal = tied_itself nat_list_cmp_total row.table in
    let tables_equal : slice_cmp nat_cmp row.table c.change.row.table ≡ slice_cmp nat_cmp row.table row.table = ap (slice_cmp nat_cmp row.table) (sym (e ∙ tables.0)) in
    (sym (ap (λ o. is_eq (ordering_then o (cells_cmp row.key c.change.row.key))) (tables_equal ∙ equal)) ∙ h.0, of_table t row group e tables.1 h.1)

keys_apart : (t : List ℕ) (group : List Captured) → AllByRecursion (λ c. t ≡ c.change.row.table) group → IsDistinct same_row (map (λ (c : Captured). c.change.row) group) → IsDistinct same_key (map (λ (c : Captured). c.change.row.key) group)
unfolding IsDistinct
keys_apart t [] tables h = tt
keys_apart t (c ∷ group) tables h = (of_table t c.change.row group (sym tables.0) tables.1 h.0, keys_apart t group tables.1 h.1)

front_all : (P : RowName → Type 0) (xs ys : List RowName) → AllByRecursion P (xs ++ ys) → AllByRecursion P xs
front_all P [] ys h = tt
front_all P (x ∷ xs) ys h = (h.0, front_all P xs ys h.1)

front_apart : (xs ys : List RowName) → IsDistinct same_row (xs ++ ys) → IsDistinct same_row xs
unfolding IsDistinct
front_apart [] ys h = tt
front_apart (x ∷ xs) ys h = (front_all (λ y. same_row x y ≡ false) xs ys h.0, front_apart xs ys h.1)

back_apart : (xs ys : List RowName) → IsDistinct same_row (xs ++ ys) → IsDistinct same_row ys
unfolding IsDistinct
back_apart [] ys h = h
back_apart (x ∷ xs) ys h = back_apart xs ys h.1

keys_of_mods : (group : List Captured) → keys_of (map mod_of group) ≡ map (λ (c : Captured). c.change.row.key) group
keys_of_mods [] = refl
keys_of_mods (c ∷ group) = ap (λ (ks : List (List Cell)). c.change.row.key ∷ ks) (keys_of_mods group)

-- ---- both

abbrev rows_of : List Captured → List RowName
rows_of items = map (λ (c : Captured). c.change.row) items

pub sound_cut : (n : ℕ) (first : Captured) (group after : List Captured) → All (OfOneRecord first) group → All HasItsColumns group → IsDistinct same_row (rows_of group) → record_fault (record_of n first group after) ≡ None
sound_cut n first group after one columns rows =
    let right : AllByRecursion (λ c. key_fault (key_columns first.columns) (columns_of c.change.row.key) ≡ None) group =
    recursion_from_All (λ (c : Captured). key_fault (key_columns first.columns) (columns_of c.change.row.key) ≡ None) group (λ k d lt.
    let same : first.columns ≡ (get_or group k d).columns = (one k d lt).columns in
    ap (λ (cs : List ColumnInfo). key_fault (key_columns cs) (columns_of (get_or group k d).change.row.key)) same ∙ key_right (get_or group k d) (columns k d lt)) in
    let tables : AllByRecursion (λ c. first.change.row.table ≡ c.change.row.table) group =
    recursion_from_All (λ (c : Captured). first.change.row.table ≡ c.change.row.table) group (λ k d lt. (one k d lt).table) in
    let apart : first_key_again [] (keys_of (map mod_of group)) ≡ None = ap (first_key_again []) (keys_of_mods group) ∙ none_again [] (map (λ (c : Captured). c.change.row.key) group) (keys_apart first.change.row.table group tables rows) in
    rw (keys_right (key_columns first.columns) group right, apart) refl

pub sound : (n : ℕ) (items : List Captured) (records : List DataRecord) → AreOfOne items → All HasItsColumns items → IsDistinct same_row (rows_of items) → AreCut n items records → All (λ r. record_fault r ≡ None) records
sound n items [] ones columns rows cut = All-nil (λ r. record_fault r ≡ None)
sound n items (r ∷ records) ones columns rows cut =
    let k = known items cut.0 n r ones cut.1 in
    let group : List Captured = k.next.first ∷ k.next.more in
    let columns_here : All HasItsColumns ((k.next.first ∷ k.next.more) ++ cut.0) = subst (All HasItsColumns) k.next.split columns in
    let rows_here : IsDistinct same_row (rows_of (k.next.first ∷ k.next.more) ++ rows_of cut.0) =
    subst (IsDistinct same_row) (ap rows_of k.next.split ∙ map-append (λ (c : Captured). c.change.row) (k.next.first ∷ k.next.more) cut.0) rows in
    let this : record_fault r ≡ None = ap record_fault k.next.is ∙ sound_cut n k.next.first (k.next.first ∷ k.next.more) cut.0 k.one
    (all_left HasItsColumns (k.next.first ∷ k.next.more) cut.0 columns_here) (front_apart (rows_of (k.next.first ∷ k.next.more)) (rows_of cut.0) rows_here) in
    let rest = sound (n + 1) cut.0 records (after_ones items cut.0 n r ones cut.1) (all_right HasItsColumns (k.next.first ∷ k.next.more) cut.0 columns_here)
    (back_apart (rows_of (k.next.first ∷ k.next.more)) (rows_of cut.0) rows_here) cut.2 in
    All-cons (λ r. record_fault r ≡ None) r records this rest
