-- One cell more.
use Rattle.std.proofs.Common.{◌≡◌, List, [], ◌∷◌, ◌++◌, map, Ok, Err, String, Global, string_bytes, string_cmp, nat_cmp, Less, refl, ap, sym, ◌∙◌, append_assoc, append-nil}
use Rattle.std.specs.Cmp.Lexicographic.{slice_cmp}
use Rattle.std.specs.List.{AllByRecursion}
use Rattle.std.specs.List.Sorted.{IsStrictlySortedBy}
use Rattle.std.specs.Map.{keys_of}
use Rattle.serde_json.specs.View.{view, members_view}
use Rattle.serde_json.proofs.Views.{Entry}
use Rattle.cs_types.specs.declared.cells.Cell.{Cell}
use Rattle.cs_records.specs.declared.captured.ColumnInfo.{ColumnInfo}
use Rattle.cs_json_reading.specs.Reading.{Reading, behind, first_and}
use Rattle.cs_json_reading.specs.Cells.{cell_reading, each_cell}

one_more : (before : List Cell) (cell : Cell) (rest : Reading (List Cell)) → behind (before ++ cell ∷ []) rest ≡ behind before (first_and (Ok cell) rest)
one_more before cell (Err e) = refl
one_more before cell (Ok cells) = ap Ok (append_assoc before (cell ∷ []) cells)

pub cells_more : (columns : List ColumnInfo) (before : List Cell) (e : Entry) (es : List Entry) (cell : Cell) → cell_reading columns (string_bytes e.0) (view e.1) ≡ Ok cell
    → behind (before ++ cell ∷ []) (each_cell columns (members_view es)) ≡ behind before (each_cell columns (members_view (e ∷ es)))
cells_more columns before e es cell h = one_more before cell (each_cell columns (members_view es)) ∙ ap (λ r. behind before (first_and r (each_cell columns (members_view es)))) (sym h)

pub names_more : (before : List Cell) (e : Entry) (es : List Entry) (cell : Cell) → cell.column ≡ string_bytes e.0
    → map (λ (c : Cell). c.column) (before ++ cell ∷ []) ++ map (λ (e : Entry). string_bytes e.0) es ≡ map (λ (c : Cell). c.column) before ++ map (λ (e : Entry). string_bytes e.0) (e ∷ es)
names_more [] e es cell h = ap (λ x. x ∷ map (λ (e : Entry). string_bytes e.0) es) h
names_more (d ∷ before) e es cell h = ap (λ xs. d.column ∷ xs) (names_more before e es cell h)

below : (k : String Global) (es : List Entry) → AllByRecursion (λ y. string_cmp k y ≡ Less) (keys_of es)
    → AllByRecursion (λ y. slice_cmp nat_cmp (string_bytes k) y ≡ Less) (map (λ (e : Entry). string_bytes e.0) es)
below k [] h = tt
below k (e ∷ es) h = (h.0, below k es h.1)

-- the names of an object rise
rising_names : (es : List Entry) → IsStrictlySortedBy string_cmp (keys_of es) → IsStrictlySortedBy (slice_cmp nat_cmp) (map (λ (e : Entry). string_bytes e.0) es)
unfolding IsStrictlySortedBy
rising_names [] h = tt
rising_names (e ∷ es) h = (below e.0 es h.0, rising_names es h.1)

pub rising_cells : (cells : List Cell) (es rest : List Entry) → rest ≡ []
    → map (λ (c : Cell). c.column) cells ++ map (λ (e : Entry). string_bytes e.0) rest ≡ map (λ (e : Entry). string_bytes e.0) es
    → IsStrictlySortedBy string_cmp (keys_of es) → IsStrictlySortedBy (slice_cmp nat_cmp) (map (λ (c : Cell). c.column) cells)
rising_cells cells es rest none all sorted =
    let same : map (λ (c : Cell). c.column) cells ≡ map (λ (e : Entry). string_bytes e.0) es = sym (append-nil (map (λ (c : Cell). c.column) cells)) ∙ ap (λ (r : List Entry). map (λ (c : Cell). c.column) cells ++ map (λ (e : Entry). string_bytes e.0) r) (sym none) ∙ all in
    rw same (rising_names es sorted)
