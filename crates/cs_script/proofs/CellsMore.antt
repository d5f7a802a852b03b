-- One cell more.
use Rattle.std.proofs.Common.{◌≡◌, List, [], ◌∷◌, ◌++◌, map, Option, None, Result, Ok, IfOk, nat_cmp, Less, refl, ap, sym, subst, ◌∙◌, append-nil}
use Rattle.std.specs.Cmp.Lexicographic.{slice_cmp}
use Rattle.std.specs.List.{AllByRecursion}
use Rattle.std.specs.List.Sorted.{IsStrictlySortedBy}
use Rattle.std.proofs.lemmas.List.Elements.{All-push, All-nil}
use Rattle.cs_tree.specs.Order.{Name, name_cmp, names as names_in}
use Rattle.cs_tree.specs.declared.entries.Entry.{Entry}
use Rattle.cs_tree.specs.declared.tree.Tree.{Tree}
use Rattle.cs_types.specs.declared.cells.Cell.{Cell}
use Rattle.cs_types.specs.Value.{IsInRange}
use Rattle.cs_script.specs.declared.fault.LineCause.{LineCause}
use Rattle.cs_script.specs.Gathering.{HasNames}

names_more : (before : List Cell) (e : Entry Name Tree) (es : List (Entry Name Tree)) (cell : Cell) → cell.column ≡ e.name.now
    → map (λ (c : Cell). c.column) (before ++ cell ∷ []) ++ map (λ (e : Entry Name Tree). e.name.now) es ≡ map (λ (c : Cell). c.column) before ++ map (λ (e : Entry Name Tree). e.name.now) (e ∷ es)
names_more [] e es cell h = ap (λ x. x ∷ map (λ (e : Entry Name Tree). e.name.now) es) h
names_more (d ∷ before) e es cell h = ap (λ xs. d.column ∷ xs) (names_more before e es cell h)

-- at first
pub no_cell : (es : List (Entry Name Tree)) → HasNames [] es es
no_cell es = record { names = refl; in_range = All-nil (λ (c : Cell). IsInRange c.value) }

-- one more
pub cell_more : (cells now : List Cell) (cause after : Option LineCause) (e : Entry Name Tree) (es all : List (Entry Name Tree)) (item : Result Cell LineCause)
    → IfOk item (λ c. c.column ≡ e.name.now) → IfOk item (λ c. IsInRange c.value) → (cause ≡ None → HasNames cells (e ∷ es) all)
    → (after ≡ None → (t : Cell) × (item ≡ Ok t) × (cause ≡ None) × (now ≡ cells ++ t ∷ [])) → after ≡ None → HasNames now es all
cell_more cells now cause after e es all item column range before kept none =
    let (t, is, no_cause, now_is) = kept none in
    let had = before no_cause in
    let column_is : t.column ≡ e.name.now = subst (λ r. IfOk r (λ c. c.column ≡ e.name.now)) is column in
    let range_is : IsInRange t.value = subst (λ r. IfOk r (λ c. IsInRange c.value)) is range in
    subst (λ cs. HasNames cs es all) (sym now_is) (record {
      names = names_more cells e es t column_is ∙ had.names;
      in_range = All-push (λ (c : Cell). IsInRange c.value) cells t had.in_range range_is;
    })

below : (k : Name) (es : List (Entry Name Tree)) → AllByRecursion (λ y. name_cmp k y ≡ Less) (names_in es)
    → AllByRecursion (λ y. slice_cmp nat_cmp k.now y ≡ Less) (map (λ (e : Entry Name Tree). e.name.now) es)
below k [] h = tt
below k (e ∷ es) h = (h.0, below k es h.1)

-- the names of an object rise
rising_names : (es : List (Entry Name Tree)) → IsStrictlySortedBy name_cmp (names_in es) → IsStrictlySortedBy (slice_cmp nat_cmp) (map (λ (e : Entry Name Tree). e.name.now) es)
unfolding IsStrictlySortedBy
rising_names [] h = tt
rising_names (e ∷ es) h = (below e.name es h.0, rising_names es h.1)

-- and so do the cells
pub rising_cells : (cells : List Cell) (es rest : List (Entry Name Tree)) → rest ≡ [] → HasNames cells rest es
    → IsStrictlySortedBy name_cmp (names_in es) → IsStrictlySortedBy (slice_cmp nat_cmp) (map (λ (c : Cell). c.column) cells)
rising_cells cells es rest none has sorted =
    let same : map (λ (c : Cell). c.column) cells ≡ map (λ (e : Entry Name Tree). e.name.now) es = sym (append-nil (map (λ (c : Cell). c.column) cells)) ∙ ap (λ (r : List (Entry Name Tree)). map (λ (c : Cell). c.column) cells ++ map (λ (e : Entry Name Tree). e.name.now) r) (sym none) ∙ has.names in
    rw same (rising_names es sorted)
