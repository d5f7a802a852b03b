-- Records cut from the front of what was captured.
use Rattle.std.proofs.Common.{◌≡◌, ◌↔◌, ◌+◌, ◌<◌, ◌≤◌, ℕ, suc, List, [], ◌∷◌, length, map, get_or, take, drop, true, None, is_eq, nat_cmp, refl, ap, ◌∙◌, sym, subst, arith, All}
use Rattle.std.specs.declared.cmp.Ordering.{Ordering}
use Rattle.std.specs.declared.cmp.Ordering.TheVariants.{Less, Equal, Greater}
use Rattle.std.specs.Cmp.Lexicographic.{slice_cmp, nat_list_cmp_total}
use Rattle.std.specs.Prelude.{◌==◌}
use Rattle.std.proofs.lemmas.Cmp.{tied_itself}
use Rattle.std.proofs.lemmas.Map.Lookups.{exact_bytes}
use Rattle.std.proofs.lemmas.List.{get_or-map, length-map, length-take-le, take-append-drop, drop-drop, take_all, take_more_same}
use Rattle.cs_types.specs.declared.cells.Cell.{Cell}
use Rattle.cs_records.specs.declared.captured.Captured.{Captured}
use Rattle.cs_records.specs.declared.records.DataRecord.{DataRecord}
use Rattle.cs_types.specs.Names.{columns_of}
use Rattle.cs_records.specs.Told.{key_fault}
use Rattle.cs_records.specs.Group.{IsAlike, IsNext, mod_of, is_nil, record_of}
use Rattle.cs_records.proofs.Seen.{drop_next}

equal_of : (o : Ordering) → is_eq o ≡ true → o ≡ Equal
equal_of Less h = cc
equal_of Equal h = refl
equal_of Greater h = cc

pub same_bytes : (a b : List ℕ) → (is_eq (slice_cmp nat_cmp a b) ≡ true) ↔ (a ≡ b)
same_bytes a b = (λ h. exact_bytes a b (equal_of (slice_cmp nat_cmp a b) h), λ e. rw e (ap is_eq (tied_itself nat_list_cmp_total b)))

columns_map : (cells : List Cell) → columns_of cells ≡ map (λ (c : Cell). c.column) cells
columns_map [] = refl
columns_map (c ∷ cells) = ap (λ (names : List (List ℕ)). c.column ∷ names) (columns_map cells)

columns_length : (cells : List Cell) → length (columns_of cells) ≡ length cells
columns_length [] = refl
columns_length (c ∷ cells) = ap suc (columns_length cells)

pub lengths_apart : (xs ys : List Cell) → ¬ (length xs ≡ length ys) → ¬ (columns_of xs ≡ columns_of ys)
lengths_apart xs ys differ same = differ (sym (columns_length xs) ∙ ap (λ (names : List (List ℕ)). length names) same ∙ columns_length ys)

pub columns_all : (xs ys : List Cell) (i : ℕ) → length xs ≤ i → length xs ≡ length ys → take i (columns_of xs) ≡ take i (columns_of ys) → columns_of xs ≡ columns_of ys
columns_all xs ys i past same had =
    sym (take_all i (columns_of xs) (rw columns_length past)) ∙ had ∙ take_all i (columns_of ys) (omega (arith, columns_length ys, same, past))

pub column_at : (cells : List Cell) (i : ℕ) (cell : Cell) → cell ≡ get_or cells i cell → i < length cells → get_or (columns_of cells) i [] ≡ cell.column
column_at cells i cell is lt = ap (λ (names : List (List ℕ)). get_or names i []) (columns_map cells) ∙ get_or-map (λ (c : Cell). c.column) cells i cell [] lt ∙ ap (λ (c : Cell). c.column) (sym is)

pub columns_apart : (xs ys : List Cell) (i : ℕ) (x y : Cell) → x ≡ get_or xs i x → y ≡ get_or ys i y → i < length xs → i < length ys → ¬ (x.column ≡ y.column) → ¬ (columns_of xs ≡ columns_of ys)
columns_apart xs ys i x y x-is y-is x-lt y-lt differ same =
    differ (sym (column_at xs i x x-is x-lt) ∙ ap (λ (names : List (List ℕ)). get_or names i []) same ∙ column_at ys i y y-is y-lt)

pub columns_more : (xs ys : List Cell) (i : ℕ) (x y : Cell) → x ≡ get_or xs i x → y ≡ get_or ys i y → i < length xs → i < length ys → x.column ≡ y.column
    → take i (columns_of xs) ≡ take i (columns_of ys) → take (i + 1) (columns_of xs) ≡ take (i + 1) (columns_of ys)
columns_more xs ys i x y x-is y-is x-lt y-lt same had =
    take_more_same (columns_of xs) (columns_of ys) i [] (rw columns_length x-lt) (rw columns_length y-lt) had (column_at xs i x x-is x-lt ∙ same ∙ sym (column_at ys i y y-is y-lt))

pub is_nil_test : (items : List Captured) → (length items == 0) ≡ is_nil items
is_nil_test [] = refl
is_nil_test (c ∷ items) = grind arith

pub next_is : (captured : List Captured) (at count sequence : ℕ) (first : Captured) (r : DataRecord) → first ≡ get_or captured at first → at < length captured
    → count ≤ 31 → count ≤ length (drop (at + 1) captured) → All (IsAlike first) (take count (drop (at + 1) captured))
    → (count < 31 → (next : Captured) (later : List Captured) → drop count (drop (at + 1) captured) ≡ next ∷ later → ¬ (IsAlike first next))
    → r ≡ record_of sequence first (first ∷ take count (drop (at + 1) captured)) (drop count (drop (at + 1) captured))
    → IsNext sequence (drop at captured) (drop (at + length r.mods) captured) r
next_is captured at count sequence first r first-is lt few within alike ends is =
    let more : List Captured = take count (drop (at + 1) captured) in
    let size : length (take count (drop (at + 1) captured)) ≡ count = length-take-le count (drop (at + 1) captured) within in
    let mods : length r.mods ≡ suc count = ap (λ (x : DataRecord). length x.mods) is ∙ ap suc (length-map (take count (drop (at + 1) captured)) mod_of ∙ size) in
    let place : (at + 1) + count ≡ at + length r.mods = omega (arith, mods) in
    let left : drop count (drop (at + 1) captured) ≡ drop (at + length r.mods) captured = drop-drop count (at + 1) captured ∙ ap (λ n. drop n captured) place in
    subst (λ after. IsNext sequence (drop at captured) after r) left (record {
      first = first;
      more = take count (drop (at + 1) captured);
      split = drop_next captured at first first-is lt ∙ ap (λ rest. first ∷ rest) (sym (take-append-drop count (drop (at + 1) captured)));
      is = is;
      alike = alike;
      few = omega (arith, size, few);
      ends = λ h. ends (omega (arith, size, h));
    })

pub same_key_fault : (columns : List (List ℕ)) (a b : List Cell) → columns_of a ≡ columns_of b → key_fault columns (columns_of a) ≡ None → key_fault columns (columns_of b) ≡ None
same_key_fault columns a b same none = ap (λ (names : List (List ℕ)). key_fault columns names) (sym same) ∙ none
