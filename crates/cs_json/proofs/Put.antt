-- What goes into the written tree: cells one by one, and tokens, which are UTF-8.
use Rattle.std.proofs.Common.{◌≡◌, ℕ, zero, suc, ◌+◌, ◌<◌, ◌≤◌, List, [], ◌∷◌, ◌++◌, length, take, drop, get_or, Bool, true, false, ◌&&◌, Less, Greater, nat_cmp, map, refl, ap, ◌∙◌, sym, subst, String, Global, string_bytes, string_cmp, IsUtf8, arith}
use Rattle.std.proofs.lemmas.Cmp.{nat_list_cmp_total}
use Rattle.std.proofs.lemmas.List.{append-nil, append_assoc, drop_all, drop_more, map-append, take_more}
use Rattle.std.proofs.lemmas.Str.{IsUtf8-from_ascii}
use Rattle.std.proofs.Math.Seq.{split_at}
use Rattle.std.specs.BTreeMap.{insert_entry}
use Rattle.std.specs.Cmp.Lexicographic.{slice_cmp}
use Rattle.std.specs.List.{AllByRecursion}
use Rattle.std.specs.List.Sorted.{IsStrictlySortedBy}
use Rattle.std.specs.Ordering.{ordering_reverse}
use Rattle.serde_json.specs.Data.{Data, member, put}
use Rattle.serde_json.specs.View.{view, members_view}
use Rattle.serde_json.specs.declared.value.Value.{Value}
use Rattle.serde_json.proofs.Views.{Entry, members_view-insert_entry}
use Rattle.cs_types.specs.declared.cells.Cell.{Cell}
use Rattle.cs_types.specs.Cells.{IsRising}
use Rattle.cs_types.specs.Token.{is_token, is_token_byte, are_token_bytes}
use Rattle.cs_types.specs.Value.{value_data}
use Rattle.cs_types.specs.Texts.{cells_members}

below_middle : (first : Cell) (done : List Cell) (c : Cell) (more : List Cell)
    → AllByRecursion (λ y. slice_cmp nat_cmp first.column y ≡ Less) (map (λ c. c.column) (done ++ c ∷ more))
    → slice_cmp nat_cmp first.column c.column ≡ Less
below_middle first [] c more h = h.0
below_middle first (x ∷ done) c more h = below_middle first done c more h.1

-- a column that is above those before it goes last
put_last : (done : List Cell) (c : Cell) (more : List Cell) → IsRising (done ++ c ∷ more)
    → put c.column (value_data c.value) (cells_members done) ≡ cells_members (done ++ c ∷ [])
unfolding IsStrictlySortedBy
put_last [] c more h = refl
put_last (first ∷ done) c more h =
    let above : slice_cmp nat_cmp c.column first.column ≡ Greater =
    nat_list_cmp_total.antisymm c.column first.column ∙ ap ordering_reverse (below_middle first done c more h.0) in
    rw above (ap (member first.column (value_data first.value)) (put_last done c more h.1))

-- one cell more
pub members_more : (cells : List Cell) (i : ℕ) (x : Cell) (es new : List Entry) (k : String Global) (v : Value)
    → IsRising cells → i < length cells → x ≡ get_or cells i x
    → members_view es ≡ cells_members (take i cells) → new ≡ insert_entry string_cmp es k v
    → string_bytes k ≡ x.column → view v ≡ value_data x.value
    → members_view new ≡ cells_members (take (i + 1) cells)
members_more cells i x es new k v rising within is done inserted name value =
    let split : cells ≡ take i cells ++ x ∷ drop (suc i) cells = rw is (split_at cells i x within) in
    let rising' : IsRising (take i cells ++ x ∷ drop (suc i) cells) = subst IsRising split rising in
    let more : take (i + 1) cells ≡ take i cells ++ x ∷ [] = take_more cells i x within ∙ ap (λ y. take i cells ++ y ∷ []) (sym is) in
    rw (inserted, members_view-insert_entry es k v, name, value, done, more) (put_last (take i cells) x (drop (suc i) cells) rising')

left_true : (a b : Bool) → (a && b) ≡ true → a ≡ true
left_true true b h = refl
left_true false b h = cc

right_true : (a b : Bool) → (a && b) ≡ true → b ≡ true
right_true true b h = h
right_true false b h = cc

byte_ascii : (b : ℕ) → is_token_byte b ≡ true → b < 128
byte_ascii b h = grind arith

ascii : (bytes : List ℕ) → are_token_bytes bytes ≡ true → (i : ℕ) → get_or bytes i 0 < 128
ascii [] h i = omega arith
ascii (b ∷ bytes) h zero = byte_ascii b (left_true (is_token_byte b) (are_token_bytes bytes) h)
ascii (b ∷ bytes) h (suc i) = ascii bytes (right_true (is_token_byte b) (are_token_bytes bytes) h) i

-- a token is UTF-8
pub token_text : (bytes : List ℕ) → is_token bytes ≡ true → IsUtf8 bytes
unfolding is_token
token_text bytes h = IsUtf8-from_ascii bytes (ascii bytes (right_true _ (are_token_bytes bytes) h))

-- one more tree in a list of trees
pub tree_more : {X : Type 0} (tree : X → Data) (xs : List X) (i : ℕ) (x : X) (trees : List Value) (v : Value) → x ≡ get_or xs i x → i < length xs → view v ≡ tree x
    → map view trees ++ map tree (drop i xs) ≡ map tree xs → map view (trees ++ v ∷ []) ++ map tree (drop (i + 1) xs) ≡ map tree xs
tree_more tree xs i x trees v is lt value had =
    let rest : drop i xs ≡ x ∷ drop (i + 1) xs = drop_more xs i x lt ∙ ap (λ y. y ∷ drop (i + 1) xs) (sym is) in
    ap (λ ds. ds ++ map tree (drop (i + 1) xs)) (map-append view trees (v ∷ []))
    ∙ append_assoc (map view trees) (view v ∷ []) (map tree (drop (i + 1) xs))
    ∙ ap (λ d. map view trees ++ d ∷ map tree (drop (i + 1) xs)) value
    ∙ ap (λ ys. map view trees ++ map tree ys) (sym rest) ∙ had

pub all_trees : {X : Type 0} (tree : X → Data) (xs : List X) (i : ℕ) (trees : List Value) → length xs ≤ i → map view trees ++ map tree (drop i xs) ≡ map tree xs → map view trees ≡ map tree xs
all_trees tree xs i trees past had =
    sym (append-nil (map view trees)) ∙ ap (λ ys. map view trees ++ map tree ys) (sym (drop_all i xs past)) ∙ had
