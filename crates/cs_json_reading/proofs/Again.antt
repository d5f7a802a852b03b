-- One step of looking for a column whose name stands again.
use Rattle.std.proofs.Common.{◌≡◌, ◌∙◌, sym, ap, refl, ℕ, ◌+◌, ◌<◌, List, [], ◌∷◌, ◌++◌, length, take, drop, get_or, Bool, Option, Some, None, cond, false, true, is_some}
use Rattle.std.specs.Ordering.{nat_cmp}
use Rattle.std.specs.Cmp.Lexicographic.{slice_cmp}
use Rattle.std.specs.BTreeMap.{BTreeMap, get, is_at}
use Rattle.std.proofs.lemmas.List.{take_more, drop_more, map-append}
use Rattle.cs_types.specs.declared.column_type.ColumnType.{ColumnType}
use Rattle.cs_records.specs.declared.captured.ColumnInfo.{ColumnInfo}
use Rattle.std.specs.Option.{option_or}
use Rattle.cs_json_reading.specs.Columns.{column_type, names_of, HoldsTypes}
use Rattle.cs_types.specs.Names.{is_same, is_among, first_again}

take_next : {X : Type 0} (xs : List X) (i : ℕ) (x : X) → i < length xs → x ≡ get_or xs i x → take (i + 1) xs ≡ take i xs ++ x ∷ []
take_next xs i x lt e = take_more xs i x lt ∙ ap (λ y. take i xs ++ y ∷ []) (sym e)

drop_next : {X : Type 0} (xs : List X) (i : ℕ) (x : X) → i < length xs → x ≡ get_or xs i x → drop i xs ≡ x ∷ drop (i + 1) xs
drop_next xs i x lt e = drop_more xs i x lt ∙ ap (λ y. y ∷ drop (i + 1) xs) (sym e)

type_more : (q : List ℕ) (cs : List ColumnInfo) (c : ColumnInfo) → column_type q (cs ++ c ∷ []) ≡ cond (is_same c.name q) (Some c.ty) (column_type q cs)
type_more q [] c = elim (is_same c.name q) as (λ b. option_or {T = ColumnType} None (cond b (Some c.ty) None) ≡ cond b (Some c.ty) None) [ true ↦ refl | false ↦ refl ]
type_more q (x ∷ cs) c =
    ap (λ o. option_or o (cond (is_same x.name q) (Some x.ty) None)) (type_more q cs c)
    ∙ elim (is_same c.name q) as (λ b. option_or (cond b (Some c.ty) (column_type q cs)) (cond (is_same x.name q) (Some x.ty) None) ≡ cond b (Some c.ty) (column_type q (x ∷ cs))) [ true ↦ refl | false ↦ refl ]

pub types_step : (m k : BTreeMap (List ℕ) ColumnType) (cs : List ColumnInfo) (i : ℕ) (c : ColumnInfo) → i < length cs → c ≡ get_or cs i c
    → HoldsTypes (take i cs) m
    → ((q : List ℕ) → get (slice_cmp nat_cmp) k q ≡ cond (is_at (slice_cmp nat_cmp c.name) q) (Some c.ty) (get (slice_cmp nat_cmp) m q))
    → HoldsTypes (take (i + 1) cs) k
types_step m k cs i c lt e h u q =
    u q
    ∙ ap (cond (is_at (slice_cmp nat_cmp c.name) q) (Some c.ty)) (h q)
    ∙ sym (type_more q (take i cs) c)
    ∙ ap (column_type q) (sym (take_next cs i c lt e))

typed : (b : Bool) (o : Option ColumnType) (ty : ColumnType) → is_some (option_or o (cond b (Some ty) None)) ≡ cond b true (is_some o)
typed true None ty = refl
typed true (Some t) ty = refl
typed false None ty = refl
typed false (Some t) ty = refl

named_if_typed : (q : List ℕ) (cs : List ColumnInfo) → is_some (column_type q cs) ≡ is_among q (names_of cs)
named_if_typed q [] = refl
named_if_typed q (c ∷ cs) = typed (is_same c.name q) (column_type q cs) c.ty ∙ ap (λ b. cond (is_same c.name q) true b) (named_if_typed q cs)

names_next : (cs : List ColumnInfo) (i : ℕ) (c : ColumnInfo) → i < length cs → c ≡ get_or cs i c → names_of (take (i + 1) cs) ≡ names_of (take i cs) ++ c.name ∷ []
names_next cs i c lt e = ap names_of (take_next cs i c lt e) ∙ map-append (λ (x : ColumnInfo). x.name) (take i cs) (c ∷ [])

here_is : (cs : List ColumnInfo) (i : ℕ) (c : ColumnInfo) (b : Bool) → i < length cs → c ≡ get_or cs i c → is_some (column_type c.name (take i cs)) ≡ b
    → first_again (names_of (take i cs)) (names_of (drop i cs)) ≡ cond b (Some c.name) (first_again (names_of (take i cs) ++ c.name ∷ []) (names_of (drop (i + 1) cs)))
here_is cs i c b lt e t =
    ap (λ (xs : List ColumnInfo). first_again (names_of (take i cs)) (names_of xs)) (drop_next cs i c lt e)
    ∙ ap (λ s. cond s (Some c.name) (first_again (names_of (take i cs) ++ c.name ∷ []) (names_of (drop (i + 1) cs)))) (sym (named_if_typed c.name (take i cs)) ∙ t)

pub again_step : (cs : List ColumnInfo) (i : ℕ) (c : ColumnInfo) → i < length cs → c ≡ get_or cs i c → is_some (column_type c.name (take i cs)) ≡ false
    → first_again (names_of (take (i + 1) cs)) (names_of (drop (i + 1) cs)) ≡ first_again (names_of (take i cs)) (names_of (drop i cs))
again_step cs i c lt e f =
    ap (λ (names : List (List ℕ)). first_again names (names_of (drop (i + 1) cs))) (names_next cs i c lt e) ∙ sym (here_is cs i c false lt e f)

pub again_here : (cs : List ColumnInfo) (i : ℕ) (c : ColumnInfo) → i < length cs → c ≡ get_or cs i c → is_some (column_type c.name (take i cs)) ≡ true
    → first_again (names_of (take i cs)) (names_of (drop i cs)) ≡ Some c.name
again_here cs i c lt e t = here_is cs i c true lt e t
