-- Captured changes that are alike have the same columns.
use Rattle.std.proofs.Common.{◌≡◌, ◌<◌, ℕ, List, [], ◌∷◌, length, get_or, map, Bool, true, false, cond, ◌||◌, ◌⊎◌, inl, inr, nat_cmp, refl, ap, ◌∙◌, sym, subst}
use Rattle.std.specs.declared.cmp.Ordering.TheVariants.{Less, Equal}
use Rattle.std.specs.Cmp.{nat_cmp_total}
use Rattle.std.specs.List.{AllByRecursion}
use Rattle.std.specs.List.Sorted.{IsStrictlySortedBy}
use Rattle.std.proofs.lemmas.Cmp.{tied_itself}
use Rattle.std.proofs.lemmas.List.{get_or-map, length-map}
use Rattle.std.proofs.lemmas.List.Elements.{recursion_from_All}
use Rattle.std.proofs.lemmas.Map.Keys.{sorted_from_strictly_increasing}
use Rattle.cs_records.specs.declared.captured.Captured.{Captured}
use Rattle.cs_records.specs.declared.captured.ColumnInfo.{ColumnInfo}
use Rattle.cs_types.specs.Names.{is_same, is_among, columns_of}
use Rattle.cs_records.specs.Group.{Agree, HasItsColumns, IsAlike}
use Rattle.cs_records.proofs.Cutting.{same_bytes}
use Rattle.cs_records.proofs.Seen.{among_at}

abbrev Among : ColumnInfo → List ColumnInfo → Type 0
Among x [] = ⊥
Among x (y ∷ ys) = (x ≡ y) ⊎ Among x ys

among_all : (P : ColumnInfo → Type 0) (x : ColumnInfo) (ys : List ColumnInfo) → AllByRecursion P ys → Among x ys → P x
among_all P x [] h m = absurd m
among_all P x (y ∷ ys) h (inl e) = subst P (sym e) h.0
among_all P x (y ∷ ys) h (inr m) = among_all P x ys h.1 m

abbrev Above : ℕ → List ColumnInfo → Type 0
Above n ys = AllByRecursion (λ o. nat_cmp n o ≡ Less) (map (λ (c : ColumnInfo). c.ordinal) ys)

above_among : (n : ℕ) (x : ColumnInfo) (ys : List ColumnInfo) → Above n ys → Among x ys → nat_cmp n x.ordinal ≡ Less
above_among n x [] h m = absurd m
above_among n x (y ∷ ys) h (inl e) = ap (λ (c : ColumnInfo). nat_cmp n c.ordinal) e ∙ h.0
above_among n x (y ∷ ys) h (inr m) = above_among n x ys h.1 m

not_below_itself : (n : ℕ) → ¬ (nat_cmp n n ≡ Less)
not_below_itself n h = let e : Less ≡ Equal = sym h ∙ tied_itself nat_cmp_total n in cc

not_both : (n m : ℕ) → nat_cmp n m ≡ Less → ¬ (nat_cmp m n ≡ Less)
not_both n m h g = not_below_itself n (nat_cmp_total.trans n m n h g)

same_head : (x y : ColumnInfo) (xs ys : List ColumnInfo) → Above x.ordinal xs → Above y.ordinal ys → Among x (y ∷ ys) → Among y (x ∷ xs) → x ≡ y
same_head x y xs ys s t (inl e) b = e
same_head x y xs ys s t (inr m) (inl e) = sym e
same_head x y xs ys s t (inr m) (inr n) = absurd (not_both y.ordinal x.ordinal (above_among y.ordinal x ys t m) (above_among x.ordinal y xs s n))

beyond : (y z : ColumnInfo) (ys : List ColumnInfo) → nat_cmp y.ordinal z.ordinal ≡ Less → Among z (y ∷ ys) → Among z ys
beyond y z ys h (inl e) = absurd (not_below_itself y.ordinal (ap (λ (c : ColumnInfo). nat_cmp y.ordinal c.ordinal) (sym e) ∙ h))
beyond y z ys h (inr m) = m

all_beyond : (y : ColumnInfo) (ys xs : List ColumnInfo) → Above y.ordinal xs → AllByRecursion (λ z. Among z (y ∷ ys)) xs → AllByRecursion (λ z. Among z ys) xs
all_beyond y ys [] h a = tt
all_beyond y ys (z ∷ xs) h a = (beyond y z ys h.0 a.0, all_beyond y ys xs h.1 a.1)

abbrev Rises : List ColumnInfo → Type 0
Rises xs = IsStrictlySortedBy nat_cmp (map (λ (c : ColumnInfo). c.ordinal) xs)

-- lists with the same columns, by rising ordinals, are one
same_lists : (xs ys : List ColumnInfo) → Rises xs → Rises ys → AllByRecursion (λ x. Among x ys) xs → AllByRecursion (λ y. Among y xs) ys → xs ≡ ys
unfolding IsStrictlySortedBy
same_lists [] [] s t a b = refl
same_lists [] (y ∷ ys) s t a b = absurd b.0
same_lists (x ∷ xs) [] s t a b = absurd a.0
same_lists (x ∷ xs) (y ∷ ys) s t a b =
    let head : x ≡ y = same_head x y xs ys s.0 t.0 a.0 b.0 in
    let left = all_beyond y ys xs (subst (λ (c : ColumnInfo). Above c.ordinal xs) head s.0) a.1 in
    let right = all_beyond x xs ys (subst (λ (c : ColumnInfo). Above c.ordinal ys) (sym head) t.0) b.1 in
    let tail : xs ≡ ys = same_lists xs ys s.1 t.1 left right in
    λ i. head i ∷ tail i

abbrev Named : List ℕ → List ColumnInfo → Type 0
Named name ys = (y : ColumnInfo) × Among y ys × (name ≡ y.name)

found_in : (name : List ℕ) (y : ColumnInfo) (ys : List ColumnInfo) (b : Bool) → is_same y.name name ≡ b → (is_among name (map (λ (c : ColumnInfo). c.name) ys) ≡ true → Named name ys)
    → cond b true (is_among name (map (λ (c : ColumnInfo). c.name) ys)) ≡ true → Named name (y ∷ ys)
found_in name y ys true e later h = (y, inl refl, sym ((same_bytes y.name name).0 e))
found_in name y ys false e later h = let f = later h in (f.0, inr f.1, f.2)

found : (name : List ℕ) (ys : List ColumnInfo) → is_among name (map (λ (c : ColumnInfo). c.name) ys) ≡ true → Named name ys
found name [] h = cc
found name (y ∷ ys) h = found_in name y ys (is_same y.name name) refl (found name ys) h

-- a column of a captured change is named in what the change tells of
named : (columns : List ColumnInfo) (k : ℕ) (d : ColumnInfo) → k < length columns → is_among (get_or columns k d).name (map (λ (c : ColumnInfo). c.name) columns) ≡ true
named columns k d lt =
    let at : get_or (map (λ (c : ColumnInfo). c.name) columns) k [] ≡ (get_or columns k d).name = get_or-map (λ (c : ColumnInfo). c.name) columns k d [] lt in
    ap (λ (n : List ℕ). is_among n (map (λ (c : ColumnInfo). c.name) columns)) (sym at) ∙ among_at (map (λ (c : ColumnInfo). c.name) columns) k [] (rw length-map lt)

each_among : (a b : Captured) → Agree a b → HasItsColumns a → HasItsColumns b → IsAlike a b → AllByRecursion (λ x. Among x b.columns) a.columns
each_among a b agree of_a of_b alike = recursion_from_All (λ x. Among x b.columns) a.columns (λ k d lt.
    let x : ColumnInfo = get_or a.columns k d in
    let key : columns_of a.change.row.key ≡ columns_of b.change.row.key = agree.key alike.table in
    let told : is_among (get_or a.columns k d).name (map (λ (c : ColumnInfo). c.name) b.columns) ≡ is_among (get_or a.columns k d).name (map (λ (c : ColumnInfo). c.name) a.columns) = of_b.each (get_or a.columns k d).name
    ∙ sym (of_a.each (get_or a.columns k d).name ∙ (λ i. is_among (get_or a.columns k d).name (key i) || (is_among (get_or a.columns k d).name (alike.new i) || is_among (get_or a.columns k d).name (alike.old i)))) in
    let there = found (get_or a.columns k d).name b.columns (told ∙ named a.columns k d lt) in
    let says : AllByRecursion (λ y. (get_or a.columns k d).name ≡ y.name → get_or a.columns k d ≡ y) b.columns = recursion_from_All (λ (y : ColumnInfo). (get_or a.columns k d).name ≡ y.name → get_or a.columns k d ≡ y) b.columns (agree.columns alike.table k d lt) in
    let same : get_or a.columns k d ≡ there.0 = among_all (λ (y : ColumnInfo). (get_or a.columns k d).name ≡ y.name → get_or a.columns k d ≡ y) there.0 b.columns says there.1 there.2 in
    subst (λ (y : ColumnInfo). Among y b.columns) (sym same) there.1)

pub flip : (a b : Captured) → IsAlike a b → IsAlike b a
flip a b h = record { table = sym h.table; kind = sym h.kind; new = sym h.new; old = sym h.old }

pub chain : (a b c : Captured) → IsAlike a b → IsAlike b c → IsAlike a c
chain a b c h g = record { table = h.table ∙ g.table; kind = h.kind ∙ g.kind; new = h.new ∙ g.new; old = h.old ∙ g.old }

pub itself : (a : Captured) → IsAlike a a
itself a = record { table = refl; kind = refl; new = refl; old = refl }

pub same_columns : (a b : Captured) → Agree a b → Agree b a → HasItsColumns a → HasItsColumns b → IsAlike a b → a.columns ≡ b.columns
same_columns a b there back of_a of_b alike =
    same_lists a.columns b.columns (sorted_from_strictly_increasing (map (λ (c : ColumnInfo). c.ordinal) a.columns) of_a.rising) (sorted_from_strictly_increasing (map (λ (c : ColumnInfo). c.ordinal) b.columns) of_b.rising)
    (each_among a b there of_a of_b alike) (each_among b a back of_b of_a (flip a b alike))
