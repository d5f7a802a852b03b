-- The map of places, and what stands at a place.
use Rattle.std.proofs.Common.{◌≡◌, ◌∙◌, sym, ap, subst, refl, ℕ, suc, List, [], ◌∷◌, ◌++◌, length, Some, None, cond, false, true, Bool, is_some, true≢false, rules}
use Rattle.std.specs.declared.option.Option.{Option}
use Rattle.std.specs.declared.cmp.Ordering.{Ordering}
use Rattle.std.specs.declared.cmp.Ordering.TheVariants.{Less, Equal, Greater}
use Rattle.std.specs.Ordering.{nat_cmp, is_eq}
use Rattle.std.specs.Cmp.Lexicographic.{slice_cmp}
use Rattle.std.specs.List.{slice_get, slice_set}
use Rattle.std.specs.Prelude.{Ok, Err, OnOk, OnErr}
use Rattle.std.specs.declared.result.Result.{Result}
use Rattle.cs_types.specs.declared.memory.Memory.{Memory}
use Rattle.cs_schema.specs.declared.types.Column.{Column}
use Rattle.std.specs.BTreeMap.{BTreeMap, get, is_at}
use Rattle.std.proofs.lemmas.Map.Lookups.{exact_bytes}
use Rattle.cs_schema.specs.declared.types.Table.{Table}
use Rattle.std.specs.Option.{option_or}
use Rattle.cs_types.specs.Names.{is_same}
use Rattle.cs_schema.specs.Tables.{flat, table_named, place_named, next_place, PlacesOf, with_column, grown}

-- what stands at a place, if there is one
abbrev pub standing : List Table → Option ℕ → Option Table
standing ts None = None
standing ts (Some i) = slice_get ts i

pub named_stands : (name : List ℕ) (ts : List Table) → (standing ts (place_named name ts) ≡ table_named name ts) × (is_some (place_named name ts) ≡ is_some (table_named name ts))
named_stands name [] = (refl, refl)
named_stands name (t ∷ ts) = at (place_named name ts) (table_named name ts) (is_same t.name name) (named_stands name ts).0 (named_stands name ts).1
  where
    at : (p : Option ℕ) (o : Option Table) (b : Bool) → standing ts p ≡ o → is_some p ≡ is_some o
        → (standing (t ∷ ts) (option_or (next_place p) (cond b (Some 0) None)) ≡ option_or o (cond b (Some t) None)) × (is_some (option_or (next_place p) (cond b (Some 0) None)) ≡ is_some (option_or o (cond b (Some t) None)))
    at None None true e f = (refl, refl)
    at None None false e f = (refl, refl)
    at None (Some x) b e f = absurd (true≢false (sym f))
    at (Some i) None b e f = absurd (true≢false f)
    at (Some i) (Some x) b e f = (e, refl)

none_there : (o : Option (Option ℕ)) → is_some o ≡ false → flat o ≡ None
none_there None e = refl
none_there (Some x) e = absurd (true≢false e)

pub room_same : (m n : BTreeMap (List ℕ) (Option ℕ)) (k q : List ℕ) → get (slice_cmp nat_cmp) n q ≡ cond (is_at (slice_cmp nat_cmp k) q) (Some None) (get (slice_cmp nat_cmp) m q) → is_some (get (slice_cmp nat_cmp) m k) ≡ false → flat (get (slice_cmp nat_cmp) n q) ≡ flat (get (slice_cmp nat_cmp) m q)
room_same m n k q u absent = cases (slice_cmp nat_cmp k q) refl u
  where
    cases : (o : Ordering) → slice_cmp nat_cmp k q ≡ o → get (slice_cmp nat_cmp) n q ≡ cond (is_eq o) (Some None) (get (slice_cmp nat_cmp) m q) → flat (get (slice_cmp nat_cmp) n q) ≡ flat (get (slice_cmp nat_cmp) m q)
    cases Less e u = ap flat u
    cases Greater e u = ap flat u
    cases Equal e u = ap flat u ∙ sym (none_there (get (slice_cmp nat_cmp) m k) absent) ∙ ap (λ x. flat (get (slice_cmp nat_cmp) m x)) (exact_bytes k q e)

place_more : (name : List ℕ) (ts : List Table) (t : Table) → place_named name (ts ++ t ∷ []) ≡ cond (is_same t.name name) (Some (length ts)) (place_named name ts)
place_more name [] t = elim (is_same t.name name) as (λ b. option_or {T = ℕ} None (cond b (Some 0) None) ≡ cond b (Some 0) None) [ true ↦ refl | false ↦ refl ]
place_more name (x ∷ ts) t =
    ap (λ o. option_or (next_place o) (cond (is_same x.name name) (Some 0) None)) (place_more name ts t)
    ∙ elim (is_same t.name name) as (λ b. option_or (next_place (cond b (Some (length ts)) (place_named name ts))) (cond (is_same x.name name) (Some 0) None) ≡ cond b (Some (suc (length ts))) (place_named name (x ∷ ts))) [ true ↦ refl | false ↦ refl ]

flat_cond : (b : Bool) (v : ℕ) (o : Option (Option ℕ)) → flat (cond b (Some (Some v)) o) ≡ cond b (Some v) (flat o)
flat_cond true v o = refl
flat_cond false v o = refl

pub places_more : (m n : BTreeMap (List ℕ) (Option ℕ)) (ts : List Table) (x : Table)
    → PlacesOf ts m
    → ((q : List ℕ) → get (slice_cmp nat_cmp) n q ≡ cond (is_at (slice_cmp nat_cmp x.name) q) (Some (Some (length ts))) (get (slice_cmp nat_cmp) m q))
    → PlacesOf (ts ++ x ∷ []) n
places_more m n ts x h u q =
    ap flat (u q) ∙ flat_cond (is_at (slice_cmp nat_cmp x.name) q) (length ts) (get (slice_cmp nat_cmp) m q)
    ∙ ap (cond (is_at (slice_cmp nat_cmp x.name) q) (Some (length ts))) (h q) ∙ sym (place_more q ts x)

-- a column more

neither : {A : Type 0} (a b : Option A) → option_or a b ≡ None → (a ≡ None) × (b ≡ None)
neither None b e = (refl, e)
neither (Some x) b e = absurd (true≢false (ap is_some e))

not_some : {A : Type 0} (b : Bool) (x : A) → cond b (Some x) None ≡ None → b ≡ false
not_some true x e = absurd (true≢false (ap is_some e))
not_some false x e = refl

same_place : (q : List ℕ) (name : List ℕ) (column : Column) (ts : List Table) → place_named q (with_column name column ts) ≡ place_named q ts
same_place q name column [] = refl
same_place q name column (t ∷ ts) = at (same_place q name column ts) (is_some (table_named name ts)) (is_same t.name name)
  where
    at : place_named q (with_column name column ts) ≡ place_named q ts → (a b : Bool) → place_named q (cond a (t ∷ with_column name column ts) (cond b (grown t column ∷ ts) (t ∷ ts))) ≡ place_named q (t ∷ ts)
    at h true b = ap (λ p. option_or (next_place p) (cond (is_same t.name q) (Some 0) None)) h
    at h false true = refl
    at h false false = refl

pub none_grows : (name : List ℕ) (column : Column) (ts : List Table) → table_named name ts ≡ None → ts ≡ with_column name column ts
none_grows name column [] e = refl
none_grows name column (t ∷ ts) e =
    let n : (table_named name ts ≡ None) × (cond (is_same t.name name) (Some t) None ≡ None) = neither (table_named name ts) (cond (is_same t.name name) (Some t) None) e in
    sym (ap (λ o. cond (is_some o) (t ∷ with_column name column ts) (cond (is_same t.name name) (grown t column ∷ ts) (t ∷ ts))) n.0
    ∙ ap (λ b. cond b (grown t column ∷ ts) (t ∷ ts)) (not_some (is_same t.name name) t n.1))

some_same : {A : Type 0} {x y : A} → Some x ≡ Some y → x ≡ y
some_same e = search rules

pub grown_named : (name : List ℕ) (column : Column) (ts : List Table) (i : ℕ) (t : Table) → place_named name ts ≡ Some i → slice_get ts i ≡ Some t → slice_set ts i (grown t column) ≡ with_column name column ts
grown_named name column [] i t e g = absurd (true≢false (sym (ap is_some e)))
grown_named name column (x ∷ ts) i t e g = at (λ j h k. grown_named name column ts j t h k) (place_named name ts) (is_some (table_named name ts)) (is_same x.name name) refl (sym (named_stands name ts).1) e
  where
    at : ((j : ℕ) → place_named name ts ≡ Some j → slice_get ts j ≡ Some t → slice_set ts j (grown t column) ≡ with_column name column ts) → (p : Option ℕ) (s b : Bool) → place_named name ts ≡ p → s ≡ is_some (place_named name ts) → option_or (next_place p) (cond b (Some 0) None) ≡ Some i → slice_set (x ∷ ts) i (grown t column) ≡ cond s (x ∷ with_column name column ts) (cond b (grown x column ∷ ts) (x ∷ ts))
    at f (Some j) true b h k r =
        let is : suc j ≡ i = some_same r in
        subst (λ n. slice_set (x ∷ ts) n (grown t column) ≡ x ∷ with_column name column ts) is
        (ap (λ l. x ∷ l) (f j h (subst (λ n. slice_get (x ∷ ts) n ≡ Some t) (sym is) g)))
    at f (Some j) false b h k r = absurd (true≢false (sym (k ∙ ap is_some h)))
    at f None true b h k r = absurd (true≢false (k ∙ ap is_some h))
    at f None false true h k r =
        let is : 0 ≡ i = some_same r in
        let one : x ≡ t = some_same (subst (λ n. slice_get (x ∷ ts) n ≡ Some t) (sym is) g) in
        subst (λ n. slice_set (x ∷ ts) n (grown t column) ≡ grown x column ∷ ts) is (ap (λ y. grown y column ∷ ts) (sym one))
    at f None false false h k r = absurd (true≢false (sym (ap is_some r)))

pub same_places : (r : Result (Unit {0}) Memory) (name : List ℕ) (column : Column) (before after : List Table) → OnOk r (after ≡ with_column name column before) → OnErr r (after ≡ before) → (q : List ℕ) → place_named q after ≡ place_named q before
same_places (Ok x) name column before after a b q = ap (place_named q) a ∙ same_place q name column before
same_places (Err x) name column before after a b q = ap (place_named q) b

pub on_ok : {P Q : Type 0} (r : Result (Unit {0}) Memory) → OnOk r P → (P → Q) → OnOk r Q
on_ok (Ok x) p f = f p
on_ok (Err x) p f = tt

pub stands_at : (name : List ℕ) (ts : List Table) (i : ℕ) → place_named name ts ≡ Some i → (t : Table) × (slice_get ts i ≡ Some t)
stands_at name ts i e = at (table_named name ts) refl
  where
    at : (o : Option Table) → table_named name ts ≡ o → (t : Table) × (slice_get ts i ≡ Some t)
    at (Some t) h = (t, ap (standing ts) (sym e) ∙ (named_stands name ts).0 ∙ h)
    at None h = absurd (true≢false (sym (ap is_some (sym h) ∙ sym (named_stands name ts).1 ∙ ap is_some e)))
