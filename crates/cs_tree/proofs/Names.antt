-- Names in byte order.
use Rattle.std.proofs.Common.{◌≡◌, ℕ, ◌&&◌, Bool, true, false, List, [], ◌∷◌, Ordering, Less, Equal, Greater, nat_cmp, is_eq, bytes_eq, refl, sym, ap, ◌∙◌, true≢false}
use Rattle.std.proofs.lemmas.Cmp.{nat_list_cmp_total, on_total}
use Rattle.std.proofs.lemmas.Map.Text.{is_eq-slice_cmp}
use Rattle.std.specs.Cmp.{IsTotalOrder}
use Rattle.std.specs.Cmp.Lexicographic.{slice_cmp}
use Rattle.std.specs.List.{AllByRecursion}
use Rattle.std.specs.List.Sorted.{IsStrictlySortedBy}
use Rattle.std.specs.Ordering.{is_lt, ordering_reverse}
use Rattle.cs_tree.specs.Order.{Name, name_cmp, climbs}

-- the order is total
total : IsTotalOrder name_cmp
total = on_total (λ (k : Name). k.now) nat_list_cmp_total

-- a name is below each of some
abbrev pub Below : Name → List Name → Type 0
Below k ns = AllByRecursion (λ n. name_cmp k n ≡ Less) ns

pub is_same_text : (xs ys : List ℕ) → is_eq (slice_cmp nat_cmp xs ys) ≡ bytes_eq xs ys
is_same_text xs ys = is_eq-slice_cmp xs ys

-- what is above one name, that one is below
pub turned : (k n : Name) → name_cmp k n ≡ Greater → name_cmp n k ≡ Less
turned k n above = total.antisymm n k ∙ ap ordering_reverse above

pub turned_back : (k n : Name) → name_cmp n k ≡ Less → name_cmp k n ≡ Greater
turned_back k n below = total.antisymm k n ∙ ap ordering_reverse below

pub Below-trans : (k n : Name) (ns : List Name) → name_cmp k n ≡ Less → Below n ns → Below k ns
Below-trans k n [] less h = tt
Below-trans k n (x ∷ ns) less h = (total.trans k n x less h.0, Below-trans k n ns less h.1)

both : (a b : Bool) → a && b ≡ true → (a ≡ true) × (b ≡ true)
both true b h = (refl, h)
both false b h = absurd (true≢false (sym h))

lt_is : (o : Ordering) → is_lt o ≡ true → o ≡ Less
lt_is Less h = refl
lt_is Equal h = absurd (true≢false (sym h))
lt_is Greater h = absurd (true≢false (sym h))

-- where each is below the next, each is below all after it
pub climbing : (ns : List Name) → climbs ns ≡ true → IsStrictlySortedBy name_cmp ns
unfolding IsStrictlySortedBy
climbing [] h = tt
climbing (x ∷ []) h = (tt, tt)
climbing (x ∷ y ∷ ns) h =
    let split = both (is_lt (name_cmp x y)) (climbs (y ∷ ns)) h in
    let less = lt_is (name_cmp x y) split.0 in
    let rest = climbing (y ∷ ns) split.1 in
    ((less, Below-trans x y ns less rest.0), rest)
