-- Changes by their names: which stand among those so far.
use Rattle.std.proofs.Common.{◌≡◌, ℕ, Bool, true, List, [], ◌∷◌, ◌++◌, map, ⊎_elim, sym, refl, ap, subst, true≢false, Contains, Decides}
use Rattle.std.specs.Ordering.{nat_cmp, ordering_then, ordering_reverse, is_eq, is_lt}
use Rattle.std.specs.declared.cmp.Ordering.{Ordering}
use Rattle.std.specs.declared.cmp.Ordering.TheVariants.{Less, Equal, Greater}
use Rattle.std.specs.Cmp.Lexicographic.{slice_cmp, nat_list_cmp_total}
use Rattle.std.proofs.lemmas.Bool.{or_cases, or_left, or_right}
use Rattle.std.proofs.lemmas.Map.Lookups.{exact_bytes}
use Rattle.std.proofs.lemmas.List.Elements.{Contains-append_left}
use Rattle.cs_types.specs.declared.change.Change.{Change}
use Rattle.cs_types.specs.Row.{row_cmp}
use Rattle.cs_types.specs.Exact.{same_row-is}
use Rattle.cs_types.specs.Members.{in_nil, in_head, in_tail, in_cons, in_map, from_map, pairs_from, pairs_two}
use Rattle.cs_link.specs.declared.batch.Seen.{Seen}
use Rattle.cs_link.specs.declared.feed.Feed.{Feed}
use Rattle.cs_link.specs.Batch.{seen_of, seen_cmp, is_seen}
use Rattle.cs_link.specs.Feed.{IsFeed}

then_equal : (o p : Ordering) → is_eq (ordering_then o p) ≡ true → (o ≡ Equal) × (is_eq p ≡ true)
then_equal Less p e = absurd (true≢false (sym e))
then_equal Equal p e = (refl, e)
then_equal Greater p e = absurd (true≢false (sym e))

equal_then : (o p : Ordering) → is_eq o ≡ true → is_eq p ≡ true → is_eq (ordering_then o p) ≡ true
equal_then Less p h k = absurd (true≢false (sym h))
equal_then Equal p h k = k
equal_then Greater p h k = absurd (true≢false (sym h))

is_equal : (o : Ordering) → is_eq o ≡ true → o ≡ Equal
is_equal Less k = absurd (true≢false (sym k))
is_equal Equal k = refl
is_equal Greater k = absurd (true≢false (sym k))

pub token_itself : (a : List ℕ) → is_eq (slice_cmp nat_cmp a a) ≡ true
token_itself a = by (slice_cmp nat_cmp a a) (nat_list_cmp_total.antisymm a a)
  where
    by : (o : Ordering) → o ≡ ordering_reverse o → is_eq o ≡ true
    by Less h = absurd (true≢false (ap is_lt h))
    by Equal h = refl
    by Greater h = absurd (true≢false (sym (ap is_lt h)))

pub token_equal : (a b : List ℕ) → is_eq (slice_cmp nat_cmp a b) ≡ true → a ≡ b
token_equal a b h = exact_bytes a b (is_equal (slice_cmp nat_cmp a b) h)

seen_is : (a b : Seen) → Decides (is_eq (seen_cmp a b)) (a ≡ b)
seen_is a b = (there, back)
  where
    there : is_eq (seen_cmp a b) ≡ true → a ≡ b
    there h =
        let p = then_equal (slice_cmp nat_cmp a.tx b.tx) (row_cmp a.row b.row) h in
        let t = exact_bytes a.tx b.tx p.0 in
        let r = (same_row-is a.row b.row).0 p.1 in
        λ i. record { tx = t i; row = r i }

    back : a ≡ b → is_eq (seen_cmp a b) ≡ true
    back h = subst (λ z. is_eq (seen_cmp a z) ≡ true) h (equal_then (slice_cmp nat_cmp a.tx a.tx) (row_cmp a.row a.row) (token_itself a.tx) ((same_row-is a.row a.row).1 refl))

-- whether two changes have one name
abbrev pub is_same : Change → Change → Bool
is_same c d = is_eq (seen_cmp (seen_of c) (seen_of d))

pub same_is : (c d : Change) → is_same c d ≡ true → seen_of c ≡ seen_of d
same_is c d h = (seen_is (seen_of c) (seen_of d)).0 h

pub same_itself : (c : Change) → is_same c c ≡ true
same_itself c = (seen_is (seen_of c) (seen_of c)).1 refl

in_seen : (names : List Seen) (c : Change) → Contains names (seen_of c) → is_seen names c ≡ true
in_seen [] c i = absurd (in_nil (seen_of c) i)
in_seen (n ∷ names) c i =
    ⊎_elim
    (λ (e : seen_of c ≡ n). or_left (is_eq (seen_cmp (seen_of c) n)) (is_seen names c) ((seen_is (seen_of c) n).1 e))
    (λ (j : Contains names (seen_of c)). or_right (is_eq (seen_cmp (seen_of c) n)) (is_seen names c) (in_seen names c j))
    (in_cons n (seen_of c) names i)

from_seen : (names : List Seen) (c : Change) → is_seen names c ≡ true → Contains names (seen_of c)
from_seen [] c h = absurd (true≢false (sym h))
from_seen (n ∷ names) c h =
    ⊎_elim
    (λ k. subst (λ z. Contains (n ∷ names) z) (sym ((seen_is (seen_of c) n).0 k)) (in_head n names))
    (λ k. in_tail n (seen_of c) names (from_seen names c k))
    (or_cases (is_eq (seen_cmp (seen_of c) n)) (is_seen names c) h)

pub in_has : (c : Change) (cs : List Change) → Contains cs c → is_seen (map seen_of cs) c ≡ true
in_has c cs i = in_seen (map seen_of cs) c (in_map seen_of c cs i)

pub from_has : (c : Change) (cs : List Change) → is_seen (map seen_of cs) c ≡ true → (d : Change) × Contains cs d × (seen_of c ≡ seen_of d)
from_has c cs h = from_map seen_of (seen_of c) cs (from_seen (map seen_of cs) c h)

pub has_more : (c : Change) (xs ys : List Change) → is_seen (map seen_of xs) c ≡ true → is_seen (map seen_of (xs ++ ys)) c ≡ true
has_more c xs ys h =
    let d = from_has c xs h in
    in_seen (map seen_of (xs ++ ys)) c (subst (λ z. Contains (map seen_of (xs ++ ys)) z) (sym d.2) (in_map seen_of d.0 (xs ++ ys) (Contains-append_left xs ys d.0 d.1)))

-- two wanted changes of one name are one
pub same_named : (f : Feed) → IsFeed f → (c d : Change) → Contains f.wanted c → Contains f.wanted d → seen_of c ≡ seen_of d → c ≡ d
same_named f F c d i j e =
    let tx : c.tx ≡ d.tx = ap (λ (s : Seen). s.tx) e in
    let row : c.row ≡ d.row = ap (λ (s : Seen). s.row) e in
    ⊎_elim
    (λ (s : c ≡ d). s)
    (λ o. ⊎_elim (λ h. absurd (h tx row)) (λ h. absurd (h (sym tx) (sym row))) o)
    (pairs_two (λ (x y : Change). x.tx ≡ y.tx → x.row ≡ y.row → ⊥) f.wanted (pairs_from (λ (x y : Change). x.tx ≡ y.tx → x.row ≡ y.row → ⊥) f.wanted F.names) c d i j)
