-- A change that the board's row has by name is one of its own.
use Rattle.cs_types.specs.declared.change.Change.{Change}
use Rattle.cs_link.specs.declared.feed.Feed.{Feed}
use Rattle.cs_link.specs.declared.batch.Known.{Known}
use Rattle.cs_link.specs.declared.batch.Seen.{Seen}
use Rattle.cs_link.specs.Batch.{seen_of, seen_cmp, is_seen, is_known}
use Rattle.std.specs.Ordering.{nat_cmp, ordering_then, ordering_reverse, is_eq, is_lt}
use Rattle.std.proofs.lemmas.Map.Lookups.{exact_bytes}
use Rattle.std.specs.declared.cmp.Ordering.{Ordering}
use Rattle.std.specs.declared.cmp.Ordering.TheVariants.{Less, Equal, Greater}
use Rattle.std.specs.Cmp.Lexicographic.{slice_cmp, nat_list_cmp_total}
use Rattle.cs_types.specs.Row.{row_cmp}
use Rattle.cs_types.specs.Exact.{same_row-is}
use Rattle.cs_types.specs.Members.{in_nil, in_head, in_tail, in_cons, pairs_two}
use Rattle.cs_schedule.specs.Consistent.{Covers}
use Rattle.cs_schedule.proofs.Parts.{Facts}
use Rattle.std.proofs.Common.{◌≡◌, ◌≢◌, ℕ, ◌<◌, true, ◌&&◌, List, [], ◌∷◌, map, ⊎_elim, sym, refl, ap, ◌∙◌, subst, arith, true≢false, Contains, leb, eqb, Decides, suc}
use Rattle.std.proofs.lemmas.Bool.{and_parts, and_from, or_cases, or_left, or_right, leb-true, le-leb, eqb-true, eq-eqb}

then_equal : (o p : Ordering) → is_eq (ordering_then o p) ≡ true → (o ≡ Equal) × (is_eq p ≡ true)
then_equal Less p e = absurd (true≢false (sym e))
then_equal Equal p e = (refl, e)
then_equal Greater p e = absurd (true≢false (sym e))

equal_then : (o p : Ordering) → is_eq o ≡ true → is_eq p ≡ true → is_eq (ordering_then o p) ≡ true
equal_then Less p h k = absurd (true≢false (sym h))
equal_then Equal p h k = k
equal_then Greater p h k = absurd (true≢false (sym h))

same_text : (a b : List ℕ) → slice_cmp nat_cmp a b ≡ Equal → a ≡ b
same_text a b h = exact_bytes a b h

pub text_itself : (a : List ℕ) → is_eq (slice_cmp nat_cmp a a) ≡ true
text_itself a = by (slice_cmp nat_cmp a a) (nat_list_cmp_total.antisymm a a)
  where
    by : (o : Ordering) → o ≡ ordering_reverse o → is_eq o ≡ true
    by Less h = absurd (true≢false (ap is_lt h))
    by Equal h = refl
    by Greater h = absurd (true≢false (sym (ap is_lt h)))

seen_is : (a b : Seen) → Decides (is_eq (seen_cmp a b)) (a ≡ b)
seen_is a b = (there, back)
  where
    there : is_eq (seen_cmp a b) ≡ true → a ≡ b
    there h =
        let p = then_equal (slice_cmp nat_cmp a.tx b.tx) (row_cmp a.row b.row) h in
        let t = (same_text a.tx b.tx p.0) in
        let r = (same_row-is a.row b.row).0 p.1 in
        λ i. record { tx = t i; row = r i }

    back : a ≡ b → is_eq (seen_cmp a b) ≡ true
    back h = subst (λ z. is_eq (seen_cmp a z) ≡ true) h (equal_then (slice_cmp nat_cmp a.tx a.tx) (row_cmp a.row a.row) (text_itself a.tx) ((same_row-is a.row a.row).1 refl))

pub from_named : (ns : List Seen) (c : Change) → is_seen ns c ≡ true → (n : Seen) × Contains ns n × (n.tx ≡ c.tx) × (n.row ≡ c.row)
from_named [] c h = absurd (true≢false (sym h))
from_named (n ∷ ns) c h =
    ⊎_elim
    (λ k. let p = (seen_is (seen_of c) n).0 k in (n, in_head n ns, ap (λ (z : Seen). z.tx) (sym p), ap (λ (z : Seen). z.row) (sym p)))
    (λ k. let r = from_named ns c k in (r.0, in_tail n r.0 ns r.1, r.2, r.3))
    (or_cases (is_eq (seen_cmp (seen_of c) n)) (is_seen ns c) h)

pub in_named : (ns : List Seen) (c : Change) (n : Seen) → Contains ns n → n.tx ≡ c.tx → n.row ≡ c.row → is_seen ns c ≡ true
in_named [] c n i t r = absurd (in_nil n i)
in_named (m ∷ ns) c n i t r =
    ⊎_elim
    (λ (q : n ≡ m). or_left (is_eq (seen_cmp (seen_of c) m)) (is_seen ns c) ((seen_is (seen_of c) m).1 ((λ i. record { tx = sym t i; row = sym r i }) ∙ q)))
    (λ (j : Contains ns n). or_right (is_eq (seen_cmp (seen_of c) m)) (is_seen ns c) (in_named ns c n j t r))
    (in_cons m n ns i)

pub in_names : (cs : List Change) (c : Change) → Contains cs c → Contains (map seen_of cs) (seen_of c)
in_names [] c i = absurd (in_nil c i)
in_names (d ∷ cs) c i =
    ⊎_elim
    (λ (q : c ≡ d). subst (λ (z : Change). Contains (map seen_of (d ∷ cs)) (seen_of z)) (sym q) (in_head (seen_of d) (map seen_of cs)))
    (λ (j : Contains cs c). in_tail (seen_of d) (seen_of c) (map seen_of cs) (in_names cs c j))
    (in_cons d c cs i)

pub from_names : (cs : List Change) (n : Seen) → Contains (map seen_of cs) n → (c : Change) × Contains cs c × (n.tx ≡ c.tx) × (n.row ≡ c.row)
from_names [] n i = absurd (in_nil n i)
from_names (d ∷ cs) n i =
    ⊎_elim
    (λ (q : n ≡ seen_of d). (d, in_head d cs, ap (λ (z : Seen). z.tx) q, ap (λ (z : Seen). z.row) q))
    (λ (j : Contains (map seen_of cs) n). let r = from_names cs n j in (r.0, in_tail d r.0 cs r.1, r.2, r.3))
    (in_cons (seen_of d) n (map seen_of cs) i)

module _ (f : Feed) (F : Facts f) where
  -- two wanted changes with one name are one
  pub same_named : (c d : Change) → Contains f.wanted c → Contains f.wanted d → c.tx ≡ d.tx → c.row ≡ d.row → c ≡ d
  same_named c d i j t r =
      ⊎_elim
      (λ (s : c ≡ d). s)
      (λ o. ⊎_elim (λ h. absurd (h t r)) (λ h. absurd (h (sym t) (sym r))) o)
      (pairs_two (λ (x y : Change). x.tx ≡ y.tx → x.row ≢ y.row) f.wanted F.names c d i j)

-- who covers another knows what that one knows
pub covers_known : (a k : Known) (c : Change) → Covers a k → is_known k c ≡ true → is_known a c ≡ true
covers_known a k c v h =
    ⊎_elim
    (λ (x : leb c.stamp k.through ≡ true). let l = leb-true c.stamp k.through x in or_left (leb c.stamp a.through) (eqb c.stamp (suc a.through) && is_seen a.seen c) (le-leb c.stamp a.through (⊎_elim (λ (y : k.through < a.through). omega arith) (λ y. omega (arith, y.0)) v)))
    (λ x.
    let p = and_parts (eqb c.stamp (suc k.through)) (is_seen k.seen c) x in
    let t : c.stamp ≡ suc k.through = eqb-true c.stamp (suc k.through) p.0 in
    ⊎_elim
    (λ (y : k.through < a.through). or_left (leb c.stamp a.through) (eqb c.stamp (suc a.through) && is_seen a.seen c) (le-leb c.stamp a.through (omega arith)))
    (λ y.
    let n = from_named k.seen c p.1 in
    or_right (leb c.stamp a.through) (eqb c.stamp (suc a.through) && is_seen a.seen c)
    (and_from (eqb c.stamp (suc a.through)) (is_seen a.seen c) (eq-eqb c.stamp (suc a.through) (omega (arith, t, y.0))) (in_named a.seen c n.0 (y.1 n.0 n.1) n.2 n.3)))
    v)
    (or_cases (leb c.stamp k.through) (eqb c.stamp (suc k.through) && is_seen k.seen c) h)
