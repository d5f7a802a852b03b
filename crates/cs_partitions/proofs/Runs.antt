-- Parts each of which begins where the one before ends have each place between their ends once.
use Rattle.std.proofs.Common.{◌≡◌, ◌⊎◌, ℕ, suc, Bool, true, false, ◌&&◌, List, [], ◌∷◌, Option, Some, None, inl, inr, ⊎_elim, sym, refl, ap, ◌∙◌, subst, true≢false, Contains, length, arith}
use Rattle.std.specs.List.{AllPairs}
use Rattle.cs_types.specs.Members.{in_nil, in_head, in_tail, in_cons}
use Rattle.cs_place.specs.declared.place.Place.{Place}
use Rattle.cs_place.specs.declared.part.Range.{Range}
use Rattle.cs_place.specs.declared.part.Part.{Part}
use Rattle.cs_place.specs.Held.{below_high_is}
use Rattle.cs_place.specs.Part.{is_below, IsBelowHigh, IsInRange, is_below_high}
use Rattle.cs_partitions.specs.Reshape.{joined_range, last_high, ranges_between, follower, followers, parents_of}
use Rattle.cs_partitions.specs.Fault.{goes_on, go_on, are_neighbours, divides, all_divide, rise_from, are_rising}
use Rattle.cs_partitions.specs.Layout.{IsLower}
use Rattle.cs_partitions.proofs.Pairs.{pairs_cons}
use Rattle.cs_partitions.proofs.Order.{is_equal, same_place, below_not_itself, below_not_above, then_from, from_from, below_high}
use Rattle.std.proofs.lemmas.Map.Lookups.{exact_bytes}

pub both : (a b : Bool) → (a && b) ≡ true → (a ≡ true) × (b ≡ true)
both true b h = (refl, h)
both false b h = absurd (true≢false (sym h))

-- a part has a place
abbrev pub HasPlace : Part → Type 0
HasPlace p = IsBelowHigh p.range.low p.range.high

-- p and those behind it, each of which begins where the one before ends; the last ends at this end
abbrev pub RunFrom : Part → List Part → Option Place → Type 0
RunFrom p [] high = HasPlace p × (p.range.high ≡ high)
RunFrom p (q ∷ ps) high = HasPlace p × (p.range.high ≡ Some q.range.low) × RunFrom q ps high

-- the first begins at this low
abbrev pub Runs : Place → List Part → Option Place → Type 0
Runs low [] high = ⊥
Runs low (p ∷ ps) high = (p.range.low ≡ low) × RunFrom p ps high

pub run_first : (p : Part) (ps : List Part) (high : Option Place) → RunFrom p ps high → IsBelowHigh p.range.low high
run_first p [] high r = subst (λ o. IsBelowHigh p.range.low o) r.1 r.0
run_first p (q ∷ ps) high r =
    let below : is_below p.range.low q.range.low ≡ true = subst (λ o. IsBelowHigh p.range.low o) r.1 r.0 in
    below_high p.range.low q.range.low high below (run_first q ps high r.2)

run_in : (p : Part) (ps : List Part) (high : Option Place) → RunFrom p ps high → (x : Place) → is_below x p.range.low ≡ false → IsBelowHigh x high → (q : Part) × Contains (p ∷ ps) q × IsInRange q.range x
run_in p [] high r x from to = (p, in_head p [], (from, subst (λ o. IsBelowHigh x o) (sym r.1) to))
run_in p (q ∷ ps) high r x from to = by (is_below x q.range.low) refl (λ e. run_in q ps high r.2 x e to)
  where
    by : (b : Bool) → is_below x q.range.low ≡ b → (is_below x q.range.low ≡ false → (s : Part) × Contains (q ∷ ps) s × IsInRange s.range x) → (s : Part) × Contains (p ∷ q ∷ ps) s × IsInRange s.range x
    by true e f = (p, in_head p (q ∷ ps), (from, subst (λ o. IsBelowHigh x o) (sym r.1) e))
    by false e f = let s = f e in (s.0, in_tail p s.0 (q ∷ ps) s.1, s.2)

pub run_low : (p : Part) (ps : List Part) (high : Option Place) → RunFrom p ps high → (s : Part) → Contains (p ∷ ps) s → is_below s.range.low p.range.low ≡ false
run_low p [] high r s i =
    ⊎_elim
    (λ (e : s ≡ p). subst (λ (z : Part). is_below z.range.low p.range.low ≡ false) (sym e) (below_not_itself p.range.low))
    (λ (k : Contains [] s). absurd (in_nil s k))
    (in_cons p s [] i)
run_low p (q ∷ ps) high r s i =
    ⊎_elim
    (λ (e : s ≡ p). subst (λ (z : Part). is_below z.range.low p.range.low ≡ false) (sym e) (below_not_itself p.range.low))
    (λ (k : Contains (q ∷ ps) s). below_not_above p.range.low s.range.low (then_from p.range.low q.range.low s.range.low (subst (λ o. IsBelowHigh p.range.low o) r.1 r.0) (run_low q ps high r.2 s k)))
    (in_cons p s (q ∷ ps) i)

run_out : (p : Part) (ps : List Part) (high : Option Place) → RunFrom p ps high → (s : Part) → Contains (p ∷ ps) s → (x : Place) → IsInRange s.range x → IsBelowHigh x high
run_out p [] high r s i x k =
    ⊎_elim
    (λ (e : s ≡ p). subst (λ o. IsBelowHigh x o) (ap (λ (z : Part). z.range.high) e ∙ r.1) k.1)
    (λ (j : Contains [] s). absurd (in_nil s j))
    (in_cons p s [] i)
run_out p (q ∷ ps) high r s i x k =
    ⊎_elim
    (λ (e : s ≡ p). below_high x q.range.low high (subst (λ o. IsBelowHigh x o) (ap (λ (z : Part). z.range.high) e ∙ r.1) k.1) (run_first q ps high r.2))
    (λ (j : Contains (q ∷ ps) s). run_out q ps high r.2 s j x k)
    (in_cons p s (q ∷ ps) i)

-- a place of the first is none of a later one
run_apart : (p q : Part) (ps : List Part) (high : Option Place) → RunFrom p (q ∷ ps) high → (s : Part) → Contains (q ∷ ps) s → (x : Place) → IsInRange p.range x → IsInRange s.range x → ⊥
run_apart p q ps high r s i x k j =
    let below : is_below x q.range.low ≡ true = subst (λ o. IsBelowHigh x o) r.1 k.1 in
    true≢false (sym (then_from x q.range.low s.range.low below (run_low q ps high r.2 s i)) ∙ j.0)

run_one : (p : Part) (ps : List Part) (high : Option Place) → RunFrom p ps high → (s t : Part) → Contains (p ∷ ps) s → Contains (p ∷ ps) t → (x : Place) → IsInRange s.range x → IsInRange t.range x → s ≡ t
run_one p [] high r s t i j x k m = by (in_cons p s [] i) (in_cons p t [] j)
  where
    by : (s ≡ p) ⊎ Contains [] s → (t ≡ p) ⊎ Contains [] t → s ≡ t
    by (inl e) (inl f) = e ∙ sym f
    by (inr n) b = absurd (in_nil s n)
    by a (inr n) = absurd (in_nil t n)
run_one p (q ∷ ps) high r s t i j x k m = by (in_cons p s (q ∷ ps) i) (in_cons p t (q ∷ ps) j) (λ n o. run_one q ps high r.2 s t n o x k m)
  where
    by : (s ≡ p) ⊎ Contains (q ∷ ps) s → (t ≡ p) ⊎ Contains (q ∷ ps) t → (Contains (q ∷ ps) s → Contains (q ∷ ps) t → s ≡ t) → s ≡ t
    by (inl e) (inl f) g = e ∙ sym f
    by (inl e) (inr n) g = absurd (run_apart p q ps high r t n x (subst (λ (z : Part). IsInRange z.range x) e k) m)
    by (inr n) (inl f) g = absurd (run_apart p q ps high r s n x (subst (λ (z : Part). IsInRange z.range x) f m) k)
    by (inr n) (inr o) g = g n o

-- the same of a list of parts

pub runs_in : (low : Place) (ps : List Part) (high : Option Place) → Runs low ps high → (x : Place) → IsInRange (record { low = low; high = high }) x → (q : Part) × Contains ps q × IsInRange q.range x
runs_in low [] high r x k = absurd r
runs_in low (p ∷ ps) high r x k = run_in p ps high r.1 x (subst (λ z. is_below x z ≡ false) (sym r.0) k.0) k.1

pub runs_out : (low : Place) (ps : List Part) (high : Option Place) → Runs low ps high → (s : Part) → Contains ps s → (x : Place) → IsInRange s.range x → IsInRange (record { low = low; high = high }) x
runs_out low [] high r s i x k = absurd r
runs_out low (p ∷ ps) high r s i x k = (
  subst (λ z. is_below x z ≡ false) r.0 (from_from p.range.low s.range.low x (run_low p ps high r.1 s i) k.0),
  run_out p ps high r.1 s i x k,
)

pub runs_one : (low : Place) (ps : List Part) (high : Option Place) → Runs low ps high → (s t : Part) → Contains ps s → Contains ps t → (x : Place) → IsInRange s.range x → IsInRange t.range x → s ≡ t
runs_one low [] high r s t i j x k m = absurd r
runs_one low (p ∷ ps) high r s t i j x k m = run_one p ps high r.1 s t i j x k m

pub runs_have : (low : Place) (ps : List Part) (high : Option Place) → Runs low ps high → (s : Part) → Contains ps s → HasPlace s
runs_have low [] high r s i = absurd r
runs_have low (p ∷ ps) high r s i = each p ps r.1 i
  where
    each : (p : Part) (ps : List Part) → RunFrom p ps high → Contains (p ∷ ps) s → HasPlace s
    each p [] r i =
        ⊎_elim
        (λ (e : s ≡ p). subst (λ (z : Part). HasPlace z) (sym e) r.0)
        (λ (k : Contains [] s). absurd (in_nil s k))
        (in_cons p s [] i)
    each p (q ∷ ps) r i =
        ⊎_elim
        (λ (e : s ≡ p). subst (λ (z : Part). HasPlace z) (sym e) r.0)
        (λ (k : Contains (q ∷ ps) s). each q ps r.2 k)
        (in_cons p s (q ∷ ps) i)

pub runs_first : (low : Place) (ps : List Part) (high : Option Place) → Runs low ps high → IsBelowHigh low high
runs_first low [] high r = absurd r
runs_first low (p ∷ ps) high r = subst (λ z. IsBelowHigh z high) r.0 (run_first p ps high r.1)

-- and they rise

rises_from : (p : Part) (ps : List Part) (high : Option Place) → RunFrom p ps high → AllPairs IsLower (p ∷ ps)
rises_from p [] high r = λ i j d l m. absurd (omega (arith, l, m))
rises_from p (q ∷ ps) high r =
    pairs_cons IsLower p (q ∷ ps) (λ s i. then_from p.range.low q.range.low s.range.low (subst (λ o. IsBelowHigh p.range.low o) r.1 r.0) (run_low q ps high r.2 s i)) (rises_from q ps high r.2)

pub runs_rise : (low : Place) (ps : List Part) (high : Option Place) → Runs low ps high → AllPairs IsLower ps
runs_rise low [] high r = absurd r
runs_rise low (p ∷ ps) high r = rises_from p ps high r.1

-- neighbours are such parts

goes_on_is : (high : Option Place) (low : Place) → goes_on high low ≡ true → high ≡ Some low
goes_on_is None low h = absurd (true≢false (sym h))
goes_on_is (Some high) low h = ap Some (same_place high low (exact_bytes high.bytes low.bytes (is_equal _ h)))

neighbours_from : (p : Part) (ps : List Part) → go_on p.range.high ps ≡ true → ((q : Part) → Contains (p ∷ ps) q → HasPlace q) → RunFrom p ps (last_high p.range.high ps)
neighbours_from p [] h has = (has p (in_head p []), refl)
neighbours_from p (q ∷ ps) h has =
    let h2 = both (goes_on p.range.high q.range.low) (go_on q.range.high ps) h in
    (has p (in_head p (q ∷ ps)), goes_on_is p.range.high q.range.low h2.0, neighbours_from q ps h2.1 (λ s i. has s (in_tail p s (q ∷ ps) i)))

pub neighbours_run : (ps : List Part) → are_neighbours ps ≡ true → ((q : Part) → Contains ps q → HasPlace q) → Runs (joined_range ps).low ps (joined_range ps).high
neighbours_run [] h has = absurd (true≢false (sym h))
neighbours_run (p ∷ ps) h has = (refl, neighbours_from p ps h has)

-- and so are the parts between borders

run_cons : (p : Part) (ps : List Part) (b : Place) (high : Option Place) → HasPlace p → p.range.high ≡ Some b → Runs b ps high → RunFrom p ps high
run_cons p [] b high has e r = absurd r
run_cons p (q ∷ ps) b high has e r = (has, e ∙ ap Some (sym r.0), r.1)

module _ (stream : List ℕ) (at : ℕ) (named : List Part) (high : Option Place) where
  between_run : (n : ℕ) (low : Place) (borders : List Place) → IsBelowHigh low high → rise_from low borders ≡ true → ((b : Place) → Contains borders b → IsBelowHigh b high) → Runs low (followers stream at named n (ranges_between low borders high)) high
  between_run n low [] first rise below = (refl, (first, refl))
  between_run n low (b ∷ bs) first rise below =
      let r = both (is_below low b) (rise_from b bs) rise in (
        refl,
        run_cons (follower stream at named n (record { low = low; high = Some b })) (followers stream at named (suc n) (ranges_between b bs high)) b high r.0 refl
            (between_run (suc n) b bs (below b (in_head b bs)) r.1 (λ c i. below c (in_tail b c bs i))),
      )

  inside_below : (low : Place) (borders : List Place) → all_divide (record { low = low; high = high }) borders ≡ true → (b : Place) → Contains borders b → (is_below low b ≡ true) × IsBelowHigh b high
  inside_below low [] h b i = absurd (in_nil b i)
  inside_below low (c ∷ cs) h b i =
      let h2 = both (divides (record { low = low; high = high }) c) (all_divide (record { low = low; high = high }) cs) h in
      let h3 = both (is_below low c) (is_below_high c high) h2.0 in
      ⊎_elim
      (λ (e : b ≡ c). subst (λ z. (is_below low z ≡ true) × IsBelowHigh z high) (sym e) (h3.0, (below_high_is c high).0 h3.1))
      (λ (k : Contains cs b). inside_below low cs h2.1 b k)
      (in_cons c b cs i)

  rising_from : (low : Place) (borders : List Place) → all_divide (record { low = low; high = high }) borders ≡ true → are_rising borders ≡ true → rise_from low borders ≡ true
  rising_from low [] h r = refl
  rising_from low (b ∷ bs) h r =
      let first : is_below low b ≡ true = (inside_below low (b ∷ bs) h b (in_head b bs)).0 in
      ap (λ t. t && rise_from b bs) first ∙ r

  pub followers_run : (n : ℕ) (low : Place) (borders : List Place) → IsBelowHigh low high → all_divide (record { low = low; high = high }) borders ≡ true → are_rising borders ≡ true → Runs low (followers stream at named n (ranges_between low borders high)) high
  followers_run n low borders first inside rising = between_run n low borders first (rising_from low borders inside rising) (λ b i. (inside_below low borders inside b i).1)

-- what each of the new parts is
pub record IsFollower (at : ℕ) (named : List Part) (p : Part) : Type 0 where
  pub from : p.from ≡ at
  pub until : p.until ≡ None
  pub parents : p.parents ≡ parents_of p.range named

pub followers_are : (stream : List ℕ) (at : ℕ) (named : List Part) (n : ℕ) (rs : List Range) (p : Part) → Contains (followers stream at named n rs) p → IsFollower at named p
followers_are stream at named n [] p i = absurd (in_nil p i)
followers_are stream at named n (r ∷ rs) p i =
    ⊎_elim
    (λ (e : p ≡ follower stream at named n r). subst (λ z. IsFollower at named z) (sym e) (record { from = refl; until = refl; parents = refl }))
    (λ (k : Contains (followers stream at named (suc n) rs) p). followers_are stream at named (suc n) rs p k)
    (in_cons (follower stream at named n r) p (followers stream at named (suc n) rs) i)

pub length_followers : (stream : List ℕ) (at : ℕ) (named : List Part) (n : ℕ) (rs : List Range) → length (followers stream at named n rs) ≡ length rs
length_followers stream at named n [] = refl
length_followers stream at named n (r ∷ rs) = ap suc (length_followers stream at named (suc n) rs)

pub length_between : (low : Place) (borders : List Place) (high : Option Place) → length (ranges_between low borders high) ≡ suc (length borders)
length_between low [] high = refl
length_between low (b ∷ bs) high = ap suc (length_between b bs high)
