-- The row that is read next was tried no more often than any other that may be read, and what a lease leaves of the tries.
use Rattle.std.proofs.Common.{◌≡◌, ◌⊎◌, ℕ, zero, suc, ◌+◌, ◌-◌, ◌%◌, ◌<◌, ◌≤◌, min, Bool, true, false, cond, List, [], ◌∷◌, length, map, filter, get_or, Option, Some, None, ⊎_elim, inl, inr, sym, refl, ap, ◌∙◌, subst, arith, Contains, eqb}
use Rattle.std.proofs.lemmas.Bool.{and_parts, eqb-true}
use Rattle.cs_types.specs.Members.{in_nil, in_head, in_tail, in_cons, in_filter, in_map}
use Rattle.cs_schedule.specs.declared.row.Row.{Row}
use Rattle.cs_schedule.specs.Board.{IsOrdered, leased, changed_at, may_read, least_behind, fewest_tries, is_chosen, places, element, turn, ready_with, ready_place, MayReadIsReady}
use Rattle.cs_schedule.specs.Consistent.{IsReady}
use Rattle.cs_book.specs.declared.claim.Claim.{Claim}
use Rattle.cs_book.specs.declared.claim.Claim.TheVariants as claims
use Rattle.cs_book.specs.declared.lease.Lease.{Lease}
use Rattle.cs_book.specs.Book.{BookState}
use Rattle.cs_book.specs.Claim.{IsNext, IsLeasedRow}
use Rattle.cs_book.specs.Waiting.{AreFree}
use Rattle.cs_follow.specs.Pauses.{was_tried, count_tried, AreUpTo, IsGettingOn, IsFewest}
use Rattle.cs_follow.specs.Turn.{IsIdle}
use Rattle.cs_follow.proofs.AtRest.{leased_from, at_place}
use Rattle.cs_follow.proofs.KeptRows.{same_row}

-- ---- the row whose turn it is

in_places : (test : Row → Bool) (n : ℕ) (rows : List Row) (k : ℕ) → Contains (places test n rows) k → (n ≤ k) × ((d : Row) → test (get_or rows (k - n) d) ≡ true)
in_places test n [] k i = absurd (in_nil k i)
in_places test n (r ∷ rows) k i = by (test r) refl i (in_places test (suc n) rows k)
  where
    later : (suc n ≤ k) × ((d : Row) → test (get_or rows (k - suc n) d) ≡ true) → (n ≤ k) × ((d : Row) → test (get_or (r ∷ rows) (k - n) d) ≡ true)
    later u =
        let one : k - n ≡ suc (k - suc n) = omega (arith, u.0) in
        (omega (arith, u.0), λ d. ap (λ j. test (get_or (r ∷ rows) j d)) one ∙ u.1 d)

    by : (b : Bool) → test r ≡ b → Contains (cond b (n ∷ places test (suc n) rows) (places test (suc n) rows)) k → (Contains (places test (suc n) rows) k → (suc n ≤ k) × ((d : Row) → test (get_or rows (k - suc n) d) ≡ true)) → (n ≤ k) × ((d : Row) → test (get_or (r ∷ rows) (k - n) d) ≡ true)
    by true q j f =
        ⊎_elim
        (λ (e : k ≡ n). let none : k - n ≡ 0 = omega (arith, e) in (omega (arith, e), λ d. ap (λ j. test (get_or (r ∷ rows) j d)) none ∙ q))
        (λ (l : Contains (places test (suc n) rows) k). later (f l))
        (in_cons n k (places test (suc n) rows) j)
    by false q j f = later (f j)

element_in : (xs : List ℕ) (k x : ℕ) → element xs k ≡ Some x → Contains xs x
element_in [] k x h = absurd cc
element_in (y ∷ xs) k x h = by (eqb k 0) h (element_in xs (k - 1) x)
  where
    by : (b : Bool) → cond b (Some y) (element xs (k - 1)) ≡ Some x → (element xs (k - 1) ≡ Some x → Contains xs x) → Contains (y ∷ xs) x
    by true g f = let same : x ≡ y = cc in subst (λ z. Contains (y ∷ xs) z) (sym same) (in_head y xs)
    by false g f = in_tail y x xs (f g)

turn_in : (xs : List ℕ) (order x : ℕ) → turn xs order ≡ Some x → Contains xs x
turn_in [] order x h = absurd cc
turn_in (y ∷ xs) order x h = element_in (y ∷ xs) (order % length (y ∷ xs)) x h

-- the least is not above any
least_below : (best n : ℕ) (ns : List ℕ) → least_behind (Some best) ns ≡ Some n → (n ≤ best) × ((m : ℕ) → Contains ns m → n ≤ m)
least_below best n [] h = let same : best ≡ n = cc in (omega (arith, same), λ m i. absurd (in_nil m i))
least_below best n (k ∷ ns) h =
    let u = least_below (min best k) n ns h in
    let low = u.0 in (
      omega (arith, low),
      λ m i. ⊎_elim (λ (e : m ≡ k). omega (arith, low, e)) (λ (j : Contains ns m). u.1 m j) (in_cons k m ns i),
    )

least_of_all : (n : ℕ) (ns : List ℕ) → least_behind None ns ≡ Some n → (m : ℕ) → Contains ns m → n ≤ m
least_of_all n [] h m i = absurd (in_nil m i)
least_of_all n (k ∷ ns) h m i =
    let u = least_below k n ns h in
    let low = u.0 in
    ⊎_elim (λ (e : m ≡ k). omega (arith, low, e)) (λ (j : Contains ns m). u.1 m j) (in_cons k m ns i)

-- the row at the place that is ready has the fewest tries
fewest : (rows : List Row) (order place : ℕ) → ready_place rows order ≡ Some place → (r : Row) → get_or rows place r ≡ r → (y : Row) → Contains rows y → may_read rows y ≡ true → r.tries ≤ y.tries
fewest rows order place ready r at y i may = by (fewest_tries rows rows) refl ready
  where
    by : (o : Option ℕ) → fewest_tries rows rows ≡ o → ready_with rows o order ≡ Some place → r.tries ≤ y.tries
    by None q h = absurd cc
    by (Some n) q h =
        let u = in_places (is_chosen rows n) 0 rows place (turn_in (places (is_chosen rows n) 0 rows) order place h) in
        let here : place - 0 ≡ place = omega arith in
        let chosen : is_chosen rows n r ≡ true = sym (ap (is_chosen rows n) (ap (λ k. get_or rows k r) here ∙ at)) ∙ u.1 r in
        let tries : r.tries ≡ n = eqb-true r.tries n (and_parts (may_read rows r) (eqb r.tries n) chosen).1 in
        let least = least_of_all n (map (λ (z : Row). z.tries) (filter (may_read rows) rows)) q y.tries (in_map (λ (z : Row). z.tries) y (filter (may_read rows) rows) (in_filter (may_read rows) y rows i may)) in
        omega (arith, tries, least)

-- ---- what a lease leaves

leased_none : (i : ℕ) (rows : List Row) → changed_at leased i rows ≡ [] → rows ≡ []
leased_none i [] h = refl
leased_none zero (r ∷ rows) h = absurd cc
leased_none (suc i) (r ∷ rows) h = absurd cc

leased_tried : (i : ℕ) (rows : List Row) → count_tried (changed_at leased i rows) ≡ count_tried rows
leased_tried i [] = refl
leased_tried zero (r ∷ rows) = refl
leased_tried (suc i) (r ∷ rows) = ap (λ n. was_tried r + n) (leased_tried i rows)

module _ (rows : List Row) (place : ℕ) (r : Row) (inside : place < length rows) (at : get_or rows place r ≡ r) where
  -- each row of them is one of before, as it was or leased
  was : (y : Row) → Contains (changed_at leased place rows) y → (z : Row) × Contains rows z × ((y ≡ z) ⊎ ((z ≡ r) × (y ≡ leased z)))
  was y i = ⊎_elim
      (λ (h : Contains rows y). (y, h, inl refl))
      (λ (h : (x : Row) × (get_or rows place x ≡ x) × (y ≡ leased x)).
      let same : h.0 ≡ r = sym h.1 ∙ at_place rows place h.0 r inside ∙ at in
      (h.0, (place, inside, h.1), inr (same, h.2)))
      (leased_from place rows y i)

  -- what is said of a row, whoever reads it
  module _ (P : Row → Type 0) (any : (z : Row) → P z → P (leased z)) where
    still : ((z : Row) → Contains rows z → P z) → (y : Row) → Contains (changed_at leased place rows) y → P y
    still all y i =
        let w = was y i in
        ⊎_elim
        (λ (e : y ≡ w.0). subst P (sym e) (all w.0 w.1))
        (λ (e : (w.0 ≡ r) × (y ≡ leased w.0)). subst P (sym e.1) (any w.0 (all w.0 w.1)))
        w.2

  pub still_getting_on : (moment count : ℕ) → IsGettingOn moment count rows → IsGettingOn moment count (changed_at leased place rows)
  still_getting_on moment count G = record {
    reach = still (λ (z : Row). 1 ≤ z.tries → moment ≤ z.through) (λ z h. h) G.reach;
    enough = ⊎_elim
        (λ (U : AreUpTo moment rows). inl (record { some = λ none. U.some (leased_none place rows none); each = still (λ (z : Row). z.finished ≡ false → moment ≤ z.through) (λ z h. h) U.each }))
        (λ (k : count ≤ count_tried rows). let same = leased_tried place rows in inr (omega (arith, k, same)))
        G.enough;
  }

  -- a row of before with the same parents and tries
  abbrev IsAs : Row → Row → Type 0
  IsAs y z = (y.token ≡ z.token) × (y.parents ≡ z.parents) × (y.finished ≡ z.finished) × (y.tries ≡ z.tries)

  as_before : (y : Row) → Contains (changed_at leased place rows) y → (z : Row) × Contains rows z × IsAs y z
  as_before y i =
      let w = was y i in
      ⊎_elim
      (λ (e : y ≡ w.0). (w.0, w.1, (ap (λ (z : Row). z.token) e, ap (λ (z : Row). z.parents) e, ap (λ (z : Row). z.finished) e, ap (λ (z : Row). z.tries) e)))
      (λ (e : (w.0 ≡ r) × (y ≡ leased w.0)). (w.0, w.1, (ap (λ (z : Row). z.token) e.1, ap (λ (z : Row). z.parents) e.1, ap (λ (z : Row). z.finished) e.1, ap (λ (z : Row). z.tries) e.1)))
      w.2

  ready_before : (y : Row) → IsReady (changed_at leased place rows) y → (z : Row) × IsReady rows z × (y.tries ≡ z.tries)
  ready_before y R =
      let v = as_before y R.there in (
        v.0,
        record {
          there = v.1;
          unfinished = sym v.2.2 ∙ R.unfinished;
          parents = λ t k.
              let h = R.parents t (subst (λ l. Contains l t) (sym v.2.1) k) in
              let u = as_before h.0 h.1 in
              (u.0, u.1, sym u.2.0 ∙ h.2, sym u.2.2 ∙ h.3);
        },
        v.2.3,
      )

  pub fewest_leased : MayReadIsReady → IsOrdered rows → AreFree rows → Contains rows r → (order : ℕ) → ready_place rows order ≡ Some place → IsFewest (Some r.token) (changed_at leased place rows)
  fewest_leased readiness O free there order ready t y token i its z R =
      let mine = as_before y i in
      let named : mine.0.token ≡ r.token = sym mine.2.0 ∙ its ∙ token_is token in
      let same : mine.0 ≡ r = same_row rows mine.0 r O mine.1 there named in
      let tries : y.tries ≡ r.tries = mine.2.3 ∙ ap (λ (x : Row). x.tries) same in
      let other = ready_before z R in
      let low = fewest rows order place ready r at other.0 other.1.there ((readiness rows other.0 O other.1.there).1 (other.1, free other.0 other.1.there)) in
      let alike = other.2 in
      omega (arith, tries, low, alike)
    where
      token_is : Some r.token ≡ Some t → t ≡ r.token
      token_is h = cc

-- ---- a row's claim

pub claimed : {J O : Type 0} (old new : BookState J O) (lease : Lease) (order : ℕ) (claim : Claim) → claim ≡ claims.Row lease → IsIdle old → IsOrdered old.board.rows → MayReadIsReady → IsNext old.board new.board old.is_opening order claim
    → IsFewest lease.args.token new.board.rows × ((moment count : ℕ) → IsGettingOn moment count old.board.rows → IsGettingOn moment count new.board.rows)
claimed old new lease order claim is I O readiness N = by (subst (IsNext old.board new.board old.is_opening order) is N)
  where
    by : IsNext old.board new.board old.is_opening order (claims.Row lease) → IsFewest lease.args.token new.board.rows × ((moment count : ℕ) → IsGettingOn moment count old.board.rows → IsGettingOn moment count new.board.rows)
    by M =
        let L : IsLeasedRow old.board M.0 new.board lease = M.2 in
        let token : lease.args.token ≡ Some L.row.token = ap (λ (l : Lease). l.args.token) L.its in (
          subst (λ t. IsFewest t new.board.rows) (sym token) (subst (λ l. IsFewest (Some L.row.token) l) (sym L.leased.1) (fewest_leased old.board.rows M.0 L.row L.inside L.at readiness O I.free L.ready.there order M.1)),
          λ moment count G. subst (IsGettingOn moment count) (sym L.leased.1) (still_getting_on old.board.rows M.0 L.row L.inside L.at moment count G),
        )
