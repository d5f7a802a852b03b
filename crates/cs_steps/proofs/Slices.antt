-- The records of a span of time are a slice of all records.
use Rattle.std.proofs.Common.{◌≡◌, ℕ, zero, suc, ◌+◌, ◌-◌, ◌<◌, ◌≤◌, Bool, true, false, cond, nat_le, nat_lt, List, [], ◌∷◌, ◌++◌, length, get_or, take, drop, filter, ⊎_elim, refl, sym, ap, ◌∙◌, arith}
use Rattle.std.specs.Int.{is_in_range}
use Rattle.std.proofs.lemmas.Bool.{le-leb, lt-leb, ltb-true, ltb-false, and_from, and_left, and_right, cases_lt}
use Rattle.std.proofs.lemmas.List.{get_or-map, length-map}
use Rattle.cs_records.specs.declared.records.DataRecord.{DataRecord}
use Rattle.cs_link.specs.declared.reading.Closing.{Closing}
use Rattle.cs_link.specs.declared.reading.Step.{Step}
use Rattle.cs_steps.specs.declared.places.RecordPlace.{RecordPlace}
use Rattle.cs_steps.specs.Steps.{between, cut_off}
use Rattle.cs_steps.specs.Cursor.{until_cut, HaveStamps}
use Rattle.cs_steps.proofs.CursorSteps.{some_at}

-- ---- the two ways to say that an answer is cut

short : (most : ℕ) (xs rest : List Step) → length xs ≤ most → until_cut most xs rest ≡ xs ++ rest
short most [] rest h = refl
short zero (x ∷ xs) rest h = absurd (omega arith)
short (suc most) (x ∷ xs) rest h = ap (λ l. x ∷ l) (short most xs rest (omega arith))

long : (most : ℕ) (xs rest : List Step) → most < length xs → until_cut most xs rest ≡ take most xs ++ Step.Closing Closing.Cut ∷ []
long most [] rest h = absurd (omega arith)
long zero (x ∷ xs) rest h = refl
long (suc most) (x ∷ xs) rest h = ap (λ l. x ∷ l) (long most xs rest (omega arith))

pub same_cut : (most : ℕ) (xs rest : List Step) → until_cut most xs rest ≡ cut_off most xs rest
same_cut most xs rest = by (nat_lt most (length xs)) refl
  where
    by : (b : Bool) → nat_lt most (length xs) ≡ b → until_cut most xs rest ≡ cond b (take most xs ++ Step.Closing Closing.Cut ∷ []) (xs ++ rest)
    by true h = long most xs rest (ltb-true most (length xs) h)
    by false h = short most xs rest (ltb-false most (length xs) h)

-- ---- a slice

-- a test that passes just the elements of a slice
pub record PassesSlice {A : Type 0} (p : A → Bool) (xs : List A) (low n : ℕ) : Type 0 where
  pub under : (k : ℕ) (d : A) → k < length xs → k < low → p (get_or xs k d) ≡ false
  pub inside : (k : ℕ) (d : A) → k < length xs → low ≤ k → k < low + n → p (get_or xs k d) ≡ true
  pub over : (k : ℕ) (d : A) → k < length xs → low + n ≤ k → p (get_or xs k d) ≡ false

module _ {A : Type 0} (p : A → Bool) where
  keep : (x : A) (xs : List A) → p x ≡ true → filter p (x ∷ xs) ≡ x ∷ filter p xs
  keep x xs h = ap (λ b. cond b (x ∷ filter p xs) (filter p xs)) h

  leave : (x : A) (xs : List A) → p x ≡ false → filter p (x ∷ xs) ≡ filter p xs
  leave x xs h = ap (λ b. cond b (x ∷ filter p xs) (filter p xs)) h

  nothing : (low n : ℕ) → ◌≡◌ {A = List A} (take n (drop low [])) []
  nothing zero zero = refl
  nothing zero (suc n) = refl
  nothing (suc low) zero = refl
  nothing (suc low) (suc n) = refl

  pub sliced : (xs : List A) (low n : ℕ) → PassesSlice p xs low n → filter p xs ≡ take n (drop low xs)
  sliced [] low n h = sym (nothing low n)
  sliced (x ∷ xs) zero zero h =
      leave x xs (h.over 0 x (omega arith) (omega arith))
      ∙ sliced xs zero zero (record { under = λ k d lt l. absurd (omega arith); inside = λ k d lt l m. absurd (omega arith); over = λ k d lt l. h.over (suc k) d (omega arith) (omega arith) })
  sliced (x ∷ xs) zero (suc n) h =
      keep x xs (h.inside 0 x (omega arith) (omega arith) (omega arith))
      ∙ ap (λ l. x ∷ l) (sliced xs zero n (record { under = λ k d lt l. absurd (omega arith); inside = λ k d lt l m. h.inside (suc k) d (omega arith) (omega arith) (omega arith); over = λ k d lt l. h.over (suc k) d (omega arith) (omega arith) }))
  sliced (x ∷ xs) (suc low) n h =
      leave x xs (h.under 0 x (omega arith) (omega arith))
      ∙ sliced xs low n (record { under = λ k d lt l. h.under (suc k) d (omega arith) (omega arith); inside = λ k d lt l m. h.inside (suc k) d (omega arith) (omega arith) (omega arith); over = λ k d lt l. h.over (suc k) d (omega arith) (omega arith) })

-- ---- the records of a span

module _ (places : List RecordPlace) (records : List DataRecord) (stamps : HaveStamps places records) where
  pub same_length : length places ≡ length records
  same_length = sym (length-map places (λ (p : RecordPlace). p.stamp)) ∙ ap length stamps ∙ length-map records (λ (d : DataRecord). d.stamp)

  same_stamp : (k : ℕ) (d : DataRecord) → k < length records → (p : RecordPlace) × ((get_or records k d).stamp ≡ (get_or places k p).stamp)
  same_stamp k d lt =
      let inside : k < length places = omega (arith, same_length) in
      let p = some_at places k inside in
      (p.0, sym (get_or-map (λ (x : DataRecord). x.stamp) records k d 0 lt) ∙ ap (λ (l : List ℕ). get_or l k 0) (sym stamps) ∙ get_or-map (λ (x : RecordPlace). x.stamp) places k p.0 0 inside)

  module _ (r top next end : ℕ) (window : r ≤ top)
      (in_next : next ≤ length places) (below_next : (k : ℕ) (d : RecordPlace) → k < next → (get_or places k d).stamp < r) (above_next : (k : ℕ) (d : RecordPlace) → next ≤ k → k < length places → r ≤ (get_or places k d).stamp)
      (in_end : end ≤ length places) (below_end : (k : ℕ) (d : RecordPlace) → k < end → (get_or places k d).stamp < suc top) (above_end : (k : ℕ) (d : RecordPlace) → end ≤ k → k < length places → suc top ≤ (get_or places k d).stamp) where
    pub in_order : next ≤ end
    in_order = ⊎_elim
        (λ (h : end < next).
        let p = some_at places end (omega arith) in
        let a = below_next end p.0 h in
        let b = above_end end p.0 (omega arith) (omega arith) in
        absurd (omega (arith, a, b)))
        (λ (h : next ≤ end). h)
        (cases_lt end next)

    pub span_is : between r top records ≡ take (end - next) (drop next records)
    span_is = sliced (λ d. is_in_range r top d.stamp) records next (end - next) (record {
      under = λ k d lt l. let s = same_stamp k d lt in let h = below_next k s.0 l in and_left (nat_le r (get_or records k d).stamp) (nat_le (get_or records k d).stamp top) (lt-leb r (get_or records k d).stamp (omega (arith, s.1, h)));
      inside = λ k d lt l m.
          let s = same_stamp k d lt in
          let a = above_next k s.0 l (omega (arith, same_length)) in
          let b = below_end k s.0 (omega (arith, in_order)) in
          and_from (nat_le r (get_or records k d).stamp) (nat_le (get_or records k d).stamp top) (le-leb r (get_or records k d).stamp (omega (arith, s.1, a))) (le-leb (get_or records k d).stamp top (omega (arith, s.1, b)));
      over = λ k d lt l. let s = same_stamp k d lt in let h = above_end k s.0 (omega (arith, in_order)) (omega (arith, same_length)) in and_right (nat_le r (get_or records k d).stamp) (nat_le (get_or records k d).stamp top) (lt-leb (get_or records k d).stamp top (omega (arith, s.1, h)));
    })
