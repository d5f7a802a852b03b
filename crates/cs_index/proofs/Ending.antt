-- The end of a transaction: the parts that have a record of it, in order of low, give their records the sequences that the definition gives them.
use Rattle.std.proofs.Common.{◌≡◌, ◌≢◌, ◌⊎◌, ⊎_elim, inl, inr, ℕ, zero, suc, ◌+◌, ◌<◌, ◌≤◌, Bool, true, false, List, [], ◌∷◌, ◌++◌, length, map, filter, sum_by, get_or, set, refl, sym, ap, ◌∙◌, subst, arith, append-nil, append_assoc, length-append, All, Contains, true≢false, nat_cmp, is_lt}
use Rattle.std.specs.Prelude.{⊤}
use Rattle.std.specs.Cmp.Lexicographic.{slice_cmp, nat_list_cmp_total}
use Rattle.std.specs.List.Sorted.{IsPermutation, IsSortedByKey}
use Rattle.std.proofs.lemmas.Bool.{cases_eq, ltb-false}
use Rattle.std.proofs.lemmas.Cmp.{tied_itself}
use Rattle.std.proofs.lemmas.Grind.{flat_map-append}
use Rattle.std.proofs.lemmas.List.{get_or_default, get_or-set_same, get_or-set_other, length-set, length-map, get_or-map, get_or_append_left, get_or_at, get_or-append-add}
use Rattle.std.proofs.lemmas.List.Elements.{All-head, All-tail}
use Rattle.std.proofs.lemmas.List.Sorted.{ranks_by, sorted_far, length_permutation, IsPermutation-map, IsPermutation-trans, Contains-permutation, All-permutation}
use Rattle.std.proofs.lemmas.List.Sums.{sum_by-cons, sum_by_push}
use Rattle.cs_types.specs.Members.{in_filter, from_map}
use Rattle.cs_place.specs.declared.part.Part.{Part}
use Rattle.cs_place.specs.Part.{is_below}
use Rattle.cs_records.specs.declared.captured.Captured.{Captured}
use Rattle.cs_steps.specs.Cursor.{IsAt}
use Rattle.cs_steps.specs.Cutting.{joined}
use Rattle.cs_steps.specs.Lines.{Line, IsLine, no_line, with_end, EndsWhole}
use Rattle.cs_steps.specs.Records.{Count, records_of, count_of, first_sequence}
use Rattle.cs_index.specs.declared.touched.Touched.{Touched}
use Rattle.cs_index.specs.Walk.{at_index, opened_by, ended_all, has_record, AreLines, AreTouched, AreEnded}
use Rattle.cs_index.proofs.Counts.{opened_count, quiet_end}
use Rattle.cs_index.proofs.Filters.{sum_same}
use Rattle.cs_index.proofs.Lows.{DoNotTie, IsBetween, all_of, first_is, rises}

abbrev pub parts_of : List Touched → List Part
parts_of ts = map (λ t. t.part.now) ts

-- no part is below itself
below_itself : (a : Part) → is_below a.range.low a.range.low ≡ true → ⊥
below_itself a h = true≢false (sym h ∙ ap is_lt (tied_itself nat_list_cmp_total a.range.low.bytes))

-- parts that stand sorted
sorted_parts : (order : List Touched) → IsSortedByKey (λ (t : Touched). t.part.now.range.low.bytes) (slice_cmp nat_cmp) order → (i j : ℕ) (e : Part) → i ≤ j → j < length (parts_of order) → is_below (get_or (parts_of order) j e).range.low (get_or (parts_of order) i e).range.low ≡ false
sorted_parts [] s i j e l m = absurd (omega arith)
sorted_parts (t ∷ ts) s i j e l m =
    let n : j < length (t ∷ ts) = omega (arith, m, length-map ts (λ (u : Touched). u.part.now)) in
    let h = sorted_far (λ (x y : Touched). is_lt (slice_cmp nat_cmp x.part.now.range.low.bytes y.part.now.range.low.bytes)) (ranks_by nat_list_cmp_total (λ (x : Touched). x.part.now.range.low.bytes)) (t ∷ ts) s i j t l n in
    let a : get_or (parts_of (t ∷ ts)) i e ≡ (get_or (t ∷ ts) i t).part.now = get_or-map (λ (u : Touched). u.part.now) (t ∷ ts) i t e (omega (arith, l, n)) in
    let b : get_or (parts_of (t ∷ ts)) j e ≡ (get_or (t ∷ ts) j t).part.now = get_or-map (λ (u : Touched). u.part.now) (t ∷ ts) j t e n in
    (λ k. is_below (b k).range.low (a k).range.low) ∙ h

module _ (parts : List Part) (now : List Captured) where
  abbrev R : Part → ℕ
  R = records_of now

  -- those that are left, behind these, rise
  abbrev Rising : List Part → List Touched → Type 0
  Rising front [] = ⊤
  Rising front (t ∷ ts) = IsBetween R parts front t.part.now (parts_of ts) × All (λ (u : Touched). is_below t.part.now.range.low u.part.now.range.low ≡ true) ts × Rising (front ++ t.part.now ∷ []) ts

  module _ (order : List Part) (same : IsPermutation (filter (has_record now) parts) order)
      (sorted : (i j : ℕ) (e : Part) → i ≤ j → j < length order → is_below (get_or order j e).range.low (get_or order i e).range.low ≡ false)
      (strict : (i j : ℕ) (e : Part) → i < j → j < length order → is_below (get_or order i e).range.low (get_or order j e).range.low ≡ true) where
    rising_from : (front : List Part) (back : List Touched) → order ≡ front ++ parts_of back → Rising front back
    rising_from front [] h = tt
    rising_from front (t ∷ ts) h =
        let p : Part = t.part.now in
        let size : length order ≡ length front + suc (length (parts_of ts)) = ap length h ∙ length-append front (p ∷ parts_of ts) in
        let mid : (e : Part) → get_or order (length front) e ≡ p = λ e. ap (λ l. get_or l (length front) e) h ∙ get_or_at front p (parts_of ts) e (length front) refl in
        let low : (k : ℕ) (e : Part) → k < length front → get_or order k e ≡ get_or front k e = λ k e l. ap (λ l. get_or l k e) h ∙ get_or_append_left front (p ∷ parts_of ts) e k l in
        let high : (k : ℕ) (e : Part) → get_or order (length front + k) e ≡ get_or (p ∷ parts_of ts) k e = λ k e. ap (λ l. get_or l (length front + k) e) h ∙ get_or-append-add front (p ∷ parts_of ts) k e in
        let between : IsBetween R parts front p (parts_of ts) = record {
          same = subst (IsPermutation (filter (has_record now) parts)) h same;
          below = λ k e l. (λ i. is_below (sym (low k e l) i).range.low (sym (mid e) i).range.low) ∙ strict k (length front) e l (omega (arith, size));
          above = λ k e l. (λ i. is_below (sym (high k e) i).range.low (sym (mid e) i).range.low) ∙ sorted (length front) (length front + k) e (omega arith) (omega (arith, size, l));
        } in
        let behind : All (λ (u : Touched). is_below p.range.low u.part.now.range.low ≡ true) ts = λ k d l.
        let m : k < length (parts_of ts) = omega (arith, l, length-map ts (λ (u : Touched). u.part.now)) in
        let at : get_or order (length front + suc k) p ≡ (get_or ts k d).part.now = high (suc k) p ∙ get_or-map (λ (u : Touched). u.part.now) ts k d p l in
        (λ i. is_below (sym (mid p) i).range.low (sym at i).range.low) ∙ strict (length front) (length front + suc k) p (omega arith) (omega (arith, size, m)) in
        (between, behind, rising_from (front ++ p ∷ []) ts (h ∙ sym (append_assoc front (p ∷ []) (parts_of ts))))

-- ---- the lines, part by part

module _ (ends : EndsWhole) (parts : List Part) (whole : List (List Captured)) (now : List Captured) where
  abbrev R' : Part → ℕ
  R' = records_of now

  abbrev count : Count
  count = count_of parts now

  abbrev Open : Part → Line → Type 0
  Open part line = IsLine parts part (joined whole ++ now) whole now line

  abbrev Ended : Part → Line → Type 0
  Ended part line = IsLine parts part (joined whole ++ now) (whole ++ now ∷ []) [] line

  abbrev Among : List Touched → ℕ → Type 0
  Among ts k = (t : Touched) × Contains ts t × (t.index ≡ k)

  abbrev State : List Touched → ℕ → Part → Line → Type 0
  State back k part line = (Ended part line × All (λ (t : Touched). is_below part.range.low t.part.now.range.low ≡ true) back) ⊎ (Open part line × (Among back k ⊎ (records_of now part ≡ 0)))

  abbrev AllAre : List Touched → List Line → Type 0
  AllAre back lines = (k : ℕ) (part : Part) (line : Line) → IsAt parts k part → IsAt lines k line → State back k part line

  last_step : (lines : List Line) → AllAre [] lines → (k : ℕ) (part : Part) (line : Line) → IsAt parts k part → IsAt lines k line → Ended part line
  last_step lines S k part line p l = ⊎_elim
      (λ (h : Ended part line × All (λ (t : Touched). is_below part.range.low t.part.now.range.low ≡ true) []). h.0)
      (λ (h : Open part line × (Among [] k ⊎ (records_of now part ≡ 0))). ⊎_elim
      (λ (a : Among [] k). absurd (none a.0 a.1))
      (λ (z : records_of now part ≡ 0). subst (Ended part) (quiet_end parts part (joined whole ++ now) whole now line h.0 z count (first_sequence parts now part)) (ends parts part whole now line h.0))
      h.1)
      (S k part line p l)
    where
      none : (t : Touched) → Contains [] t → ⊥
      none t (k, l, e) = omega arith

  module _ (t : Touched) (ts : List Touched) (lines : List Line) (sequence : ℕ) (size : length lines ≡ length parts) (at : IsAt parts t.index t.part.now) (S : AllAre (t ∷ ts) lines) where
    abbrev line_t : Line
    line_t = at_index lines t.index

    here : IsAt lines t.index line_t
    here = let l = at.0 in (omega (arith, l, size), get_or_default lines t.index line_t no_line (omega (arith, l, size)))

    open_t : Open t.part.now line_t
    open_t = ⊎_elim
        (λ (h : Ended t.part.now line_t × All (λ (u : Touched). is_below t.part.now.range.low u.part.now.range.low ≡ true) (t ∷ ts)). absurd (below_itself t.part.now (All-head (λ (u : Touched). is_below t.part.now.range.low u.part.now.range.low ≡ true) t ts h.1)))
        (λ (h : Open t.part.now line_t × (Among (t ∷ ts) t.index ⊎ (records_of now t.part.now ≡ 0))). h.0)
        (S t.index t.part.now line_t at here)

    pub opened_t : opened_by lines t ≡ records_of now t.part.now
    opened_t = opened_count parts t.part.now (joined whole ++ now) whole now line_t open_t

    module _ (first : first_sequence parts now t.part.now ≡ sequence) (behind : All (λ (u : Touched). is_below t.part.now.range.low u.part.now.range.low ≡ true) ts) where
      ended_t : Ended t.part.now (with_end line_t count sequence)
      ended_t = subst (λ n. Ended t.part.now (with_end line_t count n)) first (ends parts t.part.now whole now line_t open_t)

      abbrev lines' : List Line
      lines' = set lines t.index (with_end line_t count sequence)

      others : (k : ℕ) (part : Part) (line : Line) → k ≢ t.index → State (t ∷ ts) k part line → State ts k part line
      others k part line n s = ⊎_elim
          (λ (h : Ended part line × All (λ (u : Touched). is_below part.range.low u.part.now.range.low ≡ true) (t ∷ ts)). inl (h.0, All-tail (λ (u : Touched). is_below part.range.low u.part.now.range.low ≡ true) t ts h.1))
          (λ (h : Open part line × (Among (t ∷ ts) k ⊎ (records_of now part ≡ 0))). inr (h.0, ⊎_elim (λ (a : Among (t ∷ ts) k). inl (left a.0 a.1 a.2)) (λ (z : records_of now part ≡ 0). inr z) h.1))
          s
        where
          left : (u : Touched) → Contains (t ∷ ts) u → u.index ≡ k → Among ts k
          left u (zero, l, e) i = absurd (n (sym i ∙ ap (λ (v : Touched). v.index) (sym e)))
          left u (suc j, l, e) i = (u, (j, omega arith, e), i)

      pub all_more : AllAre ts lines'
      all_more k part line p l = by (cases_eq k t.index)
        where
          by : (k ≡ t.index) ⊎ (k ≢ t.index) → State ts k part line
          by (inl e) =
              let same : part ≡ t.part.now =
              sym p.1 ∙ ap (λ n. get_or parts n part) e ∙ get_or_default parts t.index part t.part.now at.0 ∙ at.1 in
              let new : line ≡ with_end line_t count sequence = sym l.1 ∙ ap (λ n. get_or lines' n line) e ∙ get_or-set_same lines t.index (with_end line_t count sequence) line here.0 in
              inl (subst (λ q. Ended q line) (sym same) (subst (Ended t.part.now) (sym new) ended_t), subst (λ (q : Part). All (λ (u : Touched). is_below q.range.low u.part.now.range.low ≡ true) ts) (sym same) behind)
          by (inr n) =
              let old : IsAt lines k line = (let a = l.0 in omega (arith, a, length-set lines t.index (with_end line_t count sequence)), sym (get_or-set_other lines t.index k (with_end line_t count sequence) line n) ∙ l.1) in
              others k part line n (S k part line p old)

  pub ended : (front : List Part) (back : List Touched) (sequence : ℕ) (lines : List Line) → length lines ≡ length parts → All (λ (t : Touched). IsAt parts t.index t.part.now) back → Rising parts now front back → sequence ≡ sum_by R' front → AllAre back lines
      → (length (ended_all count sequence back lines) ≡ length parts) × ((k : ℕ) (part : Part) (line : Line) → IsAt parts k part → IsAt (ended_all count sequence back lines) k line → Ended part line)
  ended front [] sequence lines size each rising is S = (size, last_step lines S)
  ended front (t ∷ ts) sequence lines size each rising is S =
      let at = All-head (λ (u : Touched). IsAt parts u.index u.part.now) t ts each in
      let first : first_sequence parts now t.part.now ≡ sequence = first_is R' parts front t.part.now (parts_of ts) rising.0 ∙ sym is in
      let opened = opened_t t ts lines sequence size at S in
      let next : sequence + opened_by lines t ≡ sum_by R' (front ++ t.part.now ∷ []) = (λ i. is i + opened i) ∙ sym (sum_by_push R' front t.part.now) in
      ended (front ++ t.part.now ∷ []) ts (sequence + opened_by lines t) (set lines t.index (with_end (at_index lines t.index) count sequence))
      (length-set lines t.index (with_end (at_index lines t.index) count sequence) ∙ size) (All-tail (λ (u : Touched). IsAt parts u.index u.part.now) t ts each) rising.2 next (all_more t ts lines sequence size at S first rising.1)

-- ---- what the transaction has in all parts

sum_parts : (f : Part → ℕ) (ts : List Touched) → sum_by f (parts_of ts) ≡ sum_by (λ (t : Touched). f t.part.now) ts
sum_parts f [] = refl
sum_parts f (t ∷ ts) = sum_by-cons f t.part.now (parts_of ts) ∙ ap (λ n. f t.part.now + n) (sum_parts f ts) ∙ sym (sum_by-cons (λ (u : Touched). f u.part.now) t ts)

module _ (parts : List Part) (whole : List (List Captured)) (now : List Captured) (lines : List Line) (touched : List Touched) (L : AreLines parts whole now lines) (T : AreTouched parts now touched) where
  opened_is : All (λ (t : Touched). records_of now t.part.now ≡ opened_by lines t) touched
  opened_is k d l =
      let t = get_or touched k d in
      let at = T.each k d l in
      let size = L.count in
      let in_lines : t.index < length lines = let a = at.0 in omega (arith, a, size) in
      sym (opened_count parts t.part.now (joined whole ++ now) whole now (at_index lines t.index) (L.line t.index t.part.now (at_index lines t.index) at (in_lines, get_or_default lines t.index (at_index lines t.index) no_line in_lines)))

  pub totals_are : record { records = sum_by (opened_by lines) touched; parts = length touched } ≡ count_of parts now
  totals_are =
      let a : sum_by (opened_by lines) touched ≡ sum_by (records_of now) parts = sym (all_of (records_of now) parts (parts_of touched) T.all ∙ sum_parts (records_of now) touched ∙ sum_same (λ (t : Touched). records_of now t.part.now) (opened_by lines) touched opened_is) in
      let b : length touched ≡ length (filter (has_record now) parts) = sym (length-map touched (λ (t : Touched). t.part.now)) ∙ length_permutation (filter (has_record now) parts) (parts_of touched) T.all in
      λ i. record { records = a i; parts = b i }

-- ---- members

found : (parts : List Part) (ts : List Touched) → All (λ (t : Touched). IsAt parts t.index t.part.now) ts → (t : Touched) → Contains ts t → IsAt parts t.index t.part.now
found parts ts each t (j, l, e) = subst (λ (u : Touched). IsAt parts u.index u.part.now) e (each j t l)

module _ (ends : EndsWhole) (parts : List Part) (whole : List (List Captured)) (now : List Captured) (order : List Touched) (same : IsPermutation (filter (has_record now) parts) (parts_of order)) (each : All (λ (t : Touched). IsAt parts t.index t.part.now) order)
    (one : (k : ℕ) (part : Part) → IsAt parts k part → has_record now part ≡ true → (j : ℕ) → IsAt parts j part → j ≡ k) where
  among : (k : ℕ) (part : Part) → IsAt parts k part → (b : Bool) → has_record now part ≡ b → Among ends parts whole now order k ⊎ (records_of now part ≡ 0)
  among k part p true e =
      let m = from_map (λ (t : Touched). t.part.now) part order (Contains-permutation (filter (has_record now) parts) (parts_of order) part same (in_filter (has_record now) part parts (k, p.0, p.1) e)) in
      let at : IsAt parts m.0.index m.0.part.now = found parts order each m.0 m.1 in
      inl (m.0, m.1, one k part p e m.0.index (subst (λ q. IsAt parts m.0.index q) (sym m.2) at))
  among k part p false e = inr (let l = ltb-false 0 (records_of now part) e in omega (arith, l))

-- the lines of all parts at the end of a transaction
pub lines_end : EndsWhole → (parts : List Part) (whole : List (List Captured)) (now : List Captured) (touched : List Touched) (old new : List Line) → AreLines parts whole now old → AreTouched parts now touched → DoNotTie (records_of now) parts
    → ((k : ℕ) (part : Part) → IsAt parts k part → has_record now part ≡ true → (j : ℕ) → IsAt parts j part → j ≡ k) → AreEnded touched old new → AreLines parts (whole ++ now ∷ []) [] new
lines_end ends parts whole now touched old new L T apart one E =
    let count : Count = record { records = sum_by (opened_by old) touched; parts = length touched } in
    let same : IsPermutation (filter (has_record now) parts) (parts_of E.order) = IsPermutation-trans (filter (has_record now) parts) (parts_of touched) (parts_of E.order) T.all (IsPermutation-map (λ (t : Touched). t.part.now) touched E.order E.same) in
    let each : All (λ (t : Touched). IsAt parts t.index t.part.now) E.order = All-permutation (λ (t : Touched). IsAt parts t.index t.part.now) touched E.order E.same T.each in
    let sorted = sorted_parts E.order E.rising in
    let rising : Rising parts now [] E.order = rising_from parts now (parts_of E.order) same sorted (rises (records_of now) parts (parts_of E.order) apart same sorted) [] E.order refl in
    let start : AllAre ends parts whole now E.order old = λ k part line p l. inr (L.line k part line p l, among ends parts whole now E.order same each one k part p (has_record now part) refl) in
    let r = ended ends parts whole now [] E.order 0 old L.count each rising refl start in
    let is : new ≡ ended_all (count_of parts now) 0 E.order old = E.lines ∙ ap (λ c. ended_all c 0 E.order old) (totals_are parts whole now old touched L T) in
    let items : joined whole ++ now ≡ joined (whole ++ now ∷ []) ++ [] =
    sym (append-nil (joined (whole ++ now ∷ [])) ∙ flat_map-append (λ (x : List Captured). x) whole (now ∷ []) ∙ ap (λ l. joined whole ++ l) (append-nil now)) in
    subst (λ l. AreLines parts (whole ++ now ∷ []) [] l) (sym is) (record {
      count = r.0;
      line = λ k part line p l. subst (λ xs. IsLine parts part xs (whole ++ now ∷ []) [] line) items (r.1 k part line p l);
    })
