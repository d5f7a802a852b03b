-- Lines without offence are good.
use Rattle.std.proofs.Common.{◌≡◌, ◌⊎◌, ◌<◌, ◌≤◌, ◌+◌, ℕ, zero, suc, Bool, true, false, cond, List, [], ◌∷◌, ◌++◌, length, All, Contains, get_or, Option, None, Some, slice_index, refl, sym, ap, subst, ◌∙◌, arith, inl, inr, append_assoc, append-nil}
use Rattle.std.specs.List.{AllZip}
use Rattle.std.specs.List.Sorted.{IsStrictlyIncreasing}
use Rattle.std.proofs.lemmas.Bool.{cases_lt}
use Rattle.std.proofs.lemmas.List.{get_or_append_left, get_or_at, get_or_default, length-append}
use Rattle.std.proofs.lemmas.List.Elements.{All-nil, All-push, All-contains, Contains-append_left, filter-append, filter_passes}
use Rattle.cs_types.specs.Change.{of_row}
use Rattle.cs_types.specs.Row.{same_row}
use Rattle.cs_types.specs.declared.change.Change.{Change}
use Rattle.cs_types.specs.declared.change.RowName.{RowName}
use Rattle.cs_types.specs.Exact.{same_row-is}
use Rattle.cs_output.specs.Line.{change_line}
use Rattle.cs_output.specs.Output.{Line as Meaning, of_change, of_watermark, changes_of_lines, watermarks_of_lines, IsPrefix, AreGood}
use Rattle.cs_output.specs.Reading.{Means}
use Rattle.cs_output.specs.declared.reading.Line.{Line}
use Rattle.cs_output.specs.declared.reading.Line.TheVariants.{Watermark, Change as Told}
use Rattle.cs_audit.specs.Audit.{Stands, or_later, last_watermark, IsAbove, IsNext, MayStand, IsRight, HasNoOffence}
use Rattle.cs_audit.specs.Index.{DifferInLines}
use Rattle.cs_audit.proofs.Distinct.{IsOnce, contains_head, contains_tail, contains_cons, contains_none, once_from_lines, filter_contains, contains_filter, once_filter, front_is}
use Rattle.cs_audit.proofs.Next.{split_push}
use Rattle.cs_audit.proofs.Standing.{one_place}

pub zip_push : (lines : List Line) (meanings : List Meaning) (line : Line) (meaning : Meaning) → AllZip Means lines meanings → Means line meaning → AllZip Means (lines ++ line ∷ []) (meanings ++ meaning ∷ [])
zip_push [] [] line meaning all means = (means, tt)
zip_push [] (m ∷ ms) line meaning all means = absurd all
zip_push (l ∷ ls) [] line meaning all means = absurd all
zip_push (l ∷ ls) (m ∷ ms) line meaning all means = (all.0, zip_push ls ms line meaning all.1 means)

-- wanted changes with one line are one change
pub same_change : (wanted : List Change) (c d : Change) → DifferInLines wanted → Contains wanted c → Contains wanted d → change_line c ≡ change_line d → c ≡ d
same_change wanted c d differ (p, p_in, at_p) (q, q_in, at_q) same =
    let place : p ≡ q = one_place wanted p q c d differ p_in q_in (ap change_line at_p ∙ same ∙ ap change_line (sym at_q)) in
    sym at_p ∙ get_or_default wanted p c d p_in ∙ ap (λ k. get_or wanted k d) place ∙ at_q

-- a change whose line is read is meant
pub meant : (lines : List Line) (meanings : List Meaning) (text : List ℕ) → AllZip Means lines meanings → Contains lines (Told text) → (c : Change) × Contains (changes_of_lines meanings) c × (text ≡ change_line c)
meant [] [] text all has = absurd (contains_none (Told text) has)
meant [] (m ∷ ms) text all has = absurd all
meant (l ∷ ls) [] text all has = absurd all
meant (Watermark at ∷ ls) (of_watermark w ∷ ms) text all has = by (contains_cons (Watermark at) ls (Told text) has) (λ later. meant ls ms text all.1 later)
  where
    by : (Watermark at ≡ Told text) ⊎ Contains ls (Told text) → (Contains ls (Told text) → (c : Change) × Contains (changes_of_lines ms) c × (text ≡ change_line c))
        → (c : Change) × Contains (changes_of_lines ms) c × (text ≡ change_line c)
    by (inl e) more = cc
    by (inr later) more = more later
meant (Watermark at ∷ ls) (of_change c ∷ ms) text all has = absurd all.0
meant (Told t ∷ ls) (of_watermark w ∷ ms) text all has = absurd all.0
meant (Told t ∷ ls) (of_change c ∷ ms) text all has = by (contains_cons (Told t) ls (Told text) has) (λ later. meant ls ms text all.1 later)
  where
    by : (Told t ≡ Told text) ⊎ Contains ls (Told text) → (Contains ls (Told text) → (d : Change) × Contains (changes_of_lines ms) d × (text ≡ change_line d))
        → (d : Change) × Contains (c ∷ changes_of_lines ms) d × (text ≡ change_line d)
    by (inl e) more = let same : t ≡ text = cc in (c, contains_head c (changes_of_lines ms), sym same ∙ all.0)
    by (inr later) more = let (d, there, is) = more later in (d, contains_tail c (changes_of_lines ms) d there, is)

-- the line of a change that is meant is read
pub read_of_meant : (lines : List Line) (meanings : List Meaning) (c : Change) → AllZip Means lines meanings → Contains (changes_of_lines meanings) c → Stands lines c
read_of_meant [] [] c all has = absurd (contains_none c has)
read_of_meant [] (m ∷ ms) c all has = absurd all
read_of_meant (l ∷ ls) [] c all has = absurd all
read_of_meant (Watermark at ∷ ls) (of_watermark w ∷ ms) c all has = contains_tail (Watermark at) ls (Told (change_line c)) (read_of_meant ls ms c all.1 has)
read_of_meant (Watermark at ∷ ls) (of_change d ∷ ms) c all has = absurd all.0
read_of_meant (Told t ∷ ls) (of_watermark w ∷ ms) c all has = absurd all.0
read_of_meant (Told t ∷ ls) (of_change d ∷ ms) c all has = by (contains_cons d (changes_of_lines ms) c has) (λ later. read_of_meant ls ms c all.1 later)
  where
    by : (d ≡ c) ⊎ Contains (changes_of_lines ms) c → (Contains (changes_of_lines ms) c → Stands ls c) → Stands (Told t ∷ ls) c
    by (inl same) more = subst (λ s. Contains (Told t ∷ ls) (Told s)) (all.0 ∙ ap change_line same) (contains_head (Told t) ls)
    by (inr later) more = contains_tail (Told t) ls (Told (change_line c)) (more later)

pub changes-append : (xs ys : List Meaning) → changes_of_lines (xs ++ ys) ≡ changes_of_lines xs ++ changes_of_lines ys
changes-append [] ys = refl
changes-append (of_change c ∷ xs) ys = ap (λ l. c ∷ l) (changes-append xs ys)
changes-append (of_watermark w ∷ xs) ys = changes-append xs ys

pub watermarks-append : (xs ys : List Meaning) → watermarks_of_lines (xs ++ ys) ≡ watermarks_of_lines xs ++ watermarks_of_lines ys
watermarks-append [] ys = refl
watermarks-append (of_change c ∷ xs) ys = watermarks-append xs ys
watermarks-append (of_watermark w ∷ xs) ys = ap (λ l. w ∷ l) (watermarks-append xs ys)

-- the last of some moments
abbrev pub last_of : List ℕ → Option ℕ
last_of [] = None
last_of (at ∷ more) = or_later at (last_of more)

pub last_meant : (lines : List Line) (meanings : List Meaning) → AllZip Means lines meanings → last_watermark lines ≡ last_of (watermarks_of_lines meanings)
last_meant [] [] all = refl
last_meant [] (m ∷ ms) all = absurd all
last_meant (l ∷ ls) [] all = absurd all
last_meant (Watermark at ∷ ls) (of_watermark w ∷ ms) all = ap (or_later at) (last_meant ls ms all.1) ∙ ap (λ x. or_later x (last_of (watermarks_of_lines ms))) all.0
last_meant (Watermark at ∷ ls) (of_change c ∷ ms) all = absurd all.0
last_meant (Told t ∷ ls) (of_watermark w ∷ ms) all = absurd all.0
last_meant (Told t ∷ ls) (of_change c ∷ ms) all = last_meant ls ms all.1

pub last_at : (moments : List ℕ) (k : ℕ) → length moments ≡ k + 1 → last_of moments ≡ Some (slice_index moments k)
last_at [] k e = absurd (omega (arith, e))
last_at (x ∷ []) zero e = refl
last_at (x ∷ []) (suc k) e = absurd (omega (arith, e))
last_at (x ∷ y ∷ more) zero e = absurd (omega (arith, e))
last_at (x ∷ y ∷ more) (suc k) e = ap (or_later x) (last_at (y ∷ more) k (omega (arith, e)))

rising_push : (moments : List ℕ) (at : ℕ) → IsStrictlyIncreasing moments → IsAbove at (last_of moments) → IsStrictlyIncreasing (moments ++ at ∷ [])
rising_push moments at rising above k lt = by (cases_lt (k + 1) (length moments))
  where
    by : (k + 1 < length moments) ⊎ (length moments ≤ k + 1) → slice_index (moments ++ at ∷ []) k < slice_index (moments ++ at ∷ []) (k + 1)
    by (inl less) =
        let here : slice_index (moments ++ at ∷ []) k ≡ slice_index moments k = get_or_append_left moments (at ∷ []) 0 k (omega (arith, less)) in
        let there : slice_index (moments ++ at ∷ []) (k + 1) ≡ slice_index moments (k + 1) = get_or_append_left moments (at ∷ []) 0 (k + 1) less in
        omega (arith, rising k less, here, there)
    by (inr more) =
        let n : length moments ≡ k + 1 = omega (arith, more, lt, length-append moments (at ∷ [])) in
        let here : slice_index (moments ++ at ∷ []) k ≡ slice_index moments k = get_or_append_left moments (at ∷ []) 0 k (omega (arith, n)) in
        let there : slice_index (moments ++ at ∷ []) (k + 1) ≡ at = get_or_at moments at [] 0 (k + 1) n in
        let below : slice_index moments k < at = subst (IsAbove at) (last_at moments k n) above in
        omega (arith, here, there, below)

pub nothing_good : (wanted : List Change) (end : ℕ) → AreGood [] wanted end
nothing_good wanted end = record {
  all_wanted = All-nil (Contains wanted);
  row_prefixes = λ row. (of_row row wanted, refl);
  covered = λ before after at e c has le. none before after at e;
  rising = λ k lt. absurd (omega (arith, lt));
  up_to_end = All-nil (λ at. at ≤ end);
}
  where
    none : {P : Type 0} (before after : List Meaning) (at : ℕ) → [] ≡ before ++ of_watermark at ∷ after → P
    none [] after at e = cc
    none (b ∷ before) after at e = cc

-- the change at hand is the next of its row
module _ (lines : List Line) (meanings : List Meaning) (wanted : List Change) (end : ℕ) (differ : DifferInLines wanted) (all : AllZip Means lines meanings) (good : AreGood meanings wanted end) where
  -- a wanted change whose line stands there is meant there
  pub there : (c : Change) → Contains wanted c → Stands lines c → Contains (changes_of_lines meanings) c
  there c has st =
      let (d, in_meanings, is) = meant lines meanings (change_line c) all st in
      let same : d ≡ c = same_change wanted d c differ (All-contains (Contains wanted) (changes_of_lines meanings) d good.all_wanted in_meanings) has (sym is) in
      subst (Contains (changes_of_lines meanings)) same in_meanings

  prefix_more : (c : Change) → IsNext lines wanted c → (row : RowName) → IsPrefix (of_row row (changes_of_lines meanings ++ c ∷ [])) (of_row row wanted)
  prefix_more c next row = by (same_row row c.row) refl
    where
      old : IsPrefix (of_row row (changes_of_lines meanings)) (of_row row wanted)
      old = good.row_prefixes row

      parts : (b : Bool) → same_row row c.row ≡ b → of_row row (changes_of_lines meanings ++ c ∷ []) ≡ of_row row (changes_of_lines meanings) ++ cond b (c ∷ []) []
      parts b e = filter-append (λ (d : Change). same_row row d.row) (changes_of_lines meanings) (c ∷ []) ∙ ap (λ t. of_row row (changes_of_lines meanings) ++ cond t (c ∷ []) []) e

      split : same_row row c.row ≡ true → of_row row wanted ≡ of_row row next.front ++ c ∷ of_row row next.back
      split e = ap (of_row row) next.split ∙ filter-append (λ (d : Change). same_row row d.row) next.front (c ∷ next.back) ∙ ap (λ t. of_row row next.front ++ cond t (c ∷ of_row row next.back) (of_row row next.back)) e

      by : (b : Bool) → same_row row c.row ≡ b → IsPrefix (of_row row (changes_of_lines meanings ++ c ∷ [])) (of_row row wanted)
      by true e =
          let p = of_row row (changes_of_lines meanings) in
          let f = of_row row next.front in
          let once : IsOnce (f ++ c ∷ of_row row next.back) = subst IsOnce (split e) (once_filter (λ (d : Change). same_row row d.row) wanted (once_from_lines wanted differ)) in
          let front : p ≡ f =
          front_is p old.0 f (of_row row next.back) c (sym old.1 ∙ split e) once (λ x has. in_part x has) (λ has. next.absent (read_of_meant lines meanings c all (filter_contains (λ (d : Change). same_row row d.row) (changes_of_lines meanings) c has))) in (
            of_row row next.back,
            split e ∙ ap (λ l. l ++ c ∷ of_row row next.back) (sym front) ∙ sym (append_assoc p (c ∷ []) (of_row row next.back)) ∙ ap (λ l. l ++ of_row row next.back) (sym (parts true e)),
          )
        where
          in_part : (x : Change) → Contains (of_row row next.front) x → Contains (of_row row (changes_of_lines meanings)) x
          in_part x has =
              let in_front = filter_contains (λ (d : Change). same_row row d.row) next.front x has in
              let passes : same_row row x.row ≡ true = All-contains (λ (d : Change). same_row row d.row ≡ true) (of_row row next.front) x (filter_passes (λ (d : Change). same_row row d.row) next.front) has in
              let rows : x.row ≡ c.row = sym ((same_row-is row x.row).0 passes) ∙ (same_row-is row c.row).0 e in
              let in_wanted : Contains wanted x = subst (λ l. Contains l x) (sym next.split) (Contains-append_left next.front (c ∷ next.back) x in_front) in
              contains_filter (λ (d : Change). same_row row d.row) (changes_of_lines meanings) x passes (there x in_wanted (next.earlier x in_front rows))
      by false e = (old.0, old.1 ∙ ap (λ l. l ++ old.0) (sym (parts false e ∙ append-nil (of_row row (changes_of_lines meanings)))))

  change_good : (c : Change) → IsNext lines wanted c → AreGood (meanings ++ of_change c ∷ []) wanted end
  change_good c next =
      let changes : changes_of_lines (meanings ++ of_change c ∷ []) ≡ changes_of_lines meanings ++ c ∷ [] = changes-append meanings (of_change c ∷ []) in
      let moments : watermarks_of_lines (meanings ++ of_change c ∷ []) ≡ watermarks_of_lines meanings = watermarks-append meanings (of_change c ∷ []) ∙ append-nil (watermarks_of_lines meanings) in
      let in_wanted : Contains wanted c = subst (λ l. Contains l c) (sym next.split) (middle next.front next.back) in
      record {
        all_wanted = subst (All (Contains wanted)) (sym changes) (All-push (Contains wanted) (changes_of_lines meanings) c good.all_wanted in_wanted);
        row_prefixes = λ row. subst (λ l. IsPrefix (of_row row l) (of_row row wanted)) (sym changes) (prefix_more c next row);
        covered = λ before after at e. covered before after at (split_push meanings before after (of_change c) (of_watermark at) e);
        rising = subst IsStrictlyIncreasing (sym moments) good.rising;
        up_to_end = subst (All (λ at. at ≤ end)) (sym moments) good.up_to_end;
      }
    where
      middle : (front back : List Change) → Contains (front ++ c ∷ back) c
      middle [] back = contains_head c back
      middle (x ∷ front) back = contains_tail x (front ++ c ∷ back) c (middle front back)

      covered : (before after : List Meaning) (at : ℕ) → ((before ≡ meanings) × (of_watermark at ≡ of_change c)) ⊎ ((rest : List Meaning) × (meanings ≡ before ++ of_watermark at ∷ rest))
          → (d : Change) → Contains wanted d → d.stamp ≤ at → Contains (changes_of_lines before) d
      covered before after at (inl h) d has le = let e = h.1 in cc
      covered before after at (inr h) d has le = good.covered before h.0 at h.1 d has le

  watermark_good : (at : ℕ) → MayStand lines wanted end at → AreGood (meanings ++ of_watermark at ∷ []) wanted end
  watermark_good at may =
      let changes : changes_of_lines (meanings ++ of_watermark at ∷ []) ≡ changes_of_lines meanings = changes-append meanings (of_watermark at ∷ []) ∙ append-nil (changes_of_lines meanings) in
      let moments : watermarks_of_lines (meanings ++ of_watermark at ∷ []) ≡ watermarks_of_lines meanings ++ at ∷ [] = watermarks-append meanings (of_watermark at ∷ []) in
      let above : IsAbove at (last_of (watermarks_of_lines meanings)) = subst (IsAbove at) (last_meant lines meanings all) may.above in
      record {
        all_wanted = subst (All (Contains wanted)) (sym changes) good.all_wanted;
        row_prefixes = λ row. subst (λ l. IsPrefix (of_row row l) (of_row row wanted)) (sym changes) (good.row_prefixes row);
        covered = λ before after w e. covered before after w (split_push meanings before after (of_watermark at) (of_watermark w) e);
        rising = subst IsStrictlyIncreasing (sym moments) (rising_push (watermarks_of_lines meanings) at good.rising above);
        up_to_end = subst (All (λ w. w ≤ end)) (sym moments) (All-push (λ w. w ≤ end) (watermarks_of_lines meanings) at good.up_to_end may.up_to_end);
      }
    where
      covered : (before after : List Meaning) (w : ℕ) → ((before ≡ meanings) × (of_watermark w ≡ of_watermark at)) ⊎ ((rest : List Meaning) × (meanings ≡ before ++ of_watermark w ∷ rest))
          → (d : Change) → Contains wanted d → d.stamp ≤ w → Contains (changes_of_lines before) d
      covered before after w (inl h) d has le =
          let same_line = h.1 in
          let same : w ≡ at = cc in
          subst (λ l. Contains (changes_of_lines l) d) (sym h.0) (there d has (may.has d has (subst (λ n. d.stamp ≤ n) same le)))
      covered before after w (inr h) d has le = good.covered before h.0 w h.1 d has le

-- the lines mean good lines
abbrev pub AreGoodLines : List Line → List Change → ℕ → Type 0
AreGoodLines lines wanted end = (meanings : List Meaning) × AllZip Means lines meanings × AreGood meanings wanted end

line_good : (lines : List Line) (line : Line) (wanted : List Change) (end : ℕ) → DifferInLines wanted → AreGoodLines lines wanted end → IsRight lines wanted end line → AreGoodLines (lines ++ line ∷ []) wanted end
line_good lines (Told text) wanted end differ (meanings, all, good) (c, is, next) =
    (meanings ++ of_change c ∷ [], zip_push lines meanings (Told text) (of_change c) all is, change_good lines meanings wanted end differ all good c next)
line_good lines (Watermark at) wanted end differ (meanings, all, good) may =
    (meanings ++ of_watermark at ∷ [], zip_push lines meanings (Watermark at) (of_watermark at) all refl, watermark_good lines meanings wanted end differ all good at may)

lines_good : (before after : List Line) (wanted : List Change) (end : ℕ) → DifferInLines wanted → AreGoodLines before wanted end → HasNoOffence (before ++ after) wanted end → AreGoodLines (before ++ after) wanted end
lines_good before [] wanted end differ good none = subst (λ l. AreGoodLines l wanted end) (sym (append-nil before)) good
lines_good before (line ∷ after) wanted end differ good none =
    let whole : (before ++ line ∷ []) ++ after ≡ before ++ line ∷ after = append_assoc before (line ∷ []) after in
    let more = line_good before line wanted end differ good (none before after line refl) in
    subst (λ l. AreGoodLines l wanted end) whole (lines_good (before ++ line ∷ []) after wanted end differ more (subst (λ l. HasNoOffence l wanted end) (sym whole) none))

pub good_without_offence : (lines : List Line) (wanted : List Change) (end : ℕ) → DifferInLines wanted → HasNoOffence lines wanted end → AreGoodLines lines wanted end
good_without_offence lines wanted end differ none = lines_good [] lines wanted end differ ([], tt, nothing_good wanted end) none
