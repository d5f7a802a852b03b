-- Good lines have no offence.
use Rattle.std.proofs.Common.{◌≡◌, ◌<◌, ◌≤◌, ◌+◌, ℕ, true, cond, List, [], ◌∷◌, ◌++◌, length, All, Contains, filter, slice_index, refl, sym, ap, subst, ◌∙◌, arith, append_assoc}
use Rattle.std.specs.List.{AllZip}
use Rattle.std.specs.List.Sorted.{IsStrictlyIncreasing}
use Rattle.std.proofs.lemmas.List.{get_or_append_left, get_or_at, length-append}
use Rattle.std.proofs.lemmas.List.Elements.{All-contains, Contains-append_left, filter-append}
use Rattle.cs_types.specs.Change.{of_row}
use Rattle.cs_types.specs.Row.{same_row}
use Rattle.cs_types.specs.declared.change.Change.{Change}
use Rattle.cs_types.specs.Exact.{same_row-is}
use Rattle.cs_output.specs.Line.{change_line}
use Rattle.cs_output.specs.Output.{Line as Meaning, of_change, of_watermark, changes_of_lines, watermarks_of_lines, AreGood}
use Rattle.cs_output.specs.Reading.{Means}
use Rattle.cs_output.specs.declared.reading.Line.{Line}
use Rattle.cs_output.specs.declared.reading.Line.TheVariants.{Watermark, Change as Told}
use Rattle.cs_audit.specs.Audit.{IsAbove, IsNext, MayStand, IsRight, HasNoOffence}
use Rattle.cs_audit.specs.Index.{DifferInLines}
use Rattle.cs_audit.proofs.Distinct.{IsOnce, contains_head, contains_tail, once_from_lines, once_middle, filter_contains, contains_filter, filter_split}
use Rattle.cs_audit.proofs.Good.{same_change, meant, read_of_meant, changes-append, watermarks-append, last_of, last_meant, last_at, AreGoodLines}

-- what the parts of lines mean
pub record Parts (before after : List Line) (line : Line) (meanings : List Meaning) : Type 0 where
  pub front : List Meaning
  pub meaning : Meaning
  pub back : List Meaning
  pub split : meanings ≡ front ++ meaning ∷ back
  pub all_front : AllZip Means before front
  pub means : Means line meaning
  pub all_back : AllZip Means after back

pub parts_of : (before after : List Line) (line : Line) (meanings : List Meaning) → AllZip Means (before ++ line ∷ after) meanings → Parts before after line meanings
parts_of [] after line [] all = absurd all
parts_of [] after line (m ∷ ms) all = record { front = []; meaning = m; back = ms; split = refl; all_front = tt; means = all.0; all_back = all.1 }
parts_of (l ∷ before) after line [] all = absurd all
parts_of (l ∷ before) after line (m ∷ ms) all =
    let rest = parts_of before after line ms all.1 in
    record { front = m ∷ rest.front; meaning = rest.meaning; back = rest.back; split = ap (λ x. m ∷ x) rest.split; all_front = (all.0, rest.all_front); means = rest.means; all_back = rest.all_back }

above_of_rising : (moments more : List ℕ) (at : ℕ) → IsStrictlyIncreasing (moments ++ at ∷ more) → IsAbove at (last_of moments)
above_of_rising [] more at rising = tt
above_of_rising (x ∷ moments) more at rising =
    let n : length (x ∷ moments) ≡ length moments + 1 = omega arith in
    let k = length moments in
    let here : slice_index ((x ∷ moments) ++ at ∷ more) k ≡ slice_index (x ∷ moments) k = get_or_append_left (x ∷ moments) (at ∷ more) 0 k (omega (arith, n)) in
    let there : slice_index ((x ∷ moments) ++ at ∷ more) (k + 1) ≡ at = get_or_at (x ∷ moments) at more 0 (k + 1) n in
    let below : slice_index ((x ∷ moments) ++ at ∷ more) k < slice_index ((x ∷ moments) ++ at ∷ more) (k + 1) = rising k (omega (arith, n, length-append (x ∷ moments) (at ∷ more))) in
    let less : slice_index (x ∷ moments) k < at = omega (arith, here, there, below) in
    subst (IsAbove at) (sym (last_at (x ∷ moments) k n)) less

module _ (before : List Line) (front back : List Meaning) (wanted : List Change) (end : ℕ) (differ : DifferInLines wanted) (all : AllZip Means before front) where
  next_of_good : (c : Change) → AreGood (front ++ of_change c ∷ back) wanted end → IsNext before wanted c
  next_of_good c good = by (filter_split (λ (d : Change). same_row c.row d.row) wanted part (of_row c.row (changes_of_lines back) ++ old.0) c whole)
    where
      part : List Change
      part = of_row c.row (changes_of_lines front)

      changes : changes_of_lines (front ++ of_change c ∷ back) ≡ changes_of_lines front ++ c ∷ changes_of_lines back
      changes = changes-append front (of_change c ∷ back)

      old : (rest : List Change) × (of_row c.row wanted ≡ of_row c.row (changes_of_lines (front ++ of_change c ∷ back)) ++ rest)
      old = good.row_prefixes c.row

      own : same_row c.row c.row ≡ true
      own = (same_row-is c.row c.row).1 refl

      rows : of_row c.row (changes_of_lines (front ++ of_change c ∷ back)) ≡ of_row c.row (changes_of_lines front) ++ c ∷ of_row c.row (changes_of_lines back)
      rows =
          ap (of_row c.row) changes ∙ filter-append (λ (d : Change). same_row c.row d.row) (changes_of_lines front) (c ∷ changes_of_lines back)
          ∙ ap (λ t. of_row c.row (changes_of_lines front) ++ cond t (c ∷ of_row c.row (changes_of_lines back)) (of_row c.row (changes_of_lines back))) own

      whole : of_row c.row wanted ≡ of_row c.row (changes_of_lines front) ++ c ∷ (of_row c.row (changes_of_lines back) ++ old.0)
      whole = old.1 ∙ ap (λ l. l ++ old.0) rows ∙ append_assoc (of_row c.row (changes_of_lines front)) (c ∷ of_row c.row (changes_of_lines back)) old.0

      in_front_wanted : (d : Change) → Contains (changes_of_lines front) d → Contains wanted d
      in_front_wanted d has =
          All-contains (Contains wanted) (changes_of_lines (front ++ of_change c ∷ back)) d good.all_wanted
          (subst (λ l. Contains l d) (sym changes) (Contains-append_left (changes_of_lines front) (c ∷ changes_of_lines back) d has))

      by : (first later : List Change) × (wanted ≡ first ++ c ∷ later) × (filter (λ (d : Change). same_row c.row d.row) first ≡ of_row c.row (changes_of_lines front)) → IsNext before wanted c
      by (first, later, split, kept) = record {
        front = first;
        back = later;
        split = split;
        earlier = λ d has row.
            let passes : same_row c.row d.row ≡ true = (same_row-is c.row d.row).1 (sym row) in
            let in_part = subst (λ l. Contains l d) kept (contains_filter (λ (x : Change). same_row c.row x.row) first d passes has) in
            read_of_meant before front d all (filter_contains (λ (x : Change). same_row c.row x.row) (changes_of_lines front) d in_part);
        absent = λ st.
            let (d, in_changes, is) = meant before front (change_line c) all st in
            let in_wanted : Contains wanted c = subst (λ l. Contains l c) (sym split) (middle first later) in
            let same : d ≡ c = same_change wanted d c differ (in_front_wanted d in_changes) in_wanted (sym is) in
            let in_part = contains_filter (λ (x : Change). same_row c.row x.row) (changes_of_lines front) c own (subst (Contains (changes_of_lines front)) same in_changes) in
            once_middle first later c (subst IsOnce split (once_from_lines wanted differ)) (filter_contains (λ (x : Change). same_row c.row x.row) first c (subst (λ l. Contains l c) (sym kept) in_part));
      }
        where
          middle : (f b : List Change) → Contains (f ++ c ∷ b) c
          middle [] b = contains_head c b
          middle (x ∷ f) b = contains_tail x (f ++ c ∷ b) c (middle f b)

  stands_of_good : (at : ℕ) → AreGood (front ++ of_watermark at ∷ back) wanted end → MayStand before wanted end at
  stands_of_good at good =
      let moments : watermarks_of_lines (front ++ of_watermark at ∷ back) ≡ watermarks_of_lines front ++ at ∷ watermarks_of_lines back = watermarks-append front (of_watermark at ∷ back) in
      record {
        has = λ c has le. read_of_meant before front c all (good.covered front back at refl c has le);
        above = subst (IsAbove at) (sym (last_meant before front all)) (above_of_rising (watermarks_of_lines front) (watermarks_of_lines back) at (subst IsStrictlyIncreasing moments good.rising));
        up_to_end = All-contains (λ w. w ≤ end) (watermarks_of_lines front ++ at ∷ watermarks_of_lines back) at (subst (All (λ w. w ≤ end)) moments good.up_to_end) (middle (watermarks_of_lines front) (watermarks_of_lines back));
      }
    where
      middle : (f b : List ℕ) → Contains (f ++ at ∷ b) at
      middle [] b = contains_head at b
      middle (x ∷ f) b = contains_tail x (f ++ at ∷ b) at (middle f b)

right_of_good : (before after : List Line) (line : Line) (wanted : List Change) (end : ℕ) → DifferInLines wanted → (meanings : List Meaning) → Parts before after line meanings → AreGood meanings wanted end
    → IsRight before wanted end line
right_of_good before after line wanted end differ meanings parts good = by line parts.meaning parts.means (subst (λ m. AreGood m wanted end) parts.split good)
  where
    by : (l : Line) (m : Meaning) → Means l m → AreGood (parts.front ++ m ∷ parts.back) wanted end → IsRight before wanted end l
    by (Told text) (of_change c) means good = (c, means, next_of_good before parts.front parts.back wanted end differ parts.all_front c good)
    by (Told text) (of_watermark w) means good = absurd means
    by (Watermark at) (of_change c) means good = absurd means
    by (Watermark at) (of_watermark w) means good =
        stands_of_good before parts.front parts.back wanted end differ parts.all_front at (subst (λ k. AreGood (parts.front ++ of_watermark k ∷ parts.back) wanted end) (sym means) good)

pub no_offence_of_good : (lines : List Line) (wanted : List Change) (end : ℕ) → DifferInLines wanted → AreGoodLines lines wanted end → HasNoOffence lines wanted end
no_offence_of_good lines wanted end differ (meanings, all, good) before after line e =
    right_of_good before after line wanted end differ meanings (parts_of before after line meanings (subst (λ l. AllZip Means l meanings) e all)) good
