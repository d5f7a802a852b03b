-- A change more is given to the part that holds it, which is touched then.
use Rattle.std.proofs.Common.{◌≡◌, ◌≢◌, ◌⊎◌, inl, inr, ℕ, ◌<◌, true, false, nat_lt, List, [], ◌∷◌, ◌++◌, length, map, filter, get_or, set, sym, ap, ◌∙◌, subst, arith, append_assoc}
use Rattle.std.specs.List.Sorted.{IsPermutation}
use Rattle.std.proofs.lemmas.Bool.{cases_eq, lt-ltb}
use Rattle.std.proofs.lemmas.List.{get_or_default, get_or-set_same, get_or-set_other, length-set, map_push}
use Rattle.std.proofs.lemmas.List.Elements.{All-push}
use Rattle.std.proofs.lemmas.List.Sorted.{IsPermutation-sym, IsPermutation-cons, IsPermutation-trans, IsPermutation-to_front}
use Rattle.cs_place.specs.declared.part.Part.{Part}
use Rattle.cs_place.specs.Part.{is_held}
use Rattle.cs_records.specs.declared.captured.Captured.{Captured}
use Rattle.cs_link.specs.Feed.{place_of}
use Rattle.cs_steps.specs.Cursor.{IsAt}
use Rattle.cs_steps.specs.Cutting.{joined}
use Rattle.cs_steps.specs.Index.{is_end}
use Rattle.cs_steps.specs.Lines.{Line, IsLine, no_line, with_change, TakesHeld, PassesOther}
use Rattle.cs_steps.specs.Records.{records_of}
use Rattle.cs_index.specs.declared.touched.Touched.{Touched}
use Rattle.cs_index.specs.Walk.{at_index, has_record, AreLines, AreTouched, IsAdded}
use Rattle.cs_index.proofs.Counts.{quiet_is, loud_is, has_more, has_same}
use Rattle.cs_index.proofs.Filters.{filter_same, filter_one}

-- just the part at an index holds a change
pub record IsHeldAt (parts : List Part) (index : ℕ) (c : Captured) : Type 0 where
  pub inside : index < length parts
  pub held : (part : Part) → IsAt parts index part → is_held part (place_of c.change.row) c.change.stamp ≡ true
  pub others : (k : ℕ) (part : Part) → IsAt parts k part → k ≢ index → is_held part (place_of c.change.row) c.change.stamp ≡ false

module _ (parts : List Part) (whole : List (List Captured)) (now : List Captured) (lines : List Line) (index : ℕ) (c : Captured) (H : IsHeldAt parts index c) (L : AreLines parts whole now lines) where
  in_lines : index < length lines
  in_lines = let a = H.inside in let b = L.count in omega (arith, a, b)

  line_at : IsAt lines index (at_index lines index)
  line_at = (in_lines, get_or_default lines index (at_index lines index) no_line in_lines)

  pub lines_given : TakesHeld → PassesOther → (place : ℕ) → place ≡ length (joined whole ++ now) → AreLines parts whole (now ++ c ∷ []) (set lines index (with_change (at_index lines index) place c))
  lines_given takes passes place is = record {
    count = length-set lines index (with_change (at_index lines index) place c) ∙ L.count;
    line = λ k part line p l. subst (λ xs. IsLine parts part xs whole (now ++ c ∷ []) line) (append_assoc (joined whole) now (c ∷ [])) (by k part line p l (cases_eq k index));
  }
    where
      by : (k : ℕ) (part : Part) (line : Line) → IsAt parts k part → IsAt (set lines index (with_change (at_index lines index) place c)) k line → (k ≡ index) ⊎ (k ≢ index) → IsLine parts part ((joined whole ++ now) ++ c ∷ []) whole (now ++ c ∷ []) line
      by k part line p l (inl e) =
          let q : IsAt parts index part = subst (λ n. IsAt parts n part) e p in
          let new : line ≡ with_change (at_index lines index) place c = sym l.1 ∙ ap (λ n. get_or (set lines index (with_change (at_index lines index) place c)) n line) e ∙ get_or-set_same lines index (with_change (at_index lines index) place c) line in_lines in
          let t : IsLine parts part ((joined whole ++ now) ++ c ∷ []) whole (now ++ c ∷ []) (with_change (at_index lines index) (length (joined whole ++ now)) c) =
          takes parts part whole now c (at_index lines index) (L.line index part (at_index lines index) q line_at) (H.held part q) in
          subst (IsLine parts part ((joined whole ++ now) ++ c ∷ []) whole (now ++ c ∷ [])) (sym (new ∙ ap (λ n. with_change (at_index lines index) n c) is)) t
      by k part line p l (inr n) =
          let old : IsAt lines k line = (let a = l.0 in omega (arith, a, length-set lines index (with_change (at_index lines index) place c)), sym (get_or-set_other lines index k (with_change (at_index lines index) place c) line n) ∙ l.1) in
          passes parts part whole now c line (L.line k part line p old) (H.others k part p n)

  -- the part at the index, which is that of the line
  module _ (part : Part) (p : IsAt parts index part) where
    quiet : is_end (at_index lines index).opened ≡ true → records_of now part ≡ 0
    quiet e = quiet_is parts part (joined whole ++ now) whole now (at_index lines index) (L.line index part (at_index lines index) p line_at) e

    loud : is_end (at_index lines index).opened ≡ false → 0 < records_of now part
    loud e = loud_is parts part (joined whole ++ now) whole now (at_index lines index) (L.line index part (at_index lines index) p line_at) e

    after : has_record (now ++ c ∷ []) part ≡ true
    after = lt-ltb 0 (records_of (now ++ c ∷ []) part) (has_more part now c (H.held part p))

  others_same : (j : ℕ) (q : Part) → IsAt parts j q → j ≢ index → has_record (now ++ c ∷ []) q ≡ has_record now q
  others_same j q s n = ap (λ k. nat_lt 0 k) (has_same q now c (H.others j q s n))

  pub touched_stays : (touched : List Touched) → AreTouched parts now touched → is_end (at_index lines index).opened ≡ false → AreTouched parts (now ++ c ∷ []) touched
  touched_stays touched T e = record {
    each = T.each;
    all = subst (λ l. IsPermutation l (map (λ (t : Touched). t.part.now) touched)) (sym (filter_same (has_record now) (has_record (now ++ c ∷ [])) parts agree)) T.all;
  }
    where
      by : (j : ℕ) (q : Part) → IsAt parts j q → (j ≡ index) ⊎ (j ≢ index) → has_record (now ++ c ∷ []) q ≡ has_record now q
      by j q s (inl e') = let p = subst (λ n. IsAt parts n q) e' s in after q p ∙ sym (lt-ltb 0 (records_of now q) (loud q p e))
      by j q s (inr n) = others_same j q s n

      agree : (j : ℕ) (q : Part) → IsAt parts j q → has_record (now ++ c ∷ []) q ≡ has_record now q
      agree j q s = by j q s (cases_eq j index)

  pub touched_more : (touched new : List Touched) → AreTouched parts now touched → is_end (at_index lines index).opened ≡ true → IsAdded parts index touched new → AreTouched parts (now ++ c ∷ []) new
  touched_more touched new T e A =
      let part : Part = A.added.part.now in
      let before : has_record now part ≡ false = ap (λ n. nat_lt 0 n) (quiet part A.part e) in
      let one = filter_one (has_record now) (has_record (now ++ c ∷ [])) parts index part A.part before (after part A.part) others_same in
      let f : Touched → Part = λ t. t.part.now in
      let back : IsPermutation (part ∷ map f touched) (map f touched ++ part ∷ []) = IsPermutation-sym (map f touched ++ part ∷ []) (part ∷ map f touched) (IsPermutation-to_front (map f touched) part) in
      let all : IsPermutation (filter (has_record (now ++ c ∷ [])) parts) (map f touched ++ part ∷ []) =
      IsPermutation-trans (filter (has_record (now ++ c ∷ [])) parts) (part ∷ filter (has_record now) parts) (map f touched ++ part ∷ [])
      (IsPermutation-sym (part ∷ filter (has_record now) parts) (filter (has_record (now ++ c ∷ [])) parts) one)
      (IsPermutation-trans (part ∷ filter (has_record now) parts) (part ∷ map f touched) (map f touched ++ part ∷ []) (IsPermutation-cons part (filter (has_record now) parts) (map f touched) T.all) back) in
      subst (AreTouched parts (now ++ c ∷ [])) (sym A.behind) (record {
        each = All-push (λ (t : Touched). IsAt parts t.index t.part.now) touched A.added T.each (subst (λ n. IsAt parts n part) (sym A.at) A.part);
        all = subst (IsPermutation (filter (has_record (now ++ c ∷ [])) parts)) (sym (map_push f touched A.added)) all;
      })
