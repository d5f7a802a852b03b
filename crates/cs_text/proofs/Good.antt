-- Good events have good lines, and complete ones complete lines.
use Rattle.std.proofs.Common.{◌≡◌, ◌≤◌, ◌<◌, ◌+◌, ℕ, zero, suc, List, [], ◌∷◌, ◌++◌, All, map, length, get_or, refl, sym, ap, subst, ◌∙◌, arith, Contains}
use Rattle.std.specs.List.Sorted.{IsStrictlyIncreasing}
use Rattle.cs_types.specs.Change.{of_row}
use Rattle.cs_types.specs.declared.change.Change.{Change}
use Rattle.cs_types.specs.Members.{Pairwise}
use Rattle.cs_output.specs.Output.{Line, of_watermark, changes_of_lines, watermarks_of_lines, CoversBelow, AreGood as LinesAreGood, AreComplete as LinesAreComplete}
use Rattle.cs_schedule.specs.Outline.{Event, Changed, Watermark, changed, watermarks, AreGood, AreComplete}
use Rattle.cs_text.specs.Output.{line_of_event}

changes_same : (out : List Event) → changes_of_lines (map line_of_event out) ≡ changed out
changes_same [] = refl
changes_same (Changed c ∷ out) = ap (λ (l : List Change). c ∷ l) (changes_same out)
changes_same (Watermark n ∷ out) = changes_same out

watermarks_same : (out : List Event) → watermarks_of_lines (map line_of_event out) ≡ watermarks out
watermarks_same [] = refl
watermarks_same (Changed c ∷ out) = watermarks_same out
watermarks_same (Watermark n ∷ out) = ap (λ (l : List ℕ). n ∷ l) (watermarks_same out)

at_itself : {A : Type 0} (xs : List A) (k : ℕ) (d : A) → k < length xs → get_or xs k (get_or xs k d) ≡ get_or xs k d
at_itself [] k d inside = absurd (omega (arith, inside))
at_itself (x ∷ xs) zero d inside = refl
at_itself (x ∷ xs) (suc k) d inside = at_itself xs k d (omega (arith, inside))

all_of : {A : Type 0} (P : A → Type 0) (xs : List A) → ((x : A) → Contains xs x → P x) → All P xs
all_of P xs f k d inside = f (get_or xs k d) (k, inside, at_itself xs k d inside)

next_above : (xs : List ℕ) (k : ℕ) → Pairwise (λ m n. m < n) xs → suc k < length xs → get_or xs k 0 < get_or xs (suc k) 0
next_above [] k h inside = absurd (omega (arith, inside))
next_above (x ∷ []) k h inside = absurd (omega (arith, inside))
next_above (x ∷ y ∷ xs) zero h inside = h.0 y (0, omega arith, refl)
next_above (x ∷ y ∷ xs) (suc k) h inside = next_above (y ∷ xs) k h.1 (omega (arith, inside))

rising : (xs : List ℕ) → Pairwise (λ m n. m < n) xs → IsStrictlyIncreasing xs
rising xs h k inside =
    let one : k + 1 ≡ suc k = omega arith in
    subst (λ n. get_or xs k 0 < get_or xs n 0) (sym one) (next_above xs k h (omega (arith, inside)))

-- the events before a watermark's line
pub record Before (out : List Event) (before after : List Line) (at : ℕ) : Type 0 where
  pub front : List Event
  pub back : List Event
  pub split : front ++ Watermark at ∷ back ≡ out
  pub same : map line_of_event front ≡ before

head_is : (x y : Line) (xs ys : List Line) → x ∷ xs ≡ y ∷ ys → (x ≡ y) × (xs ≡ ys)
head_is x y xs ys e = (cc, cc)

before_at : (out : List Event) (before after : List Line) (at : ℕ) → map line_of_event out ≡ before ++ of_watermark at ∷ after → Before out before after at
before_at [] [] after at e = absurd cc
before_at [] (b ∷ before) after at e = absurd cc
before_at (Changed c ∷ out) [] after at e = absurd cc
before_at (Watermark n ∷ out) [] after at e =
    let same : n ≡ at = cc in
    record { front = []; back = out; split = ap (λ m. Watermark m ∷ out) (sym same); same = refl }
before_at (x ∷ out) (b ∷ before) after at e =
    let parts = head_is (line_of_event x) b (map line_of_event out) (before ++ of_watermark at ∷ after) e in
    let more = before_at out before after at parts.1 in
    record { front = x ∷ more.front; back = more.back; split = ap (λ (l : List Event). x ∷ l) more.split; same = ap (λ (l : List Line). line_of_event x ∷ l) more.same ∙ ap (λ y. y ∷ before) parts.0 }

module _ (out : List Event) (wanted : List Change) (e : ℕ) where
  covered : ((before after : List Event) (n : ℕ) → before ++ Watermark n ∷ after ≡ out → (c : Change) → Contains wanted c → c.stamp ≤ n → Contains (changed before) c) → CoversBelow (map line_of_event out) wanted
  covered h before after at split c wants up =
      let parts = before_at out before after at split in
      subst (λ (l : List Change). Contains l c) (sym (changes_same parts.front) ∙ ap changes_of_lines parts.same) (h parts.front parts.back at parts.split c wants up)

  pub lines_good : AreGood out wanted e → LinesAreGood (map line_of_event out) wanted e
  lines_good G = record {
    all_wanted = subst (All (Contains wanted)) (sym (changes_same out)) (all_of (Contains wanted) (changed out) G.known);
    row_prefixes = λ row. let parts = G.rows row in (parts.0, sym parts.1 ∙ ap (λ (l : List Change). of_row row l ++ parts.0) (sym (changes_same out)));
    covered = covered G.covered;
    rising = subst IsStrictlyIncreasing (sym (watermarks_same out)) (rising (watermarks out) G.rising);
    up_to_end = subst (All (λ at. at ≤ e)) (sym (watermarks_same out)) (all_of (λ at. at ≤ e) (watermarks out) G.within);
  }

  pub lines_complete : AreComplete out wanted e → LinesAreComplete (map line_of_event out) wanted e
  lines_complete C = record {
    good = lines_good C.good;
    all_there = all_of (Contains (changes_of_lines (map line_of_event out))) wanted (λ c i. subst (λ (l : List Change). Contains l c) (sym (changes_same out)) (C.whole c i));
    ended = (map line_of_event C.last.0, sym (ap (map line_of_event) C.last.1) ∙ ended C.last.0);
  }
    where
      ended : (front : List Event) → map line_of_event (front ++ Watermark e ∷ []) ≡ map line_of_event front ++ of_watermark e ∷ []
      ended [] = refl
      ended (x ∷ front) = ap (λ (l : List Line). line_of_event x ∷ l) (ended front)
