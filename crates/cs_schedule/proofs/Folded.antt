-- The steps of the fold of a list of entries.
use Rattle.std.proofs.Common.{◌≡◌, ℕ, zero, suc, ◌+◌, ◌<◌, ◌≤◌, true, false, List, [], ◌∷◌, ◌++◌, length, take, get_or, ⊎_elim, sym, refl, ap, ◌∙◌, subst, arith, true≢false, Contains}
use Rattle.std.proofs.lemmas.Bool.{and_parts}
use Rattle.std.proofs.lemmas.List.{take_more, take_all}
use Rattle.std.proofs.lemmas.List.Elements.{Contains-append_right, Contains-append_cases}
use Rattle.cs_types.specs.declared.names.Window.{Window}
use Rattle.cs_types.specs.Members.{in_nil, in_head, in_cons}
use Rattle.cs_schedule.specs.declared.entry.Entry.{Entry}
use Rattle.cs_schedule.specs.declared.entry.Entry.TheVariants.{Begin, Opened, Progress, Finished}
use Rattle.cs_schedule.specs.declared.row.Row.{Row}
use Rattle.cs_schedule.specs.Board.{Shown, IsOrdered}
use Rattle.cs_schedule.specs.Consistent.{apply}
use Rattle.cs_schedule.specs.Fold.{has_no_row, may_follow, DoFold, IsFoldOf, IsFirstBad}
use Rattle.cs_schedule.specs.Rows.{rows_of, Fits, Folds}
use Rattle.cs_schedule.specs.Spelling.{has_some, are_rising, are_in_order, are_new, IsInFormat}
use Rattle.cs_schedule.proofs.Applied.{folds_split, in_format, kept, applied}
use Rattle.cs_schedule.proofs.Entered.{folds_from}
use Rattle.cs_schedule.proofs.Folding.{Same, apply_same, told, tells}
use Rattle.cs_schedule.proofs.More.{folds_more}
use Rattle.cs_schedule.proofs.Orderly.{opened_ordered, progress_ordered, finished_ordered}

abbrev pub AllInFormat : List Entry → Type 0
AllInFormat es = (y : Entry) → Contains es y → IsInFormat y

no_row : (rows : List Row) → has_no_row rows ≡ true → rows ≡ []
no_row [] h = refl
no_row (r ∷ rows) h = absurd (true≢false (sym h))

-- the rows after an entry that may follow are in order
pub follow_ordered : (s e : ℕ) (rows : List Row) (x : Entry) → IsOrdered rows → IsInFormat x → may_follow e rows x ≡ true → IsOrdered (apply s rows x)
follow_ordered s e rows (Begin w) h f m = h
follow_ordered s e rows (Opened tokens) h f m = opened_ordered s rows tokens (no_row rows m) (and_parts (has_some tokens) (are_rising tokens) f.1).1
follow_ordered s e rows (Progress t n cs) h f m = progress_ordered s rows t n cs h
follow_ordered s e rows (Finished t n cs xs) h f m = finished_ordered s rows t n cs xs h (and_parts (are_in_order n cs) (are_new [] xs) f.1).1

window_in : Entry → Window → Window
window_in (Begin v) u = v
window_in (Opened tokens) u = u
window_in (Progress t n cs) u = u
window_in (Finished t n cs xs) u = u

begin_stamp : (w : Window) → IsInFormat (Begin w) → 1 ≤ w.start
begin_stamp w f = f.0.1.0

module _ (w : Window) (z : Entry) (zs : List Entry) (x : Entry) (rows : List Row) (F : Folds w (z ∷ zs)) (forms : AllInFormat (z ∷ zs)) (O : IsOrdered rows) (S : Same rows (rows_of w.start (z ∷ zs))) where
  tells_now : Fits w.start w.end (z ∷ zs) x → may_follow w.end rows x ≡ true
  tells_now = tells w w.start w.end (z ∷ zs) (folds_from w (z ∷ zs) F) forms (kept w w.start w.end (z ∷ zs) (folds_from w (z ∷ zs) F) (λ y i. in_format y (forms y i))) rows O S x

  told_now : may_follow w.end rows x ≡ true → Fits w.start w.end (z ∷ zs) x
  told_now = told w w.start w.end (z ∷ zs) (folds_from w (z ∷ zs) F) forms (kept w w.start w.end (z ∷ zs) (folds_from w (z ∷ zs) F) (λ y i. in_format y (forms y i))) rows O S x

  pub folds_on : may_follow w.end rows x ≡ true → Folds w ((z ∷ zs) ++ x ∷ [])
  folds_on m = folds_more w w.start w.end (z ∷ zs) x z (in_head z zs) F (told_now m)

  pub rows_on : IsInFormat x → may_follow w.end rows x ≡ true → Same (apply w.start rows x) (rows_of w.start ((z ∷ zs) ++ x ∷ []))
  rows_on f m r =
      let first : 1 ≤ w.start = begin_stamp w (subst IsInFormat F.0 (forms z (in_head z zs))) in
      let all : AllInFormat ((z ∷ zs) ++ x ∷ []) = λ y i. ⊎_elim
      (λ (j : Contains (z ∷ zs) y). forms y j)
      (λ (j : Contains (x ∷ []) y). ⊎_elim (λ (q : y ≡ x). subst IsInFormat (sym q) f) (λ (k : Contains [] y). absurd (in_nil y k)) (in_cons x y [] j))
      (Contains-append_cases (z ∷ zs) (x ∷ []) y i) in
      let a = apply_same w.start rows (rows_of w.start (z ∷ zs)) x S r in
      let b = applied w w.start w.end (z ∷ zs) x (folds_from w ((z ∷ zs) ++ x ∷ []) (folds_on m)) (λ y i. in_format y (all y i)) first r in
      (λ i. b.1 (a.0 i), λ i. a.1 (b.0 i))

  pub not_on : may_follow w.end rows x ≡ false → DoFold ((z ∷ zs) ++ x ∷ []) → ⊥
  unfolding window_in
  not_on m d =
      let same : w ≡ d.0 = ap (λ y. window_in y w) (sym F.0 ∙ d.1.0) in
      let on : Folds w ((z ∷ zs) ++ x ∷ []) = subst (λ v. Folds v ((z ∷ zs) ++ x ∷ [])) (sym same) d.1 in
      ⊎_elim
      (λ (a : (z ∷ zs ≡ []) × (x ≡ Begin w)). absurd (grind (arith, a.0)))
      (λ (a : Fits w.start w.end (z ∷ zs) x). true≢false (sym (tells_now a) ∙ m))
      (folds_split w w.start w.end (z ∷ zs) x (folds_from w ((z ∷ zs) ++ x ∷ []) on)).1

one_more : (es : List Entry) (i : ℕ) (x : Entry) → i < length es → x ≡ get_or es i x → take (suc i) es ≡ take i es ++ x ∷ []
one_more es i x l e =
    let next : suc i ≡ i + 1 = omega arith in
    ap (λ k. take k es) next ∙ take_more es i x l ∙ ap (λ c. take i es ++ c ∷ []) (sym e)

some_of : (i : ℕ) (es : List Entry) (y : Entry) → Contains (take i es) y → Contains es y
some_of zero es y k = absurd (in_nil y k)
some_of (suc i) [] y k = k
some_of (suc i) (z ∷ es) y k = ⊎_elim
    (λ (q : y ≡ z). subst (λ u. Contains (z ∷ es) u) (sym q) (in_head z es))
    (λ (j : Contains (take i es) y). Contains-append_right (z ∷ []) es y (some_of i es y j))
    (in_cons z y (take i es) k)

nowhere : Window
nowhere = record { stream = []; start = 0; end = 0 }

-- the fold of the window's beginning
pub begun : (es : List Entry) (w : Window) (b : Shown) (x : Entry) → 0 < length es → x ≡ get_or es 0 x → x ≡ Begin w → b.window ≡ w → b.rows ≡ [] → IsFoldOf (take 1 es) b
begun [] w b x l e q v n = absurd (omega (arith, l))
begun (z ∷ es) w b x l e q v n = record {
  folds = (sym e ∙ q ∙ ap Begin (sym v), tt);
  rows = λ r. (
    λ i. absurd (in_nil r (subst (λ l. Contains l r) n i)),
    λ i. absurd (in_nil r (subst (λ y. Contains (rows_of b.window.start (y ∷ [])) r) (sym e ∙ q) i)),
  );
}

-- a list that begins otherwise does not fold
pub not_begun : (es : List Entry) (x : Entry) → 0 < length es → x ≡ get_or es 0 x → ((w : Window) → x ≡ Begin w → ⊥) → IsFirstBad es 0
not_begun [] x l e n = absurd (omega (arith, l))
not_begun (z ∷ es) x l e n = record {
  inside = l;
  before = (nowhere, tt);
  not_with = λ d. n d.0 (e ∙ d.1.0);
}

not_none : (es : List Entry) (i : ℕ) → 1 ≤ i → 0 < length es → take i es ≡ [] → ⊥
not_none [] i m l e = omega (arith, l)
not_none (z ∷ es) zero m l e = omega (arith, m)
not_none (z ∷ es) (suc i) m l e = absurd (grind (arith, e))

module _ (es : List Entry) (i : ℕ) (x : Entry) (b : Shown) (late : 1 ≤ i) (inside : i < length es) (is : x ≡ get_or es i x) (forms : AllInFormat es) (O : IsOrdered b.rows) (B : IsFoldOf (take i es) b) where
  its_form : IsInFormat x
  its_form = forms x (i, inside, sym is)

  pub still_ordered : may_follow b.window.end b.rows x ≡ true → IsOrdered (apply b.window.start b.rows x)
  still_ordered m = follow_ordered b.window.start b.window.end b.rows x O its_form m

  more : take (suc i) es ≡ take i es ++ x ∷ []
  more = one_more es i x inside is

  pub goes_on : may_follow b.window.end b.rows x ≡ true → (c : Shown) → c.window ≡ b.window → c.rows ≡ apply b.window.start b.rows x → IsFoldOf (take (suc i) es) c
  goes_on m c v q = by (take i es) refl
    where
      by : (l : List Entry) → take i es ≡ l → IsFoldOf (take (suc i) es) c
      by [] k = absurd (not_none es i late (omega (arith, inside)) k)
      by (z ∷ zs) k =
          let F : Folds b.window (z ∷ zs) = subst (λ l. Folds b.window l) k B.folds in
          let fs : AllInFormat (z ∷ zs) = λ y j. forms y (some_of i es y (subst (λ l. Contains l y) (sym k) j)) in
          let S : Same b.rows (rows_of b.window.start (z ∷ zs)) = subst (λ l. Same b.rows (rows_of b.window.start l)) k B.rows in
          let now : take (suc i) es ≡ (z ∷ zs) ++ x ∷ [] = more ∙ ap (λ l. l ++ x ∷ []) k in
          let rows : Same (apply b.window.start b.rows x) (rows_of b.window.start ((z ∷ zs) ++ x ∷ [])) = rows_on b.window z zs x b.rows F fs O S its_form m in
          record {
            folds = subst (λ l. Folds c.window l) (sym now) (subst (λ u. Folds u ((z ∷ zs) ++ x ∷ [])) (sym v) (folds_on b.window z zs x b.rows F fs O S m));
            rows = subst (λ l. Same c.rows (rows_of c.window.start l)) (sym now) (subst (λ u. Same c.rows (rows_of u.start ((z ∷ zs) ++ x ∷ []))) (sym v) (subst (λ r. Same r (rows_of b.window.start ((z ∷ zs) ++ x ∷ []))) (sym q) rows));
          }

  pub stops : may_follow b.window.end b.rows x ≡ false → IsFirstBad es i
  stops m = record {
    inside = inside;
    before = (b.window, B.folds);
    not_with = by (take i es) refl;
  }
    where
      by : (l : List Entry) → take i es ≡ l → DoFold (take (suc i) es) → ⊥
      by [] k d = not_none es i late (omega (arith, inside)) k
      by (z ∷ zs) k d =
          let F : Folds b.window (z ∷ zs) = subst (λ l. Folds b.window l) k B.folds in
          let fs : AllInFormat (z ∷ zs) = λ y j. forms y (some_of i es y (subst (λ l. Contains l y) (sym k) j)) in
          let S : Same b.rows (rows_of b.window.start (z ∷ zs)) = subst (λ l. Same b.rows (rows_of b.window.start l)) k B.rows in
          not_on b.window z zs x b.rows F fs O S m (subst DoFold (more ∙ ap (λ l. l ++ x ∷ []) k) d)

pub whole : (es : List Entry) (i : ℕ) (b : Shown) → length es ≤ i → IsFoldOf (take i es) b → IsFoldOf es b
whole es i b l B = subst (λ z. IsFoldOf z b) (take_all i es l) B
