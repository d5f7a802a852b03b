-- The board of a list of entries, and of one more.
use Rattle.std.proofs.Common.{◌≡◌, ◌<◌, Bool, true, false, List, [], ◌∷◌, ◌++◌, map, length, length-append, Some, ⊎_elim, sym, refl, ap, ◌∙◌, subst, arith, Contains}
use Rattle.std.specs.Prelude.{IfSome}
use Rattle.std.proofs.lemmas.List.Elements.{Contains-append_cases}
use Rattle.cs_types.specs.declared.names.Window.{Window}
use Rattle.cs_types.specs.Members.{in_nil, in_cons}
use Rattle.cs_schedule.specs.declared.entry.Entry.{Entry}
use Rattle.cs_schedule.specs.declared.entry.Entry.TheVariants.{Begin}
use Rattle.cs_schedule.specs.Board.{Shown, IsOrdered, fresh}
use Rattle.cs_schedule.specs.Consistent.{apply}
use Rattle.cs_schedule.specs.Fold.{may_follow}
use Rattle.cs_schedule.specs.Follows.{IsBoardOf, IsNextOf}
use Rattle.cs_schedule.specs.Rows.{rows_of, Folds, low_watermark}
use Rattle.cs_schedule.specs.Spelling.{IsInFormat}
use Rattle.cs_schedule.specs.Update.{Planned, applied}
use Rattle.cs_schedule.proofs.Folded.{AllInFormat, folds_on, rows_on, not_on}
use Rattle.cs_schedule.proofs.Folding.{Same}
use Rattle.cs_schedule.proofs.Fresh.{fresh_apply, fresh_follows, fresh_low, same_low}
use Rattle.cs_schedule.proofs.Orderly.{map_ordered}

pub begun_board : (w : Window) (b : Shown) → IsInFormat (Begin w) → b.window ≡ w → b.rows ≡ [] → IsBoardOf (Begin w ∷ []) b
begun_board w b f v n = record {
  begun = omega arith;
  folds = (ap Begin (sym v), tt);
  in_format = λ y i. ⊎_elim (λ (q : y ≡ Begin w). subst IsInFormat (sym q) f) (λ (k : Contains [] y). absurd (in_nil y k)) (in_cons (Begin w) y [] i);
  rows = λ r. (λ i. absurd (in_nil r (subst (λ l. Contains (map fresh l) r) n i)), λ i. absurd (in_nil r i));
}

module _ (es : List Entry) (b : Shown) (x : Entry) (O : IsOrdered b.rows) (B : IsBoardOf es b) where
  fresh_ordered : IsOrdered (map fresh b.rows)
  fresh_ordered = map_ordered fresh (λ r. refl) b.rows O

  follows_fresh : (m : Bool) → may_follow b.window.end b.rows x ≡ m → may_follow b.window.end (map fresh b.rows) x ≡ m
  follows_fresh m h = fresh_follows b.window.end b.rows x ∙ h

  pub board_folds : may_follow b.window.end b.rows x ≡ true → Folds b.window (es ++ x ∷ [])
  board_folds m = by es refl
    where
      by : (l : List Entry) → es ≡ l → Folds b.window (l ++ x ∷ [])
      by [] k = let some : 0 < 0 = subst (λ l. 0 < length l) k B.begun in absurd (omega (arith, some))
      by (z ∷ zs) k = folds_on b.window z zs x (map fresh b.rows) (subst (Folds b.window) k B.folds) (subst AllInFormat k B.in_format) fresh_ordered (subst (λ l. Same (map fresh b.rows) (rows_of b.window.start l)) k B.rows) (follows_fresh true m)

  rows_more : IsInFormat x → may_follow b.window.end b.rows x ≡ true → Same (apply b.window.start (map fresh b.rows) x) (rows_of b.window.start (es ++ x ∷ []))
  rows_more f m = by es refl
    where
      by : (l : List Entry) → es ≡ l → Same (apply b.window.start (map fresh b.rows) x) (rows_of b.window.start (l ++ x ∷ []))
      by [] k = let some : 0 < 0 = subst (λ l. 0 < length l) k B.begun in absurd (omega (arith, some))
      by (z ∷ zs) k = rows_on b.window z zs x (map fresh b.rows) (subst (Folds b.window) k B.folds) (subst AllInFormat k B.in_format) fresh_ordered (subst (λ l. Same (map fresh b.rows) (rows_of b.window.start l)) k B.rows) f (follows_fresh true m)

  pub board_more : IsInFormat x → may_follow b.window.end b.rows x ≡ true → (c : Shown) → c.window ≡ b.window → c.rows ≡ apply b.window.start b.rows x → IsBoardOf (es ++ x ∷ []) c
  board_more f m c v q = record {
    begun = omega (arith, length-append es (x ∷ []), B.begun);
    folds = subst (λ u. Folds u (es ++ x ∷ [])) (sym v) (board_folds m);
    in_format = λ y i. ⊎_elim
        (λ (j : Contains es y). B.in_format y j)
        (λ (j : Contains (x ∷ []) y). ⊎_elim (λ (e : y ≡ x). subst IsInFormat (sym e) f) (λ (k : Contains [] y). absurd (in_nil y k)) (in_cons x y [] j))
        (Contains-append_cases es (x ∷ []) y i);
    rows = subst (λ u. Same (map fresh c.rows) (rows_of u.start (es ++ x ∷ []))) (sym v)
        (subst (λ l. Same l (rows_of b.window.start (es ++ x ∷ []))) (sym (ap (map fresh) q ∙ fresh_apply b.window.start b.rows x)) (rows_more f m));
  }

  pub board_stops : may_follow b.window.end b.rows x ≡ false → Folds b.window (es ++ x ∷ []) → ⊥
  board_stops m d = by es refl
    where
      by : (l : List Entry) → es ≡ l → ⊥
      by [] k = let some : 0 < 0 = subst (λ l. 0 < length l) k B.begun in omega (arith, some)
      by (z ∷ zs) k = not_on b.window z zs x (map fresh b.rows) (subst (Folds b.window) k B.folds) (subst AllInFormat k B.in_format) fresh_ordered (subst (λ l. Same (map fresh b.rows) (rows_of b.window.start l)) k B.rows) (follows_fresh false m) (b.window, subst (λ l. Folds b.window (l ++ x ∷ [])) k d)

pub board_low : (es : List Entry) (b : Shown) → IsBoardOf es b → low_watermark b.window.end b.rows ≡ low_watermark b.window.end (rows_of b.window.start es)
board_low es b B = sym (fresh_low b.window.end b.rows) ∙ same_low b.window.end (map fresh b.rows) (rows_of b.window.start es) B.rows

pub next_folded : (es : List Entry) (b c : Shown) (p : Planned) (e : Entry) → IsBoardOf es b → IsNextOf b p → p.entry ≡ Some e → c.window ≡ b.window → c.rows ≡ applied b.window.start b.rows p.entry → IsBoardOf (es ++ e ∷ []) c
next_folded es b c p e B N is v q =
    board_more es b e N.ordered B (subst (λ o. IfSome o IsInFormat) is N.in_format) (subst (λ o. IfSome o (λ x. may_follow b.window.end b.rows x ≡ true)) is N.follows) c v (q ∙ ap (applied b.window.start b.rows) is)
