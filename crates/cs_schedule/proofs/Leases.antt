-- Leases change nothing of what entries tell.
use Rattle.std.proofs.Common.{◌≡◌, ℕ, zero, suc, ◌<◌, Bool, true, List, [], ◌∷◌, map, length, get_or, Option, Some, None, inr, ⊎_elim, sym, refl, ap, ◌∙◌, subst, arith, Contains}
use Rattle.cs_types.specs.Members.{in_nil, in_head, in_tail, in_cons}
use Rattle.cs_place.specs.declared.part.Part.{Part}
use Rattle.cs_link.specs.declared.feed.Feed.{Feed}
use Rattle.cs_link.specs.declared.batch.Batch.{Batch}
use Rattle.cs_link.specs.Batch.{IsFaithful, IsFaithfulOf, IsFaithfulPart}
use Rattle.cs_schedule.specs.declared.entry.Entry.{Entry}
use Rattle.cs_schedule.specs.declared.row.Row.{Row}
use Rattle.cs_schedule.specs.Board.{Shown, IsOrdered, may_read, changed_at, changed_there, leased, given_back, fresh}
use Rattle.cs_schedule.specs.Consistent.{HasEnded, known_by, MayMove}
use Rattle.cs_schedule.specs.Follows.{IsBoardOf, MayCome, MayComeOf}
use Rattle.cs_schedule.specs.Rows.{rows_of, Folds}
use Rattle.cs_schedule.proofs.Folding.{Same, in_row}
use Rattle.cs_schedule.proofs.Readiness.{reads_ready}

-- a board whose rows differ in who reads them alone is that of the same entries
pub same_board : (es : List Entry) (b c : Shown) → c.window ≡ b.window → map fresh c.rows ≡ map fresh b.rows → IsBoardOf es b → IsBoardOf es c
same_board es b c v q B = record {
  begun = B.begun;
  folds = subst (λ w. Folds w es) (sym v) B.folds;
  in_format = B.in_format;
  rows = subst (λ w. Same (map fresh c.rows) (rows_of w.start es)) (sym v) (subst (λ l. Same l (rows_of b.window.start es)) (sym q) B.rows);
}

fresh_changed : (f : Row → Row) → ((r : Row) → fresh (f r) ≡ fresh r) → (i : ℕ) (rows : List Row) → map fresh (changed_at f i rows) ≡ map fresh rows
fresh_changed f h i [] = refl
fresh_changed f h zero (r ∷ rows) = ap (λ x. x ∷ map fresh rows) (h r)
fresh_changed f h (suc i) (r ∷ rows) = ap (λ l. fresh r ∷ l) (fresh_changed f h i rows)

pub fresh_leased : (i : ℕ) (rows : List Row) → map fresh (changed_at leased i rows) ≡ map fresh rows
fresh_leased i rows = fresh_changed leased (λ r. refl) i rows

pub fresh_given : (caught_up : Bool) (o : Option ℕ) (rows : List Row) → map fresh (changed_there (given_back caught_up) o rows) ≡ map fresh rows
fresh_given caught_up None rows = refl
fresh_given caught_up (Some i) rows = fresh_changed (given_back caught_up) (λ r. refl) i rows

pub fresh_again : (rows : List Row) → map fresh (map fresh rows) ≡ map fresh rows
fresh_again [] = refl
fresh_again (r ∷ rows) = ap (λ l. fresh r ∷ l) (fresh_again rows)

changed_in : (rows : List Row) (i : ℕ) (r : Row) → i < length rows → get_or rows i r ≡ r → Contains (changed_at leased i rows) (leased r)
changed_in [] i r l is = absurd (omega (arith, l))
changed_in (a ∷ rows) zero r l is = subst (λ z. Contains (leased a ∷ rows) (leased z)) is (in_head (leased a) rows)
changed_in (a ∷ rows) (suc i) r l is = in_tail a (leased r) (changed_at leased i rows) (changed_in rows i r (omega (arith, l)) is)

abbrev Stays : Row → List Row → Type 0
Stays y rows = (z : Row) × Contains rows z × (z.token ≡ y.token) × (z.finished ≡ y.finished)

stays_behind : (a y : Row) (rows : List Row) → Stays y rows → Stays y (a ∷ rows)
stays_behind a y rows s = (s.0, in_tail a s.0 rows s.1, s.2, s.3)

stays : (rows : List Row) (i : ℕ) (y : Row) → Contains rows y → Stays y (changed_at leased i rows)
stays [] i y j = absurd (in_nil y j)
stays (a ∷ rows) zero y j = ⊎_elim
    (λ (e : y ≡ a). (leased a, in_head (leased a) rows, ap (λ (z : Row). z.token) (sym e), ap (λ (z : Row). z.finished) (sym e)))
    (λ (k : Contains rows y). (y, in_tail (leased a) y rows k, refl, refl))
    (in_cons a y rows j)
stays (a ∷ rows) (suc i) y j = ⊎_elim
    (λ (e : y ≡ a). (a, in_head a (changed_at leased i rows), ap (λ (z : Row). z.token) (sym e), ap (λ (z : Row). z.finished) (sym e)))
    (λ (k : Contains rows y). stays_behind a y (changed_at leased i rows) (stays rows i y k))
    (in_cons a y rows j)

module _ (f : Feed) (b c : Shown) (i : ℕ) (r : Row) (x : Batch) (O : IsOrdered b.rows) (P : IsOrdered c.rows) (v : c.window ≡ b.window) (q : c.rows ≡ changed_at leased i b.rows) (l : i < length b.rows) (is : get_or b.rows i r ≡ r) (reads : may_read b.rows r ≡ true) where
  ended : (t : List ℕ) → HasEnded b.rows t → HasEnded c.rows t
  ended t h =
      let s = stays b.rows i h.0 h.1 in
      (s.0, subst (λ rows. Contains rows s.0) (sym q) s.1, s.2 ∙ h.2, s.3 ∙ h.3)

  there : Contains c.rows (leased r)
  there = subst (λ rows. Contains rows (leased r)) (sym q) (changed_in b.rows i r l is)

  move_of : (p : Part) → Contains f.parts p → p.token ≡ r.token → IsFaithfulPart f c.window.end (known_by r) p x → MayMove f c.window.start c.window.end c.rows (leased r) p (known_by r) x
  move_of p j named faithful =
      let ready = (reads_ready b.rows r O (i, l, is)).0 reads in
      record {
        there = there;
        part = j;
        its = sym named;
        unfinished = ready.0.unfinished;
        parents = λ t k. ended t (ready.0.parents t k);
        batch = faithful;
        covers = inr (refl, λ n k. k);
      }

  pub leased_comes : x.token ≡ Some r.token → IsFaithful f c.window.end (known_by r) x → MayCome f c x
  leased_comes t F =
      let G : IsFaithfulOf f c.window.end (known_by r) x (Some r.token) = subst (IsFaithfulOf f c.window.end (known_by r) x) t F in
      subst (MayComeOf f c x) (sym t) (leased r, G.0, known_by r, in_row c.rows r.token (leased r) P there refl, move_of G.0 G.1 G.2 G.3)
