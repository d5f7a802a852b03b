-- The board of consistent entries.
use Rattle.std.proofs.Common.{◌≡◌, ℕ, ◌<◌, true, false, List, [], ◌∷◌, ◌++◌, map, length, Option, Some, None, Ok, ⊎_elim, sym, refl, ap, ◌∙◌, subst, arith, true≢false, Contains, append-nil}
use Rattle.std.proofs.lemmas.Bool.{cases_Bool}
use Rattle.cs_types.specs.Members.{in_nil, in_head, in_map, from_map}
use Rattle.cs_place.specs.declared.part.Part.{Part}
use Rattle.cs_link.specs.declared.feed.Feed.{Feed}
use Rattle.cs_link.specs.declared.batch.Batch.{Batch}
use Rattle.cs_link.specs.declared.batch.Known.{Known}
use Rattle.cs_schedule.specs.declared.entry.Entry.{Entry}
use Rattle.cs_schedule.specs.declared.entry.Entry.TheVariants.{Opened}
use Rattle.cs_schedule.specs.declared.row.Row.{Row}
use Rattle.cs_schedule.specs.Board.{Shown, IsOrdered, row_of, fresh, may_read}
use Rattle.cs_schedule.specs.Consistent.{HasEnded, IsConsistent, entry_by, MayMove, IsReady}
use Rattle.cs_schedule.specs.Follows.{IsBoardOf, IsFollowed, MayCome, MayComeOf}
use Rattle.cs_schedule.specs.Rows.{rows_of}
use Rattle.cs_schedule.specs.Spelling.{IsInFormat}
use Rattle.cs_schedule.specs.Update.{PlansOf}
use Rattle.cs_schedule.proofs.Journal.{consistent_opened, consistent_with_entry}
use Rattle.cs_schedule.proofs.More.{nil_of}
use Rattle.cs_schedule.proofs.OfBatch.{planned_is}
use Rattle.cs_schedule.proofs.Orphans.{ready}
use Rattle.cs_schedule.proofs.Parts.{facts}
use Rattle.cs_schedule.proofs.Readiness.{reads_ready}

module _ (es : List Entry) (b : Shown) (B : IsBoardOf es b) where
  to_row : (r : Row) → Contains b.rows r → Contains (rows_of b.window.start es) (fresh r)
  to_row r i = (B.rows (fresh r)).0 (in_map fresh r b.rows i)

  from_row : (r : Row) → Contains (rows_of b.window.start es) r → (a : Row) × Contains b.rows a × (r ≡ fresh a)
  from_row r i = from_map fresh r b.rows ((B.rows r).1 i)

  to_ended : (t : List ℕ) → HasEnded b.rows t → HasEnded (rows_of b.window.start es) t
  to_ended t h = (fresh h.0, to_row h.0 h.1, h.2, h.3)

  from_ended : (t : List ℕ) → HasEnded (rows_of b.window.start es) t → HasEnded b.rows t
  from_ended t h =
      let a = from_row h.0 h.1 in
      (a.0, a.1, sym (ap (λ (z : Row). z.token) a.2) ∙ h.2, sym (ap (λ (z : Row). z.finished) a.2) ∙ h.3)

  no_rows : b.rows ≡ [] → rows_of b.window.start es ≡ []
  no_rows none = nil_of (rows_of b.window.start es) (λ r i. in_nil r (subst (λ l. Contains (map fresh l) r) none ((B.rows r).1 i)))

  an_entry : (x : Entry) × Contains es x
  an_entry = by es refl
    where
      by : (l : List Entry) → es ≡ l → (x : Entry) × Contains es x
      by [] k = let some : 0 < 0 = subst (λ l. 0 < length l) k B.begun in absurd (omega (arith, some))
      by (z ∷ zs) k = (z, subst (λ l. Contains l z) (sym k) (in_head z zs))

  module _ (f : Feed) (F : IsFollowed f b.window) (S : IsConsistent f b.window es) where
    moves : (r : Row) (q : Part) (k : Known) (x : Batch) → MayMove f b.window.start b.window.end b.rows r q k x → MayMove f b.window.start b.window.end (rows_of b.window.start es) (fresh r) q k x
    moves r q k x M = record {
      there = to_row r M.there;
      part = M.part;
      its = M.its;
      unfinished = M.unfinished;
      parents = λ t i. to_ended t (M.parents t i);
      batch = M.batch;
      covers = M.covers;
    }

    row_consistent : (t : List ℕ) (x : Batch) (e : Entry) (r : Row) (q : Part) (k : Known) → row_of b.rows t ≡ Some r → MayMove f b.window.start b.window.end b.rows r q k x → PlansOf b.rows x (Some t) (Ok (Some e)) → IsInFormat e → IsConsistent f b.window (es ++ e ∷ [])
    row_consistent t x e r q k row M plan form =
        let same : e ≡ entry_by (fresh r) x = planned_is b.rows t r x e row plan in
        subst (λ y. IsConsistent f b.window (es ++ y ∷ [])) (sym same)
        (consistent_with_entry f (facts f F.feed) b.window F.first F.created F.in_order es S B.in_format (fresh r) q k x (subst IsInFormat same form) (moves r q k x M))

    pub batch_consistent : (x : Batch) (e : Entry) → MayCome f b x → PlansOf b.rows x x.token (Ok (Some e)) → IsInFormat e → IsConsistent f b.window (es ++ e ∷ [])
    batch_consistent x e = by x.token
      where
        by : (t : Option (List ℕ)) → MayComeOf f b x t → PlansOf b.rows x t (Ok (Some e)) → IsInFormat e → IsConsistent f b.window (es ++ e ∷ [])
        by None M plan form =
            let same : e ≡ Opened plan.1 = cc (plan.2) in
            subst (λ y. IsConsistent f b.window (es ++ y ∷ [])) (sym same)
            (consistent_opened f b.window F.first F.created F.in_order es S B.in_format an_entry.0 an_entry.1 (no_rows M.0) x M.1 M.2 plan.1 plan.3.same (facts f F.feed))
        by (Some t) M plan form = row_consistent t x e M.0 M.1 M.2 M.3 M.4 plan form

    pub none_orphan : IsOrdered b.rows → ((r : Row) → Contains b.rows r → r.leased ≡ false) → ((r : Row) → Contains b.rows r → may_read b.rows r ≡ false) → (r : Row) → Contains b.rows r → r.finished ≡ true
    none_orphan O free none r i = ⊎_elim
        (λ (h : r.finished ≡ true). h)
        (λ (h : r.finished ≡ false).
        let a = ready f (facts f F.feed) b.window.start b.window.end F.created (rows_of b.window.start es) _ (S es [] (append-nil es)).right (fresh r) (to_row r i) h in
        let c = from_row a.0 a.1.there in
        let is : IsReady b.rows c.0 = record {
          there = c.1;
          unfinished = sym (ap (λ (z : Row). z.finished) c.2) ∙ a.1.unfinished;
          parents = λ t j. from_ended t (a.1.parents t (subst (λ (z : Row). Contains z.parents t) (sym c.2) j));
        } in
        absurd (true≢false (sym ((reads_ready b.rows c.0 O c.1).1 (is, free c.0 c.1)) ∙ none c.0 c.1)))
        (cases_Bool r.finished)
