-- The entries of a turn over an honest link are consistent where those before it were.
use Rattle.std.proofs.Common.{◌≡◌, ◌⊎◌, List, [], ◌∷◌, ◌++◌, Option, Some, None, Ok, inl, inr, sym, refl, ap, ◌∙◌, subst, Contains, Bool, map, ⊎_elim}
use Rattle.std.specs.Prelude.{IfSome}
use Rattle.cs_types.specs.declared.names.Window.{Window}
use Rattle.cs_types.specs.Members.{in_nil, in_map, from_map}
use Rattle.cs_link.specs.declared.batch.Batch.{Batch}
use Rattle.cs_link.specs.declared.feed.Feed.{Feed}
use Rattle.cs_link.specs.Batch.{IsFaithfulFirst, IsFaithfulPart, IsFaithfulOf, IsFaithful}
use Rattle.cs_link.specs.Honest.{IsHonestFor}
use Rattle.cs_link.specs.Reading.{Read, end_of}
use Rattle.cs_fetch.specs.Laws.{IsWellFormed}
use Rattle.cs_schedule.specs.declared.entry.Entry.{Entry}
use Rattle.cs_schedule.specs.declared.row.Row.{Row}
use Rattle.cs_schedule.specs.Board.{Shown, fresh}
use Rattle.cs_schedule.specs.Rows.{rows_of}
use Rattle.cs_schedule.specs.Consistent.{IsConsistent, known_by, born}
use Rattle.cs_schedule.specs.Follows.{IsBoardOf, IsFollowed, MayCome, MayComeOf, BatchKeepsConsistent}
use Rattle.cs_schedule.specs.Spelling.{IsInFormat}
use Rattle.cs_schedule.specs.Plan.{planned}
use Rattle.cs_schedule.specs.Update.{PlansOf, PlansFirst, applied}
use Rattle.cs_link.specs.declared.batch.NewChild.{NewChild}
use Rattle.cs_link.specs.Feed.{IsFeed}
use Rattle.cs_follow.specs.Own.{HasOwn, AreFollowing}
use Rattle.cs_follow.proofs.KeptRows.{Lasts, ends_last, brings_last, idles_last, opened_last}
use Rattle.cs_follow.proofs.Owning.{moved_own}
use Rattle.cs_follow.proofs.PlannedCases.{Ends, Brings, Idles, planned_ok, entry_cases}
use Rattle.cs_follow.proofs.Refusals.{same_part}
use Rattle.cs_book.specs.declared.lease.Lease.{Lease}
use Rattle.cs_follow.specs.Due.{IsLeaseOf}
use Rattle.cs_book.specs.Entries.{with_entry}
use Rattle.cs_follow.specs.Turn.{IsAtWork, IsSettled, StaysFollowing}
use Rattle.cs_follow.proofs.RowLemmas.{row_at}
use Rattle.cs_follow.proofs.Work.{lease_end}

module _ (w : Window) (es : List Entry) (b : Shown) (lease : Lease) (A : IsAtWork w es b lease) (x : Batch) (W : IsWellFormed lease.args lease.known x) (keeps : BatchKeepsConsistent) where
  -- a faithful batch may come
  module _ (f : Feed) (F : IsFaithful f (end_of lease.args) lease.known x) where
    at_end : end_of lease.args ≡ b.window.end
    at_end = (lease_end w b.rows lease A.of).1 ∙ ap (λ (v : Window). v.end) (sym A.afoot.window)

    pub may_come : MayCome f b x
    may_come = by A.of
      where
        by : IsLeaseOf w b.rows lease → MayCome f b x
        by (inl h) =
            let none : x.token ≡ None = W.token ∙ ap (λ (l : Lease). l.args.token) h.1 in
            let first : IsFaithfulFirst f x = subst (IsFaithfulOf f (end_of lease.args) lease.known x) none F in
            let start : x.start ≡ b.window.start = W.start ∙ ap (λ (l : Lease). l.args.start) h.1 ∙ ap (λ (v : Window). v.start) (sym A.afoot.window) in
            subst (MayComeOf f b x) (sym none) (h.0, first, start)
        by (inr h) =
            let token : x.token ≡ Some h.0.token = W.token ∙ ap (λ (l : Lease). l.args.token) h.2 in
            let G : IsFaithfulOf f (end_of lease.args) lease.known x (Some h.0.token) = subst (IsFaithfulOf f (end_of lease.args) lease.known x) token F in
            let known : lease.known ≡ known_by h.0 = ap (λ (l : Lease). l.known) h.2 in
            let part : IsFaithfulPart f b.window.end (known_by h.0) G.0 x = subst (λ k. IsFaithfulPart f b.window.end k G.0 x) known (subst (λ n. IsFaithfulPart f n lease.known G.0 x) at_end G.3) in
            subst (MayComeOf f b x) (sym token) (
              h.0,
              G.0,
              known_by h.0,
              row_at b.rows h.0.token h.0 A.afoot.ordered h.1.there refl,
              record { there = h.1.there; part = G.1; its = sym G.2; unfinished = h.1.unfinished; parents = h.1.parents; batch = part; covers = inr (refl, λ n k. k) },
            )

    -- seen changes are of their parts
    module _ (feed : IsFeed f) (own : (r : Row) → Contains (rows_of w.start es) r → HasOwn f r) where
      old_own : (y : Row) → Contains b.rows y → HasOwn f y
      old_own y i = own (fresh y) (subst (λ (v : Window). Contains (rows_of v.start es) (fresh y)) A.afoot.window ((A.afoot.board.rows (fresh y)).0 (in_map fresh y b.rows i)))

      none_own : (y : NewChild) → HasOwn f (born y)
      none_own y q i e = record { once = tt; each = λ n k. absurd (in_nil n k) }

      applied_own : (o : Option Entry) → PlansOf b.rows x x.token (Ok o) → (y : Row) → Contains (applied b.window.start b.rows o) y → HasOwn f y
      applied_own o plans = by A.of
        where
          by : IsLeaseOf w b.rows lease → (y : Row) → Contains (applied b.window.start b.rows o) y → HasOwn f y
          by (inl h) =
              let none : x.token ≡ None = W.token ∙ ap (λ (l : Lease). l.args.token) h.1 in
              let P : PlansFirst b.rows x.children (Ok o) = subst (λ t. PlansOf b.rows x t (Ok o)) none plans in
              opened_last (HasOwn f) b.window.start b.rows P.1 o h.0 P.2 (λ t. none_own (record { token = t; parents = []; start = b.window.start }))
          by (inr h) =
              let r = h.0 in
              let token : x.token ≡ Some r.token = W.token ∙ ap (λ (l : Lease). l.args.token) h.2 in
              let G : IsFaithfulOf f (end_of lease.args) lease.known x (Some r.token) = subst (IsFaithfulOf f (end_of lease.args) lease.known x) token F in
              let known : lease.known ≡ known_by r = ap (λ (l : Lease). l.known) h.2 in
              let part : IsFaithfulPart f (end_of lease.args) (known_by r) G.0 x = subst (λ k. IsFaithfulPart f (end_of lease.args) k G.0 x) known G.3 in
              let plan : planned b.rows r.token x ≡ Ok o = subst (λ t. PlansOf b.rows x t (Ok o)) token plans in
              let parts = planned_ok b.rows r.token r x o (row_at b.rows r.token r A.afoot.ordered h.1.there refl) plan in
              let lasts : Lasts (HasOwn f) b.rows r x = record {
                old = old_own;
                moved = moved_own f feed (end_of lease.args) r G.0 G.1 (sym G.2) x part (old_own r h.1.there) (λ p i e. same_part f feed p G.0 i G.1 e);
                new = λ y i. none_own y;
              } in
              ⊎_elim
              (λ (E : Ends r x o). ends_last (HasOwn f) b.window.start b.rows r x A.afoot.ordered h.1.there lasts o E)
              (λ (B : Brings r x o ⊎ Idles r x o). ⊎_elim (λ (B : Brings r x o). brings_last (HasOwn f) b.window.start b.rows r x A.afoot.ordered h.1.there lasts o B) (λ (I : Idles r x o). idles_last (HasOwn f) b.window.start b.rows r x A.afoot.ordered h.1.there lasts o I) B)
              (entry_cases r x o parts.1)

    stays : (o : Option Entry) → IsFollowed f w → PlansOf b.rows x x.token (Ok o) → IfSome o IsInFormat → IsConsistent f w es → IsConsistent f w (with_entry es o)
    stays None followed plans form S = S
    stays (Some e) followed plans form S =
        subst (λ v. IsConsistent f v (es ++ e ∷ [])) A.afoot.window
        (keeps f es b x e (subst (IsFollowed f) (sym A.afoot.window) followed) may_come plans form A.afoot.board (subst (λ v. IsConsistent f v es) (sym A.afoot.window) S))

    -- the entries with the one that is planned, whose board has the rows that it makes
    pub planned_follows : (o : Option Entry) (c : Shown) → PlansOf b.rows x x.token (Ok o) → IfSome o IsInFormat → c.window ≡ w → IsBoardOf (with_entry es o) c → ((y : Row) → Contains c.rows y → (z : Row) × Contains (applied b.window.start b.rows o) z × (fresh y ≡ fresh z)) → IsFollowed f w → AreFollowing f w es → AreFollowing f w (with_entry es o)
    planned_follows o c plans form window board from followed before = record {
      consistent = stays o followed plans form before.consistent;
      own = λ r i.
          let j : Contains (map fresh c.rows) r = (board.rows r).1 (subst (λ (v : Window). Contains (rows_of v.start (with_entry es o)) r) (sym window) i) in
          let u = from_map fresh r c.rows j in
          let z = from u.0 u.1 in
          subst (HasOwn f) (sym (u.2 ∙ z.2)) (applied_own followed.feed before.own o plans z.0 z.1);
    }

  -- over a link that is honest for the stream of the lease
  module _ (told : Option Feed) (present : Option (Option Read)) (honest : IsHonestFor w.stream told present → (f : Feed) → told ≡ Some f → IsFaithful f (end_of lease.args) lease.known x) where
    pub planned_stays : (o : Option Entry) (c : Shown) → PlansOf b.rows x x.token (Ok o) → IfSome o IsInFormat → c.window ≡ w → IsBoardOf (with_entry es o) c → ((y : Row) → Contains c.rows y → (z : Row) × Contains (applied b.window.start b.rows o) z × (fresh y ≡ fresh z)) → StaysFollowing w told present es (with_entry es o)
    planned_stays o c plans form window board from f followed tells H before = planned_follows f (honest H f tells) o c plans form window board from followed before

    pub settled_stays : (now : List Entry) (c : Shown) (caught_up : Bool) → IsSettled w es b x now c caught_up → StaysFollowing w told present es now
    settled_stays now c caught_up S =
        subst (StaysFollowing w told present es) (sym S.entries) (planned_stays S.planned c S.plans S.in_format S.afoot.window (subst (λ l. IsBoardOf l c) S.entries S.afoot.board) S.rows)

pub nothing_stays : (w : Window) (told : Option Feed) (present : Option (Option Read)) (es : List Entry) → StaysFollowing w told present es es
nothing_stays w told present es f followed tells H before = before
