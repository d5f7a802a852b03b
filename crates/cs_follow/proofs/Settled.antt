-- What becomes of a board and its entries when a batch was taken in.
use Rattle.std.specs.Prelude.{IfSome}
use Rattle.std.proofs.Common.{◌≡◌, ◌⊎◌, ℕ, suc, ◌<◌, ◌≤◌, Bool, false, not, List, [], Option, Some, None, Ok, ⊎_elim, inl, inr, sym, refl, ap, ◌∙◌, subst, arith, true≢false, Contains}
use Rattle.cs_types.specs.declared.change.Change.{Change}
use Rattle.cs_types.specs.declared.names.Window.{Window}
use Rattle.cs_types.specs.Members.{in_filter}
use Rattle.cs_link.specs.declared.batch.Batch.{Batch}
use Rattle.cs_link.specs.declared.batch.Ending.{Ending}
use Rattle.cs_link.specs.declared.batch.Known.{Known}
use Rattle.cs_link.specs.Batch.{is_known}
use Rattle.cs_link.specs.Pace.{Grows, GrowsBy, HasGrown}
use Rattle.cs_fetch.specs.Laws.{IsWellFormed}
use Rattle.cs_schedule.specs.declared.entry.Entry.{Entry}
use Rattle.cs_schedule.specs.declared.row.Row.{Row}
use Rattle.cs_schedule.specs.Board.{Shown}
use Rattle.cs_schedule.specs.Consistent.{IsReady, is_end, news, known_by}
use Rattle.cs_schedule.specs.Spelling.{IsInFormat}
use Rattle.cs_schedule.specs.Plan.{planned, judge}
use Rattle.cs_schedule.specs.Update.{PlansOf, PlansFirst, applied}
use Rattle.cs_book.specs.declared.lease.Lease.{Lease}
use Rattle.cs_follow.specs.Due.{IsLeaseOf}
use Rattle.cs_book.specs.Waiting.{IsWithin}
use Rattle.cs_follow.specs.Left.{left_of}
use Rattle.cs_book.specs.Entries.{with_entry}
use Rattle.cs_book.specs.Planned.{IsFit, is_caught_up}
use Rattle.cs_follow.specs.Turn.{IsAfoot, IsAtWork, IsSettled}
use Rattle.cs_follow.proofs.KeptRows.{Lasts, ends_last, brings_last, idles_last, opened_last, lasting, lasting_first}
use Rattle.cs_follow.proofs.Lowering.{finished_less, progress_less, idle_same}
use Rattle.cs_follow.proofs.OpeningLeft.{opened_less}
use Rattle.cs_follow.proofs.PlannedCases.{Ends, Brings, Idles, planned_ok, entry_cases, has_some}
use Rattle.cs_follow.proofs.RowLemmas.{row_at}
use Rattle.cs_follow.proofs.Small.{le_true}

-- what a plan makes of the rows: nothing is leased, all is within the window, and less is left, or as much where the batch caught up
pub record Made (e : ℕ) (s : ℕ) (rows : List Row) (batch : Batch) (o : Option Entry) : Type 0 where
  pub all : (y : Row) → Contains (applied s rows o) y → (y.leased ≡ false) × IsWithin e y
  pub left : left_of e (applied s rows o) ≤ left_of e rows
  pub less : is_caught_up batch.ending ≡ false → left_of e (applied s rows o) < left_of e rows

-- a batch that neither ended nor caught up has grown
grown : (known : Known) (b : Batch) (ending : Ending) → GrowsBy known b ending → is_end ending ≡ false → is_caught_up ending ≡ false → HasGrown known b
grown known b Ending.Finished G end caught = absurd (true≢false end)
grown known b (Ending.CaughtUp at) G end caught = absurd (true≢false caught)
grown known b Ending.Cut G end caught = G
grown known b Ending.Full G end caught = G

module _ (w : Window) (es : List Entry) (b : Shown) (lease : Lease) (order : w.start ≤ w.end) (A : IsAtWork w es b lease) (x : Batch) (W : IsWellFormed lease.args lease.known x) (G : Grows lease.known x) (M : IsFit w x) where
  -- of a row
  module _ (r : Row) (R : IsReady b.rows r) (known : lease.known ≡ known_by r) (o : Option Entry) (judged : judge b.rows r x ≡ None) where
    top : (c : Change) → Contains x.changes c → (c.stamp ≤ suc x.through) × (is_known (known_by r) c ≡ false)
    top c i = let u = W.top c i in (u.0, subst (λ k. is_known k c ≡ false) known u.2)

    low : x.through ≤ w.end
    low = M.within

    lasts : Lasts (λ y. (y.leased ≡ false) × IsWithin w.end y) b.rows r x
    lasts = lasting w.end b.rows r x A.afoot.free A.afoot.within R.there low M.starts

    idle_grows : Idles r x o → is_caught_up x.ending ≡ false → ⊥
    idle_grows I caught =
        ⊎_elim
        (λ (c : (c : Change) × Contains x.changes c).
        let new = in_filter (λ d. not (is_known (known_by r) d)) c.0 x.changes c.1 (ap not (top c.0 c.1).1) in
        true≢false (sym (has_some (news r x) c.0 new) ∙ I.nothing))
        (λ (up : lease.known.through < x.through).
        let same : lease.known.through ≡ r.through = ap (λ (k : Known). k.through) known in
        let low_too = le_true x.through r.through I.low in
        omega (arith, up, same, low_too))
        (grown lease.known x x.ending G I.going caught)

    row_made : Ends r x o ⊎ (Brings r x o ⊎ Idles r x o) → Made w.end b.window.start b.rows x o
    row_made (inl E) =
        let less = finished_less w.end b.window.start b.rows r x A.afoot.ordered R.there R.unfinished (A.afoot.within r R.there).end low top judged o E in
        record {
          all = ends_last (λ y. (y.leased ≡ false) × IsWithin w.end y) b.window.start b.rows r x A.afoot.ordered R.there lasts o E;
          left = omega (arith, less);
          less = λ _. less;
        }
    row_made (inr (inl B)) =
        let less = progress_less w.end b.window.start b.rows r x A.afoot.ordered R.there R.unfinished (A.afoot.within r R.there).end low top judged o B in
        record {
          all = brings_last (λ y. (y.leased ≡ false) × IsWithin w.end y) b.window.start b.rows r x A.afoot.ordered R.there lasts o B;
          left = omega (arith, less);
          less = λ _. less;
        }
    row_made (inr (inr I)) =
        let same : left_of w.end (applied b.window.start b.rows o) ≡ left_of w.end b.rows = ap (left_of w.end) (idle_same w.end b.window.start b.rows r x A.afoot.ordered R.there R.unfinished (A.afoot.within r R.there).end low top judged o I) in
        record {
          all = idles_last (λ y. (y.leased ≡ false) × IsWithin w.end y) b.window.start b.rows r x A.afoot.ordered R.there lasts o I;
          left = omega (arith, same);
          less = λ caught. absurd (idle_grows I caught);
        }

  -- of the parts at the window's start
  first_made : (o : Option Entry) → b.rows ≡ [] → x.token ≡ None → PlansFirst b.rows x.children (Ok o) → Made w.end b.window.start b.rows x o
  first_made o empty none P =
      let start : b.window.start ≤ w.end = subst (λ (v : Window). v.start ≤ w.end) (sym A.afoot.window) order in
      let less = opened_less w.end b.window.start b.rows x.children P.1 o empty (M.some none) P.0 P.3 P.2 in
      record {
        all = opened_last (λ y. (y.leased ≡ false) × IsWithin w.end y) b.window.start b.rows P.1 o empty P.2 (lasting_first w.end b.window.start start);
        left = omega (arith, less);
        less = λ _. less;
      }

  pub made : (o : Option Entry) → PlansOf b.rows x x.token (Ok o) → Made w.end b.window.start b.rows x o
  made o P = by A.of
    where
      by : IsLeaseOf w b.rows lease → Made w.end b.window.start b.rows x o
      by (inl h) =
          let none : x.token ≡ None = W.token ∙ ap (λ (l : Lease). l.args.token) h.1 in
          first_made o h.0 none (subst (λ t. PlansOf b.rows x t (Ok o)) none P)
      by (inr h) =
          let token : x.token ≡ Some h.0.token = W.token ∙ ap (λ (l : Lease). l.args.token) h.2 in
          let plan : planned b.rows h.0.token x ≡ Ok o = subst (λ t. PlansOf b.rows x t (Ok o)) token P in
          let parts = planned_ok b.rows h.0.token h.0 x o (row_at b.rows h.0.token h.0 A.afoot.ordered h.1.there refl) plan in
          row_made h.0 h.1 (ap (λ (l : Lease). l.known) h.2) o parts.0 (entry_cases h.0 x o parts.1)

  -- with the entry that is planned, where it makes one
  abbrev pub settled : (now : List Entry) (c : Shown) (o : Option Entry) (caught_up : Bool) → PlansOf b.rows x x.token (Ok o) → IfSome o IsInFormat → now ≡ with_entry es o → c.rows ≡ applied b.window.start b.rows o → IsAfoot w now c → is_caught_up x.ending ≡ caught_up → IsSettled w es b x now c caught_up
  settled now c o caught_up plans form entries rows afoot ending =
      let m = made o plans in
      let same : left_of w.end c.rows ≡ left_of w.end (applied b.window.start b.rows o) = ap (left_of w.end) rows in
      record {
        planned = o;
        plans = plans;
        in_format = form;
        entries = entries;
        rows = λ y i. (y, subst (λ l. Contains l y) rows i, refl);
        afoot = afoot;
        ending = ending;
        left = let l = m.left in omega (arith, same, l);
        less = λ q. let l = m.less (ending ∙ q) in omega (arith, same, l);
      }
