-- What is planned of the batch of a lease that is out.
use Rattle.std.proofs.Common.{◌≡◌, ◌≤◌, ◌<◌, ◌^◌, ℕ, Bool, true, false, cond, not, ◌&&◌, List, [], ◌∷◌, ◌++◌, Option, Some, None, Ok, IfSome, sym, refl, ap, ◌∙◌, subst, bytes_eq, nat_le}
use Rattle.cs_types.specs.Members.{bytes_itself}
use Rattle.cs_types.specs.declared.change.Change.{Change}
use Rattle.cs_link.specs.declared.batch.Batch.{Batch}
use Rattle.cs_link.specs.declared.breach.Breach.{Breach}
use Rattle.cs_link.specs.declared.feed.Feed.{Feed}
use Rattle.cs_schedule.specs.declared.entry.Entry.{Entry}
use Rattle.cs_schedule.specs.declared.entry.Entry.TheVariants.{Progress, Finished}
use Rattle.cs_schedule.specs.declared.row.Row.{Row}
use Rattle.cs_schedule.specs.Board.{Shown, row_of}
use Rattle.cs_schedule.specs.Consistent.{IsConsistent, is_end, news, through_by}
use Rattle.cs_schedule.specs.Follows.{IsBoardOf, IsNextOf, IsFollowed, MayAdd, MayCome, NextIsFolded, MarkIsOfEntries, BatchKeepsConsistent}
use Rattle.cs_schedule.specs.Plan.{has_change, entry_with, judge, judged, planned_of}
use Rattle.cs_schedule.specs.Rows.{rows_of, low_watermark}
use Rattle.cs_schedule.specs.Spelling.{payload, IsInFormat}
use Rattle.cs_schedule.specs.Update.{Planned, PlansOf, applied}
use Rattle.cs_journal.specs.Rows.{limit}
use Rattle.cs_journal.specs.State.{length_after}
use Rattle.cs_book.specs.Format.{CanBeWritten}
use Rattle.cs_text.specs.Adding.{AreAdded}
use Rattle.cs_book.specs.declared.adding.Addition.{Addition}
use Rattle.cs_book.specs.Book.{BookState, IsSound, IsOut}
use Rattle.cs_book.specs.Entries.{with_entry}
use Rattle.cs_book.specs.Planned.{IsFit, IsAddition, AreAdditions, IsEntryFor}
use Rattle.cs_book.proofs.Tokens.{token_of}

-- what is to be written for the entry of this book, where there is one
abbrev pub AreAdditionsOf : {J O : Type 0} → BookState J O → Option Entry → Option Addition → Type 0
AreAdditionsOf b o p = AreAdditions b.board b.marked b.journal.gate o p

-- such a batch may be added
pub may_add : (b : Shown) (is_opening : Bool) (token : Option (List ℕ)) (x : Batch) → IsSound b is_opening → IsOut b is_opening token → x.token ≡ token → IsFit b.window x → CanBeWritten x → b.window.end < 2 ^ 64 → MayAdd b x
may_add b is_opening token x S out is F C range = record {
  first = λ none. (lists token out (sym is ∙ none), F.some none);
  going = λ t r named at. goes t r token out (sym is ∙ named) at;
  within = F.within;
  starts = F.starts;
  range = range;
  order = F.order;
  once = F.once;
  named = C.named;
  changes = C.changes;
  children = C.children;
}
  where
    lists : (t : Option (List ℕ)) → IsOut b is_opening t → t ≡ None → b.rows ≡ []
    lists None out none = S.first out
    lists (Some t) out none = absurd cc

    goes : (t : List ℕ) (r : Row) (u : Option (List ℕ)) → IsOut b is_opening u → u ≡ Some t → row_of b.rows t ≡ Some r → (r.finished ≡ false) × (r.through ≤ b.window.end)
    goes t r None out named at = absurd cc
    goes t r (Some u) out named at =
        let same : u ≡ t = cc in
        let rows : Some out.0 ≡ Some r = sym out.1 ∙ ap (row_of b.rows) same ∙ at in
        let row : out.0 ≡ r = cc in
        let leased : r.leased ≡ true = subst (λ (z : Row). z.leased ≡ true) row out.2 in
        let there = (token_of b.rows t r at).0 in
        ((S.leased r there leased).unfinished, (S.within r there).end)

-- the entry that is planned of a batch is of its token
pub entry_for : (rows : List Row) (x : Batch) (token : Option (List ℕ)) (o : Option Entry) → PlansOf rows x token (Ok o) → IsEntryFor token o
unfolding entry_with
entry_for rows x None o P = subst (IsEntryFor None) (sym P.2) (P.1, refl)
entry_for rows x (Some t) o P = by (row_of rows t) refl P
  where
    of_row : (r : Row) (n : ℕ) (cs : List Change) → r.token ≡ t → IsEntryFor (Some t) (entry_with r x n cs)
    of_row r n cs same = cases (is_end x.ending) (not (has_change cs) && nat_le x.through r.through)
      where
        its : bytes_eq r.token t ≡ true
        its = subst (λ z. bytes_eq z t ≡ true) (sym same) (bytes_itself t)

        cases : (a b : Bool) → IsEntryFor (Some t) (cond a (Some (Finished r.token n cs x.children)) (cond b None (Some (Progress r.token n cs))))
        cases true b = its
        cases false true = tt
        cases false false = its

    taken : (j : Option Breach) (e : Option Entry) → judged j e ≡ Ok o → o ≡ e
    taken None e h = cc
    taken (Some breach) e h = absurd cc

    by : (r : Option Row) → row_of rows t ≡ r → planned_of rows r x ≡ Ok o → IsEntryFor (Some t) o
    by None at h = let none : o ≡ None = cc in subst (IsEntryFor (Some t)) (sym none) tt
    by (Some r) at h = subst (IsEntryFor (Some t)) (sym (taken (judge rows r x) (entry_with r x (through_by r x) (news r x)) h)) (of_row r (through_by r x) (news r x) (token_of rows t r at).1)

-- the low watermark with the entry of a plan
pub mark_after : NextIsFolded → MarkIsOfEntries → (b : Shown) (p : Planned) → IsNextOf b p → (es : List Entry) (e : Entry) → IsBoardOf es b → p.entry ≡ Some e
    → low_watermark b.window.end (applied b.window.start b.rows p.entry) ≡ low_watermark b.window.end (rows_of b.window.start (es ++ e ∷ []))
mark_after folded marks b p N es e of is =
    let after : Shown = record { window = b.window; rows = applied b.window.start b.rows p.entry; room = 0 } in
    marks (es ++ e ∷ []) after (folded es b after p e of N is refl refl)

-- what is made for the entry of a plan
pub additions : (b : Shown) (m gate : ℕ) (o : Option Entry) (e : Entry) (a : Addition) (mark : Option ℕ) → o ≡ Some e → AreAdded e m mark a.text a.marked
    → ((es : List Entry) (x : Entry) → IsBoardOf es b → o ≡ Some x → mark ≡ low_watermark b.window.end (rows_of b.window.start (es ++ x ∷ [])))
    → a.framed ≡ payload e → length_after gate (payload e) ≤ limit → 1 ≤ a.marked → AreAdditions b m gate o (Some a)
additions b m gate None e a mark is added low framed fits least = absurd cc
additions b m gate (Some x) e a mark is added low framed fits least =
    let same : e ≡ x = cc in
    subst (λ (y : Entry). IsAddition b m gate y a) same
    (record {
      bytes = framed;
      fits = fits;
      text = λ es rows marked. added b.window es marked (low es e rows is);
      least = least;
    })

-- the entry that is planned, or none, keeps consistent entries so
pub keeps_plan : BatchKeepsConsistent → (b : Shown) (x : Batch) (o : Option Entry) → PlansOf b.rows x x.token (Ok o) → IfSome o IsInFormat → (f : Feed) (es : List Entry) → IsFollowed f b.window → MayCome f b x → IsBoardOf es b → IsConsistent f b.window es → IsConsistent f b.window (with_entry es o)
keeps_plan law b x None P form f es followed may of holds = holds
keeps_plan law b x (Some e) P form f es followed may of holds = law f es b x e followed may P form of holds
