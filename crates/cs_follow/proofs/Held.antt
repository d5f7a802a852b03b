-- What a lease taken of a book meets, and what becomes of it.
use Rattle.std.proofs.Common.{◌≡◌, ◌≢◌, ◌⊎◌, ℕ, Bool, true, false, ◌||◌, true≢false, List, [], ◌∷◌, ◌++◌, map, Option, None, Some, Ok, ⊎_elim, inl, inr, sym, refl, ap, ◌∙◌, subst}
use Rattle.std.specs.Prelude.{IfSome}
use Rattle.cs_types.specs.Members.{from_map, in_head, in_tail}
use Rattle.cs_device.specs.Crash.{Crash, CrashesLeave, crashes_now, crashes_weaker}
use Rattle.cs_journal.specs.State.{IsSettled as IsJournalSettled}
use Rattle.cs_link.specs.declared.batch.Batch.{Batch}
use Rattle.cs_schedule.specs.declared.entry.Entry.{Entry}
use Rattle.cs_schedule.specs.declared.row.Row.{Row}
use Rattle.cs_schedule.specs.Board.{Shown, IsOrdered, fresh, leased, changed_at}
use Rattle.cs_schedule.specs.Consistent.{IsReady}
use Rattle.cs_schedule.specs.Follows.{IsBoardOf, IsNextOf, FreshIsNoEntry, NextIsFolded}
use Rattle.cs_schedule.specs.Spelling.{IsInFormat}
use Rattle.cs_schedule.specs.Update.{Planned, PlansOf, applied}
use Rattle.cs_book.specs.declared.claim.Claim.{Claim}
use Rattle.cs_book.specs.declared.claim.Claim.TheVariants as claims
use Rattle.cs_book.specs.declared.lease.Lease.{Lease}
use Rattle.cs_book.specs.Book.{BookState, IsRunning, AreEntriesOf, rows_back, opening_back}
use Rattle.cs_book.specs.Claim.{IsNext, IsLeasedRow, is_leased, opening_after, HasLeaseOut}
use Rattle.cs_follow.specs.Due.{at_rest}
use Rattle.cs_book.specs.Entries.{HoldsEntries, HoldsBeforeOrAfter, with_entry}
use Rattle.cs_book.specs.Lease.{row_lease}
use Rattle.cs_follow.specs.Turn.{IsAfoot, IsIdle, IsHeld, IsLeft, IsPlannedOf, HoldsOldOrPlanned, OnlyReads}
use Rattle.cs_book.specs.Waiting.{AreFree, AreFinished, AreWithin, IsWithin, IsOrphan}
use Rattle.cs_follow.proofs.AtRest.{fresh_applied, fresh_plans, fresh_ordered, fresh_free, fresh_ready, leased_same, back_same, leased_only, applied_only, back_free}

-- ---- boards at rest

pub within_rest : (e : ℕ) (rows : List Row) → AreWithin e rows → AreWithin e (map fresh rows)
within_rest e rows W y i = let u = from_map fresh y rows i in let w = W u.0 u.1 in subst (IsWithin e) (sym u.2) (record { start = w.start; end = w.end })

pub rest_afoot : FreshIsNoEntry → (es : List Entry) (b : Shown) → IsBoardOf es b → IsOrdered b.rows → AreWithin b.window.end b.rows → IsAfoot b.window es (at_rest b)
rest_afoot fresh_is es b B O W = record {
  window = refl;
  board = fresh_is es b (at_rest b) refl refl B;
  ordered = fresh_ordered b.rows O;
  free = fresh_free b.rows;
  within = within_rest b.window.end b.rows W;
}

-- ---- a lease that was taken

pub row_held : {J O : Type 0} (old new : BookState J O) (lease : Lease) (order : ℕ) → IsIdle old → IsNext old.board new.board old.is_opening order (claims.Row lease) → new.is_opening ≡ old.is_opening → HasLeaseOut new.board new.is_opening (claims.Row lease) → IsHeld new lease
row_held old new lease order I N same out =
    let L : IsLeasedRow old.board N.0 new.board lease = N.2 in
    let rows : new.board.rows ≡ changed_at leased N.0 old.board.rows = L.leased.1 in
    let rest : map fresh new.board.rows ≡ map fresh old.board.rows = ap (map fresh) rows ∙ leased_same N.0 old.board.rows in
    let token : lease.args.token ≡ Some L.row.token = ap (λ (l : Lease). l.args.token) L.its in
    record {
      due = inr (fresh L.row, subst (λ l. IsReady l (fresh L.row)) (sym rest) (fresh_ready old.board.rows L.row L.ready), L.its ∙ ap (λ v. row_lease v L.row) (sym L.leased.0));
      out = out;
      only = subst (λ t. OnlyReads t new.board.rows) (sym token) (subst (OnlyReads (Some L.row.token)) (sym rows) (leased_only old.board.rows N.0 L.row I.free L.inside L.at));
      closed = λ some. same ∙ I.closed;
    }

-- ---- given back, and put

module _ {J O : Type 0} (seen : J → Option (List ℕ)) (text : O → Option (List ℕ)) (old new : BookState J O) (lease : Lease) (H : IsHeld old lease) (ordered : IsOrdered old.board.rows) where
  closed_back : new.is_opening ≡ opening_back lease.args.token old.is_opening → new.is_opening ≡ false
  closed_back is = by lease.args.token refl is
    where
      by : (t : Option (List ℕ)) → lease.args.token ≡ t → new.is_opening ≡ opening_back t old.is_opening → new.is_opening ≡ false
      by None q k = k
      by (Some t) q k = k ∙ H.closed (λ none. let no : None ≡ Some t = sym none ∙ q in cc)

  -- a lease of which nothing is committed
  pub left_back : (caught_up : Bool) (es : List Entry) → IsRunning new → AreEntriesOf seen text new es → new.journal.gate ≡ old.journal.gate → new.board.rows ≡ rows_back lease.args.token caught_up old.board.rows → new.is_opening ≡ opening_back lease.args.token old.is_opening → IsLeft seen text old new es
  left_back caught_up es running entries gate rows opening = record {
    idle = record {
      running = running;
      free = subst AreFree (sym rows) (back_free lease.args.token caught_up old.board.rows ordered H.only);
      closed = closed_back opening;
    };
    entries = entries;
    rows = ap (map fresh) rows ∙ back_same lease.args.token caught_up old.board.rows;
    gate = gate;
  }

  -- the rows with an entry, and the lease given back
  module _ (o : Option Entry) (caught_up : Bool) (rows : new.board.rows ≡ rows_back lease.args.token caught_up (applied old.board.window.start old.board.rows o)) (mid : IsOrdered (applied old.board.window.start old.board.rows o)) where
    pub put_rest : map fresh new.board.rows ≡ applied old.board.window.start (map fresh old.board.rows) o
    put_rest = ap (map fresh) rows ∙ back_same lease.args.token caught_up (applied old.board.window.start old.board.rows o) ∙ fresh_applied old.board.window.start old.board.rows o

    pub put_idle : IsRunning new → new.is_opening ≡ opening_back lease.args.token old.is_opening → IsIdle new
    put_idle running opening = record {
      running = running;
      free = subst AreFree (sym rows) (back_free lease.args.token caught_up (applied old.board.window.start old.board.rows o) mid (applied_only lease.args.token old.board.window.start old.board.rows o H.only));
      closed = closed_back opening;
    }

-- ---- what a crash leaves

pub quiet_planned : (b : Shown) (x : Batch) (es : List Entry) (seen : Option (List ℕ)) (crash : Crash) (gate : ℕ) → IfSome seen (λ bytes. HoldsEntries bytes es) → IsJournalSettled seen crash gate → IfSome seen (λ _. CrashesLeave (HoldsOldOrPlanned b x es) crash crash)
quiet_planned b x es None crash gate held settled = tt
quiet_planned b x es (Some bytes) crash gate held settled = crashes_now (HoldsOldOrPlanned b x es) crash (λ image left. inl (subst (λ i. HoldsEntries i es) (sym (settled.durable image left)) held))

pub put_planned : (b : Shown) (x : Batch) (es : List Entry) (o : Option Entry) (seen : Option (List ℕ)) (old new : Crash) → ((e : Entry) → o ≡ Some e → IsPlannedOf b x es e) → IfSome seen (λ bytes. HoldsEntries bytes es)
    → IfSome seen (λ bytes. (xs : List Entry) → HoldsEntries bytes xs → CrashesLeave (HoldsBeforeOrAfter xs o) old new) → IfSome seen (λ _. CrashesLeave (HoldsOldOrPlanned b x es) old new)
put_planned b x es o None old new planned held left = tt
put_planned b x es o (Some bytes) old new planned held left =
    crashes_weaker (HoldsBeforeOrAfter es o) (HoldsOldOrPlanned b x es) old new (λ image h. by o refl image h) (left es held)
  where
    by : (p : Option Entry) → o ≡ p → (image : List ℕ) → HoldsEntries image es ⊎ HoldsEntries image (with_entry es p) → HoldsOldOrPlanned b x es image
    by p q image (inl h) = inl h
    by None q image (inr h) = inl h
    by (Some e) q image (inr h) = inr (e, planned e q, h)

-- the entry of a plan that may be taken in
pub planned_of_next : NextIsFolded → FreshIsNoEntry → (b : Shown) (x : Batch) (p : Planned) (es : List Entry) (e : Entry) → IsNextOf b p → PlansOf b.rows x x.token (Ok p.entry) → IsBoardOf es b → p.entry ≡ Some e → IsPlannedOf (at_rest b) x es e
planned_of_next folded fresh_is b x p es e N plans B is =
    let c : Shown = record { window = b.window; rows = applied b.window.start b.rows p.entry; room = b.room } in
    let board : IsBoardOf (es ++ e ∷ []) c = folded es b c p e B N is refl refl in
    let rest : IsBoardOf (es ++ e ∷ []) (at_rest c) = fresh_is (es ++ e ∷ []) c (at_rest c) refl refl board in
    let rows : map fresh (applied b.window.start b.rows p.entry) ≡ applied b.window.start (map fresh b.rows) (Some e) = fresh_applied b.window.start b.rows p.entry ∙ ap (applied b.window.start (map fresh b.rows)) is in
    record {
      plans = subst (λ o. PlansOf (map fresh b.rows) x x.token (Ok o)) is (fresh_plans b.rows x x.token (Ok p.entry) plans);
      in_format = subst (λ o. IfSome o IsInFormat) is N.in_format;
      board = subst (λ l. IsBoardOf (es ++ e ∷ []) (record { window = b.window; rows = l; room = b.room })) rows rest;
    }

-- ---- claims without a lease

free_none : (rows : List Row) → AreFree rows → is_leased rows ≡ false
free_none [] free = refl
free_none (r ∷ rows) free = by r.leased (free r (in_head r rows)) (free_none rows (λ y i. free y (in_tail r y rows i)))
  where
    by : (b : Bool) → b ≡ false → is_leased rows ≡ false → (b || is_leased rows) ≡ false
    by true q k = absurd (true≢false q)
    by false q k = k

-- where nothing is leased nobody is busy
pub busy_never : {J O : Type 0} (old new : BookState J O) (order : ℕ) (claim : Claim) → claim ≡ claims.Busy → IsIdle old → IsNext old.board new.board old.is_opening order claim → ⊥
busy_never old new order claim is I N = by (subst (IsNext old.board new.board old.is_opening order) is N)
  where
    by : IsNext old.board new.board old.is_opening order claims.Busy → ⊥
    by M = ⊎_elim
        (λ (h : (old.board.rows ≡ []) × (old.is_opening ≡ true)). true≢false (sym h.1 ∙ I.closed))
        (λ (h : (old.board.rows ≢ []) × (is_leased old.board.rows ≡ true)). true≢false (sym h.1 ∙ free_none old.board.rows I.free))
        M.1

-- a row's lease
pub row_taken : {J O : Type 0} (old new : BookState J O) (lease : Lease) (order : ℕ) (claim : Claim) → claim ≡ claims.Row lease → IsIdle old → IsNext old.board new.board old.is_opening order claim → new.is_opening ≡ opening_after claim old.is_opening → HasLeaseOut new.board new.is_opening claim → IsHeld new lease
row_taken old new lease order claim is I N opening out =
    row_held old new lease order I (subst (IsNext old.board new.board old.is_opening order) is N) (opening ∙ ap (λ c. opening_after c old.is_opening) is) (subst (HasLeaseOut new.board new.is_opening) is out)

pub row_rest : {J O : Type 0} (old new : BookState J O) (lease : Lease) (order : ℕ) (claim : Claim) → claim ≡ claims.Row lease → IsNext old.board new.board old.is_opening order claim → (new.board.window ≡ old.board.window) × (at_rest new.board ≡ at_rest old.board)
row_rest old new lease order claim is N = by (subst (IsNext old.board new.board old.is_opening order) is N)
  where
    by : IsNext old.board new.board old.is_opening order (claims.Row lease) → (new.board.window ≡ old.board.window) × (at_rest new.board ≡ at_rest old.board)
    by M =
        let L : IsLeasedRow old.board M.0 new.board lease = M.2 in
        let rest : map fresh new.board.rows ≡ map fresh old.board.rows = ap (map fresh) L.leased.1 ∙ leased_same M.0 old.board.rows in (
          L.leased.0,
          ap (λ v. record { window = v; rows = map fresh new.board.rows; room = new.board.room }) L.leased.0
              ∙ ap (λ l. record { window = old.board.window; rows = l; room = new.board.room }) rest
              ∙ ap (λ n. record { window = old.board.window; rows = map fresh old.board.rows; room = n }) L.room,
        )

pub idle_still : {J O : Type 0} (old new : BookState J O) → IsIdle old → new.journal ≡ old.journal → new.output_failed ≡ old.output_failed → new.board ≡ old.board → new.is_opening ≡ old.is_opening → IsIdle new
idle_still old new I journal output board opening = record {
  running = record { journal = ap (λ j. j.failed) journal ∙ I.running.journal; output = output ∙ I.running.output };
  free = subst (λ (b : Shown). AreFree b.rows) (sym board) I.free;
  closed = opening ∙ I.closed;
}

pub orphan_claim : (b c : Shown) (is_opening : Bool) (order : ℕ) (claim : Claim) (row parent : List ℕ) → claim ≡ claims.Orphan row parent → IsNext b c is_opening order claim → IsOrphan b.rows row parent × (c ≡ b)
orphan_claim b c is_opening order claim row parent is N = by (subst (IsNext b c is_opening order) is N)
  where
    by : IsNext b c is_opening order (claims.Orphan row parent) → IsOrphan b.rows row parent × (c ≡ b)
    by M = (M.2, M.3)

pub done_claim : (b c : Shown) (is_opening : Bool) (order : ℕ) (claim : Claim) → claim ≡ claims.Done → IsNext b c is_opening order claim → (b.rows ≢ []) × AreFinished b.rows × (c ≡ b)
done_claim b c is_opening order claim is N = subst (IsNext b c is_opening order) is N
