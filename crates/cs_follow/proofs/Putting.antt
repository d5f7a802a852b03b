-- A batch is taken into the book of a lease.
use Rattle.std.proofs.Common.{◌≡◌, ℕ, ◌≤◌, Bool, List, map, Option, Some, Ok, Err, sym, refl, subst}
use Rattle.std.specs.Prelude.{IfSome}
use Rattle.cs_device.specs.Crash.{Crash, CrashesLeave}
use Rattle.cs_link.specs.declared.batch.Batch.{Batch}
use Rattle.cs_link.specs.Pace.{Grows}
use Rattle.cs_fetch.specs.Laws.{Fits, IsWithin as LeaseIsWithin, IsWellFormed}
use Rattle.cs_schedule.specs.declared.entry.Entry.{Entry}
use Rattle.cs_schedule.specs.declared.plan.PlanFault.TheVariants as faults
use Rattle.cs_schedule.specs.Board.{IsOrdered, fresh}
use Rattle.cs_schedule.specs.Follows.{IsNextOf, FreshIsNoEntry, NextIsFolded}
use Rattle.cs_schedule.specs.Update.{Planned, PlansOf, applied}
use Rattle.cs_book.specs.declared.fault.ReserveFault.{ReserveFault}
use Rattle.cs_book.specs.declared.fault.ReserveFault.TheVariants as reserve
use Rattle.cs_book.specs.declared.lease.Lease.{Lease}
use Rattle.cs_book.specs.Book.{BookState, IsRunning, AreEntriesOf, IsSound, rows_back, opening_back}
use Rattle.cs_book.specs.Entries.{HoldsEntries, HoldsBeforeOrAfter, with_entry, gate_after}
use Rattle.cs_book.specs.Planned.{IsFit, Reserves, is_caught_up}
use Rattle.cs_follow.specs.declared.outcome.Outcome.{Outcome}
use Rattle.cs_follow.specs.declared.turn.Turn.TheVariants as turns
use Rattle.cs_follow.specs.Due.{at_rest}
use Rattle.cs_follow.specs.Turn.{IsAfoot, IsAtWork, IsHeld, IsLeft, IsPut, HoldsOldOrPlanned, NotReservedAs, Settles}
use Rattle.cs_follow.proofs.AtRest.{fresh_plans}
use Rattle.cs_follow.proofs.Held.{within_rest, rest_afoot, put_rest, put_idle, put_planned, planned_of_next}
use Rattle.cs_follow.proofs.Settled.{settled}
use Rattle.cs_follow.proofs.Work.{fit, lease_fits, lease_within}

module _ {J O : Type 0} (seen : J → Option (List ℕ)) (text : O → Option (List ℕ)) (old : BookState J O) (lease : Lease) (first : 1 ≤ old.board.window.start) (S : IsSound old.board old.is_opening) (H : IsHeld old lease) where
  pub held_fit : (x : Batch) → IsWellFormed lease.args lease.known x → IsFit old.board.window x
  held_fit x W = fit old.board.window (map fresh old.board.rows) lease first S.order (within_rest old.board.window.end old.board.rows S.within) H.due x W

  pub held_fits : Fits lease.args lease.known
  held_fits = lease_fits old.board.window (map fresh old.board.rows) lease first S.order (within_rest old.board.window.end old.board.rows S.within) H.due

  pub held_within : LeaseIsWithin lease.args lease.known
  held_within = lease_within old.board.window (map fresh old.board.rows) lease first S.order (within_rest old.board.window.end old.board.rows S.within) H.due

  module _ (fresh_is : FreshIsNoEntry) (ordered : IsOrdered old.board.rows) where
    pub held_work : (es : List Entry) → AreEntriesOf seen text old es → IsAtWork old.board.window es (at_rest old.board) lease
    held_work es E = record { afoot = rest_afoot fresh_is es old.board E.rows ordered S.within; of = H.due }

    module _ (new : BookState J O) (x : Batch) (p : Planned) (N : IsNextOf old.board p) (plans : PlansOf old.board.rows x x.token (Ok p.entry)) where
      mid : IsOrdered (applied old.board.window.start old.board.rows p.entry)
      mid = subst IsOrdered N.plan.rows N.plan.ordered

      -- with Ok
      pub put_is : (caught_up : Bool) (es : List Entry) → IsWellFormed lease.args lease.known x → Grows lease.known x → AreEntriesOf seen text old es → AreEntriesOf seen text new (with_entry es p.entry) → IsRunning new → new.board.window ≡ old.board.window
          → (back : Bool) → new.board.rows ≡ rows_back lease.args.token back (applied old.board.window.start old.board.rows p.entry) → new.is_opening ≡ opening_back lease.args.token old.is_opening → IsSound new.board new.is_opening → IsOrdered new.board.rows
          → is_caught_up x.ending ≡ caught_up → new.journal.gate ≡ gate_after old.journal.gate p.entry → IsPut seen text old new es x caught_up
      put_is caught_up es W G E now running window back rows opening sound ordered_now ending gate = record {
        now = with_entry es p.entry;
        idle = put_idle seen text old new lease H ordered p.entry back rows mid running opening;
        entries = now;
        settled = settled old.board.window es (at_rest old.board) lease S.order (held_work es E) x W G (held_fit x W) (with_entry es p.entry) (at_rest new.board) p.entry caught_up
            (fresh_plans old.board.rows x x.token (Ok p.entry) plans) N.in_format refl (put_rest seen text old new lease H ordered p.entry back rows mid)
            (subst (λ v. IsAfoot v (with_entry es p.entry) (at_rest new.board)) window (rest_afoot fresh_is (with_entry es p.entry) new.board now.rows ordered_now sound.within)) ending;
        gate = gate;
      }

      -- what a crash leaves meanwhile
      pub put_crashes : NextIsFolded → (es : List Entry) (crash crash_now : Crash) → AreEntriesOf seen text old es → IfSome (seen old.journal.disk) (λ bytes. (xs : List Entry) → HoldsEntries bytes xs → CrashesLeave (HoldsBeforeOrAfter xs p.entry) crash crash_now) → IfSome (seen old.journal.disk) (λ _. CrashesLeave (HoldsOldOrPlanned (at_rest old.board) x es) crash crash_now)
      put_crashes folded es crash crash_now E left = put_planned (at_rest old.board) x es p.entry (seen old.journal.disk) crash crash_now (λ e is. planned_of_next folded fresh_is old.board x p es e N plans E.rows is) E.held left

-- why nothing was reserved
pub not_reserved : {J O : Type 0} (seen : J → Option (List ℕ)) (text : O → Option (List ℕ)) (rosej roseo : Type 0) (old new : BookState J O) (es : List Entry) (x : Batch) (fault : ReserveFault) (o : Outcome) → IsLeft seen text old new es → Reserves old x (Err fault) → NotReservedAs fault o → Settles seen text rosej roseo old new es x (turns.Stops o)
not_reserved seen text rosej roseo old new es x (reserve.Breach breach) o L R t = subst (λ z. Settles seen text rosej roseo old new es x (turns.Stops z)) (sym t) (L, fresh_plans old.board.rows x x.token (Err (faults.Breach breach)) R)
not_reserved seen text rosej roseo old new es x (reserve.Full n) o L R t = subst (λ z. Settles seen text rosej roseo old new es x (turns.Stops z)) (sym t) (L, (R.0, fresh_plans old.board.rows x x.token (Ok (Some R.0)) R.1, R.2, R.3, R.4))
not_reserved seen text rosej roseo old new es x reserve.Memory o L R t = subst (λ z. Settles seen text rosej roseo old new es x (turns.Stops z)) (sym t) L
