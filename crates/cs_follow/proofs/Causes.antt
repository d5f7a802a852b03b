-- Why a turn stops, and what stays of a cause while turns go on.
use Rattle.std.proofs.Common.{◌≡◌, ◌≢◌, ◌⊎◌, ℕ, ◌<◌, ◌≤◌, Bool, true, false, List, Option, Some, None, Result, Err, ⊎_elim, inl, inr, sym, refl, ap, ◌∙◌, subst, arith, true≢false}
use Rattle.cs_types.specs.declared.names.Window.{Window}
use Rattle.cs_link.specs.declared.batch.Batch.{Batch}
use Rattle.cs_link.specs.declared.batch.Ending.{Ending}
use Rattle.cs_link.specs.declared.batch.Known.{Known}
use Rattle.cs_link.specs.declared.batch.Limits.{Limits}
use Rattle.cs_link.specs.declared.breach.Breach.{Breach}
use Rattle.cs_link.specs.declared.reading.ReadArgs.{ReadArgs}
use Rattle.cs_link.specs.declared.refusal.ReadRefusal.{ReadRefusal}
use Rattle.cs_link.specs.Causes.{one_more}
use Rattle.cs_link.specs.Reading.{Read}
use Rattle.cs_fetch.specs.declared.fault.FetchFault.{FetchFault}
use Rattle.cs_fetch.specs.declared.fault.FetchFault.TheVariants as fetch
use Rattle.cs_fetch.specs.Fetch.{Outcome as ReadOutcome, Gives, Breaks, Stalls}
use Rattle.cs_fetch.specs.Made.{Presents, HasGiven, IsMade, WasRefused, HadBadLine, IsBadLine, counted_end}
use Rattle.cs_schedule.specs.declared.entry.Entry.{Entry}
use Rattle.cs_schedule.specs.declared.row.Row.{Row}
use Rattle.cs_schedule.specs.Board.{Shown}
use Rattle.cs_book.specs.declared.lease.Lease.{Lease}
use Rattle.cs_follow.specs.declared.outcome.Outcome.{Outcome}
use Rattle.cs_follow.specs.declared.turn.Turn.TheVariants as turns
use Rattle.cs_follow.specs.Cause.{is_too_old, IsRefused, HasCaughtUp, HasCause, IsFilled}
use Rattle.cs_book.specs.Planned.{is_caught_up}
use Rattle.cs_schedule.specs.Update.{PlansOf}
use Rattle.cs_schedule.specs.declared.plan.PlanFault.TheVariants as faults
use Rattle.cs_follow.specs.Turn.{IsAtWork, IsSettled, ToldAs, StaysTold, IsStopped, GoesOn, IsTurn}
use Rattle.cs_follow.proofs.Ending.{caught_below}
use Rattle.cs_follow.proofs.Work.{lease_end}

-- whether an outcome is a pause
abbrev is_pause : Outcome → Bool
is_pause Outcome.Ended = false
is_pause Outcome.Paused = true
is_pause (Outcome.RetentionPassed earliest) = false
is_pause (Outcome.Refused refusal) = false
is_pause Outcome.LinkFault = false
is_pause (Outcome.Breach breach) = false
is_pause (Outcome.Stalled token count) = false
is_pause Outcome.JournalFault = false
is_pause Outcome.OutputFault = false
is_pause (Outcome.Full length) = false
is_pause Outcome.Memory = false

pub no_pause : (o : Outcome) → is_pause o ≡ false → o ≢ Outcome.Paused
no_pause o h e = true≢false (sym (ap is_pause e) ∙ h)

caught_at : (ending : Ending) → is_caught_up ending ≡ true → (at : ℕ) × (ending ≡ Ending.CaughtUp at)
caught_at Ending.Finished h = absurd (true≢false (sym h))
caught_at (Ending.CaughtUp at) h = (at, refl)
caught_at Ending.Cut h = absurd (true≢false (sym h))
caught_at Ending.Full h = absurd (true≢false (sym h))

counted_one : (count : ℕ) (ending : Ending) → is_caught_up ending ≡ true → counted_end count ending ≡ one_more count
counted_one count Ending.Finished h = absurd (true≢false (sym h))
counted_one count (Ending.CaughtUp at) h = refl
counted_one count Ending.Cut h = absurd (true≢false (sym h))
counted_one count Ending.Full h = absurd (true≢false (sym h))

counted_none : (count : ℕ) (ending : Ending) → is_caught_up ending ≡ false → counted_end count ending ≡ count
counted_none count Ending.Finished h = refl
counted_none count (Ending.CaughtUp at) h = absurd (true≢false h)
counted_none count Ending.Cut h = refl
counted_none count Ending.Full h = refl

-- ---- what was told stays told

pub told_now : (present : Option (Option Read)) → StaysTold present present
told_now None = tt
told_now (Some read) = (read, refl)

pub told_then : (a b c : Option (Option Read)) → StaysTold a b → StaysTold b c → StaysTold a c
told_then None b c h k = tt
told_then (Some x) b c h k = subst (λ z. StaysTold z c) h.1 k

presents_told : (before now : Option (Option Read)) (IsOf : Read → Type 0) → Presents before now IsOf → StaysTold before now
presents_told None now IsOf h = tt
presents_told (Some x) now IsOf h = (Some h.0, h.1)

presents_from : (a b now : Option (Option Read)) (IsOf IsAlso : Read → Type 0) → ((read : Read) → IsOf read → IsAlso read) → StaysTold a b → Presents b now IsOf → Presents a now IsAlso
presents_from None b now IsOf IsAlso f h p = tt
presents_from (Some x) b now IsOf IsAlso f h p = let q = subst (λ z. Presents z now IsOf) h.1 p in (q.0, q.1, f q.0 q.2)

-- a READ that was made since a later moment
module _ (since later : ℕ) (a b now : Option (Option Read)) (before : since ≤ later) (told : StaysTold a b) where
  given_from : (args : ReadArgs) (steps : _) (read : Read) → HasGiven args later steps read → HasGiven args since steps read
  given_from args steps read G = record { asked = G.asked; timely = omega (arith, before, G.timely); taken = G.taken; gave = G.gave; lines = G.lines }

  pub made_from : (args : ReadArgs) (known : Known) (limits : Limits) (outcome : ReadOutcome) → IsMade args known limits later b now outcome → IsMade args known limits since a now outcome
  made_from args known limits outcome M = record { steps = M.steps; comes = M.comes; light = M.light; told = presents_from a b now (HasGiven args later M.steps) (HasGiven args since M.steps) (given_from args M.steps) told M.told }

  line_from : (args : ReadArgs) (known : Known) (limits : Limits) (breach : Breach) → IsBadLine args known limits later b now breach → IsBadLine args known limits since a now breach
  line_from args known limits (Breach.StampFell x y) h = absurd h
  line_from args known limits (Breach.OutOfWindow x y) h = absurd h
  line_from args known limits (Breach.HeartbeatWrong x y) h = absurd h
  line_from args known limits (Breach.BelowHeartbeat x y) h = absurd h
  line_from args known limits (Breach.AfterChildren x y) h = absurd h
  line_from args known limits (Breach.ChildStart x y) h = absurd h
  line_from args known limits (Breach.ChildDiffers x y) h = absurd h
  line_from args known limits (Breach.ParentMissing x y) h = absurd h
  line_from args known limits (Breach.InitialWrong x y) h = absurd h
  line_from args known limits (Breach.CaughtUpWrong x y) h = absurd h
  line_from args known limits (Breach.CutEarly x y) h = absurd h
  line_from args known limits (Breach.BadLine number fault) h =
      presents_from a b now (HadBadLine args known limits later number fault) (HadBadLine args known limits since number fault)
      (λ read H. record { asked = H.asked; timely = omega (arith, before, H.timely); goes = H.goes; line = H.line }) told h
  line_from args known limits (Breach.TooManyAtStamp x y) h = absurd h
  line_from args known limits (Breach.Orphan x y) h = absurd h
  line_from args known limits (Breach.BadRecord x y) h = absurd h
  line_from args known limits (Breach.TooManyRows x y) h = absurd h
  line_from args known limits (Breach.TooManyChildren x y) h = absurd h

  module _ (w : Window) (limits : Limits) where
    refused_from : (rows : List Row) (refusal : ReadRefusal) → IsRefused w limits later b now rows refusal → IsRefused w limits since a now rows refusal
    refused_from rows refusal h = (h.0, h.1, presents_from a b now (WasRefused h.0.args refusal) (WasRefused h.0.args refusal) (λ read r. r) told h.2)

    pub caught_from : HasCaughtUp w limits later b now → HasCaughtUp w limits since a now
    caught_from H = record { lease = H.lease; stream = H.stream; end = H.end; batch = H.batch; made = made_from H.lease.args H.lease.known limits (Gives H.batch) H.made; moment = H.moment; ending = H.ending; below = H.below }

    cause_from : (n count count_now m other other_now : ℕ) (rose also : Type 0) (rows : List Row) (o : Outcome) → (rose → also) → o ≢ Outcome.Paused → HasCause w limits later b now n count count_now rose rows o → HasCause w limits since a now m other other_now also rows o
    cause_from n count count_now m other other_now rose also rows Outcome.Ended f apart h = h
    cause_from n count count_now m other other_now rose also rows Outcome.Paused f apart h = absurd (apart refl)
    cause_from n count count_now m other other_now rose also rows (Outcome.RetentionPassed earliest) f apart h = refused_from rows (ReadRefusal.StartTooOld earliest) h
    cause_from n count count_now m other other_now rose also rows (Outcome.Refused refusal) f apart h = (h.0, refused_from rows refusal h.1)
    cause_from n count count_now m other other_now rose also rows Outcome.LinkFault f apart h = f h
    cause_from n count count_now m other other_now rose also rows (Outcome.Breach breach) f apart (inl h) = inl (h.0, h.1, ⊎_elim (λ k. inl (made_from h.0.args h.0.known limits (Breaks breach) k)) (λ k. inr (line_from h.0.args h.0.known limits breach k)) h.2)
    cause_from n count count_now m other other_now rose also rows (Outcome.Breach breach) f apart (inr (inl h)) = inr (inl (h.0, h.1, (h.2.0, made_from h.0.args h.0.known limits (Gives h.2.0) h.2.1, h.2.2)))
    cause_from n count count_now m other other_now rose also rows (Outcome.Breach breach) f apart (inr (inr h)) = inr (inr h)
    cause_from n count count_now m other other_now rose also rows (Outcome.Stalled token most) f apart h = (h.0, h.1, h.2, h.3, made_from h.0.args h.0.known limits Stalls h.4)
    cause_from n count count_now m other other_now rose also rows Outcome.JournalFault f apart h = absurd h
    cause_from n count count_now m other other_now rose also rows Outcome.OutputFault f apart h = absurd h
    cause_from n count count_now m other other_now rose also rows (Outcome.Full length) f apart h = absurd h
    cause_from n count count_now m other other_now rose also rows Outcome.Memory f apart h = h

    pub filled_from : (gate : ℕ) (rows : List Row) (length : ℕ) → IsFilled w limits later b now gate rows length → IsFilled w limits since a now gate rows length
    filled_from gate rows length F = record { lease = F.lease; due = F.due; batch = F.batch; made = made_from F.lease.args F.lease.known limits (Gives F.batch) F.made; entry = F.entry; plans = F.plans; is = F.is; above = F.above }

    pub stopped_from : (n count count_now m other other_now : ℕ) (rose also : Type 0) (es : List Entry) (o : Outcome) → (rose → also) → o ≢ Outcome.Paused → IsStopped w limits later b now n count count_now rose es o → IsStopped w limits since a now m other other_now also es o
    stopped_from n count count_now m other other_now rose also es o f apart S = record { board = S.board; window = S.window; of = S.of; ordered = S.ordered; free = S.free; cause = cause_from n count count_now m other other_now rose also S.board.rows o f apart S.cause }

-- ---- one turn

module _ (w : Window) (limits : Limits) (since : ℕ) (before now : Option (Option Read)) (count count_now : ℕ) (rose : Type 0) (es : List Entry) (b : Shown) (lease : Lease) (A : IsAtWork w es b lease) where
  stopped_at : (n : ℕ) (o : Outcome) → HasCause w limits since before now n count count_now rose b.rows o → IsStopped w limits since before now n count count_now rose es o
  stopped_at n o h = record { board = b; window = A.afoot.window; of = A.afoot.board; ordered = A.afoot.ordered; free = A.afoot.free; cause = h }

  pub memory_turn : (es_now : List Entry) (c : Shown) → es_now ≡ es → IsTurn w limits since before now count count_now rose es b es_now c (turns.Stops Outcome.Memory)
  memory_turn es_now c same = (same, λ n. (no_pause Outcome.Memory refl, stopped_at n Outcome.Memory tt))

  -- a READ without a batch
  pub fault_turn : (es_now : List Entry) (c : Shown) (result : Result Batch FetchFault) (fault : FetchFault) (o : Outcome) → result ≡ Err fault
      → ((breach : Breach) → result ≡ Err (fetch.Breach breach) → IsMade lease.args lease.known limits since before now (Breaks breach) ⊎ IsBadLine lease.args lease.known limits since before now breach)
      → ((k : ℕ) → result ≡ Err (fetch.Stalled k) → (k ≡ 8192) × IsMade lease.args lease.known limits since before now Stalls)
      → ((refusal : ReadRefusal) → result ≡ Err (fetch.Refused refusal) → Presents before now (WasRefused lease.args refusal))
      → (result ≡ Err fetch.LinkFault → rose)
      → ToldAs lease.args.token fault o → es_now ≡ es → IsTurn w limits since before now count count_now rose es b es_now c (turns.Stops o)
  fault_turn es_now c result fetch.LinkFault o is breach stalled refused failed t same = (same, λ n. (no_pause o (ap is_pause t), subst (IsStopped w limits since before now n count count_now rose es) (sym t) (stopped_at n Outcome.LinkFault (failed is))))
  fault_turn es_now c result (fetch.Refused refusal) (Outcome.RetentionPassed earliest) is breach stalled refused failed t same =
      (same, λ n. (no_pause (Outcome.RetentionPassed earliest) refl, stopped_at n (Outcome.RetentionPassed earliest) (lease, A.of, subst (λ z. Presents before now (WasRefused lease.args z)) t (refused refusal is))))
  fault_turn es_now c result (fetch.Refused refusal) (Outcome.Refused other) is breach stalled refused failed t same =
      (same, λ n. (no_pause (Outcome.Refused other) refl, stopped_at n (Outcome.Refused other) (ap is_too_old t.1 ∙ t.0, (lease, A.of, subst (λ z. Presents before now (WasRefused lease.args z)) (sym t.1) (refused refusal is)))))
  fault_turn es_now c result (fetch.Refused refusal) Outcome.Ended is breach stalled refused failed t same = absurd t
  fault_turn es_now c result (fetch.Refused refusal) Outcome.Paused is breach stalled refused failed t same = absurd t
  fault_turn es_now c result (fetch.Refused refusal) Outcome.LinkFault is breach stalled refused failed t same = absurd t
  fault_turn es_now c result (fetch.Refused refusal) (Outcome.Breach x) is breach stalled refused failed t same = absurd t
  fault_turn es_now c result (fetch.Refused refusal) (Outcome.Stalled x y) is breach stalled refused failed t same = absurd t
  fault_turn es_now c result (fetch.Refused refusal) Outcome.JournalFault is breach stalled refused failed t same = absurd t
  fault_turn es_now c result (fetch.Refused refusal) Outcome.OutputFault is breach stalled refused failed t same = absurd t
  fault_turn es_now c result (fetch.Refused refusal) (Outcome.Full x) is breach stalled refused failed t same = absurd t
  fault_turn es_now c result (fetch.Refused refusal) Outcome.Memory is breach stalled refused failed t same = absurd t
  fault_turn es_now c result (fetch.Breach x) o is breach stalled refused failed t same = (same, λ n. (no_pause o (ap is_pause t), subst (IsStopped w limits since before now n count count_now rose es) (sym t) (stopped_at n (Outcome.Breach x) (inl (lease, A.of, breach x is)))))
  fault_turn es_now c result (fetch.Stalled k) o is breach stalled refused failed (inl t) same =
      let u = stalled k is in
      (same, λ n. (no_pause o (ap is_pause t), subst (IsStopped w limits since before now n count count_now rose es) (sym t) (stopped_at n (Outcome.Stalled lease.args.token k) (lease, A.of, refl, u.0, u.1))))
  fault_turn es_now c result (fetch.Stalled k) o is breach stalled refused failed (inr t) same = subst (λ z. IsTurn w limits since before now count count_now rose es b es_now c (turns.Stops z)) (sym t) (memory_turn es_now c same)
  fault_turn es_now c result fetch.Memory o is breach stalled refused failed t same = subst (λ z. IsTurn w limits since before now count count_now rose es b es_now c (turns.Stops z)) (sym t) (memory_turn es_now c same)

  -- a READ with a batch
  module _ (x : Batch) (M : IsMade lease.args lease.known limits since before now (Gives x)) (counts : count_now ≡ counted_end count x.ending) (es_now : List Entry) (c : Shown) where
    goes_on : (caught_up : Bool) → IsSettled w es b x es_now c caught_up → GoesOn w limits since before now count count_now b es_now c caught_up
    goes_on caught_up S =
        let ends = lease_end w b.rows lease A.of in
        record {
          afoot = S.afoot;
          told = presents_told before now (HasGiven lease.args since M.steps) M.told;
          left = S.left;
          less = S.less;
          same = λ q. counts ∙ counted_none count x.ending (S.ending ∙ q);
          one = λ q. counts ∙ counted_one count x.ending (S.ending ∙ q);
          caught = λ q. let u = caught_at x.ending (S.ending ∙ q) in record { lease = lease; stream = ends.2; end = ends.0; batch = x; made = M; moment = u.0; ending = u.1; below = subst (λ n. u.0 < n) ends.1 (caught_below lease.args lease.known limits u.0 x M.steps u.1 M.comes) };
        }

    pub caught_turn : IsSettled w es b x es_now c true → IsTurn w limits since before now count count_now rose es b es_now c turns.CaughtUp
    caught_turn S = goes_on true S

    pub on_turn : IsSettled w es b x es_now c false → IsTurn w limits since before now count count_now rose es b es_now c turns.On
    on_turn S = goes_on false S

    pub breach_turn : (breach : Breach) → es_now ≡ es → PlansOf b.rows x x.token (Err (faults.Breach breach)) → IsTurn w limits since before now count count_now rose es b es_now c (turns.Stops (Outcome.Breach breach))
    breach_turn breach same plans = (same, λ n. (no_pause (Outcome.Breach breach) refl, stopped_at n (Outcome.Breach breach) (inr (inl (lease, A.of, (x, M, plans))))))
