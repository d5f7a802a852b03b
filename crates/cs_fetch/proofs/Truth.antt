-- What `fetch` makes of an honest link.
use Rattle.std.proofs.Common.{◌≡◌, ◌⊎◌, ℕ, ◌≤◌, List, Option, Some, None, ⊎_elim, refl, ap, ◌∙◌, sym, subst, arith}
use Rattle.std.specs.Prelude.{Ok, Err, Result, IfOk}
use Rattle.cs_records.specs.declared.faults.LineFault.{LineFault}
use Rattle.cs_link.specs.declared.batch.Batch.{Batch}
use Rattle.cs_link.specs.declared.batch.Ending.{Ending}
use Rattle.cs_link.specs.declared.batch.Known.{Known}
use Rattle.cs_link.specs.declared.batch.Limits.{Limits}
use Rattle.cs_link.specs.declared.breach.Breach.{Breach}
use Rattle.cs_fetch.specs.declared.fault.FetchFault.{FetchFault}
use Rattle.cs_link.specs.declared.feed.Feed.{Feed}
use Rattle.cs_link.specs.declared.reading.ReadArgs.{ReadArgs}
use Rattle.cs_fetch.specs.Fetch.{Outcome, Gives, Breaks, Stalls, IfGives, outcome_of}
use Rattle.cs_link.specs.Honest.{IsHonest, IsHonestRead, IsHonestFor}
use Rattle.cs_fetch.specs.Laws.{Fits, IsWithin, IsFaithfulOutcome, IsFaithfulResult, IsWellFormed}
use Rattle.cs_fetch.specs.Made.{Presents, HasGiven, IsMade, HadBadLine, IsBadLine}
use Rattle.cs_link.specs.Pace.{IsPacedPresent, Grows, BringsOn, ReachesBy, Reaches, pace}
use Rattle.cs_link.specs.Reading.{end_of, Read}
use Rattle.cs_fetch.proofs.Growing.{always_grows, honest_brings}
use Rattle.cs_fetch.proofs.Reaching.{honest_reaches}
use Rattle.cs_fetch.proofs.WellFormed.{always_well}
use Rattle.cs_fetch.proofs.Lawful.{honest_faithful}

some_is : {A : Type 0} (d a b : A) → Some a ≡ Some b → a ≡ b
some_is {A} d a b h = ap of_some h
  where
    of_some : Option A → A
    of_some None = d
    of_some (Some x) = x

pub if_ok : {T E : Type 0} (result : Result T E) (P : T → Type 0) → IfOk result P → (x : T) → result ≡ Ok x → P x
if_ok result P h x s = subst (λ z. IfOk z P) s h

-- the feed that is told
pub feed_is : {stream : List ℕ} {told : Option Feed} {present : Option (Option Read)} (G : IsHonestFor stream told present) (f : Feed) → told ≡ Some f → G.feed ≡ f
feed_is G f s = some_is f G.feed f (sym G.tells ∙ s)

-- the read that is presented is honest
module _ (args : ReadArgs) (before now : Option (Option Read)) (told told_now : Option Feed) (H : IsHonestFor args.stream told before) (G : IsHonestFor args.stream told_now now) where
  presented : (P : Read → Type 0) → Presents before now P → (read : Read) × (now ≡ Some (Some read)) × P read
  presented P p = subst (λ z. Presents z now P) H.presents p

  honest_read : (read : Read) → now ≡ Some (Some read) → read.args ≡ args → IsHonest G.feed read
  honest_read read s a = subst (λ o. IsHonestRead G.feed args.stream o) (some_is None G.read (Some read) (sym G.presents ∙ s)) G.honest (ap (λ (z : ReadArgs). z.stream) a)

  pub made_faithful : (known : Known) (limits : Limits) (since : ℕ) (outcome : Outcome) → IsMade args known limits since before now outcome → args.start ≤ 253402300799999999 → Fits args known → IsFaithfulOutcome G.feed (end_of args) known outcome
  made_faithful known limits since outcome M small fits =
      let p = presented (HasGiven args since M.steps) M.told in
      let a = p.2.asked in
      let h = honest_read p.0 p.1 a in
      let t = p.2.taken in
      let l = honest_faithful G.feed known limits p.0 t.0 G.is_feed h t.1 (subst (λ (z : ReadArgs). z.start ≤ 253402300799999999) (sym a) small) (subst (λ z. Fits z known) (sym a) fits) in
      let l1 = subst (λ z. IsFaithfulOutcome G.feed (end_of z) known (outcome_of z known limits p.0.steps)) a l in
      let l2 = subst (λ z. IsFaithfulOutcome G.feed (end_of args) known (outcome_of args known limits z)) p.2.gave l1 in
      subst (IsFaithfulOutcome G.feed (end_of args) known) M.comes l2

  bad_never : (known : Known) (limits : Limits) (since number : ℕ) (fault : LineFault) → Presents before now (HadBadLine args known limits since number fault) → ⊥
  bad_never known limits since number fault P =
      let p = presented (HadBadLine args known limits since number fault) P in
      let h = honest_read p.0 p.1 p.2.asked in
      some_none (number, fault) (sym p.2.line ∙ h.lines)
    where
      some_none : (p : ℕ × LineFault) → Some p ≡ None → ⊥
      some_none p h = cc

  line_never : (known : Known) (limits : Limits) (since : ℕ) (breach : Breach) → IsBadLine args known limits since before now breach → ⊥
  line_never known limits since (Breach.BadLine number fault) h = bad_never known limits since number fault h
  line_never known limits since (Breach.StampFell a b) h = h
  line_never known limits since (Breach.OutOfWindow a b) h = h
  line_never known limits since (Breach.HeartbeatWrong a b) h = h
  line_never known limits since (Breach.BelowHeartbeat a b) h = h
  line_never known limits since (Breach.AfterChildren a b) h = h
  line_never known limits since (Breach.ChildStart a b) h = h
  line_never known limits since (Breach.ChildDiffers a b) h = h
  line_never known limits since (Breach.ParentMissing a b) h = h
  line_never known limits since (Breach.InitialWrong a b) h = h
  line_never known limits since (Breach.CaughtUpWrong a b) h = h
  line_never known limits since (Breach.CutEarly a b) h = h
  line_never known limits since (Breach.TooManyAtStamp a b) h = h
  line_never known limits since (Breach.Orphan a b) h = h
  line_never known limits since (Breach.BadRecord a b) h = h
  line_never known limits since (Breach.TooManyRows a b) h = h
  line_never known limits since (Breach.TooManyChildren a b) h = h

  pub result_faithful : (known : Known) (limits : Limits) (since : ℕ) (result : Result Batch FetchFault) → args.start ≤ 253402300799999999 → Fits args known
      → ((batch : Batch) → result ≡ Ok batch → IsMade args known limits since before now (Gives batch))
      → ((breach : Breach) → result ≡ Err (FetchFault.Breach breach) → IsMade args known limits since before now (Breaks breach) ⊎ IsBadLine args known limits since before now breach)
      → ((count : ℕ) → result ≡ Err (FetchFault.Stalled count) → IsMade args known limits since before now Stalls)
      → IsFaithfulResult G.feed (end_of args) known result
  result_faithful known limits since (Ok batch) small fits b c d = made_faithful known limits since (Gives batch) (b batch refl) small fits
  result_faithful known limits since (Err FetchFault.LinkFault) small fits b c d = tt
  result_faithful known limits since (Err (FetchFault.Refused refusal)) small fits b c d = tt
  result_faithful known limits since (Err (FetchFault.Breach breach)) small fits b c d = ⊎_elim (λ (M : IsMade args known limits since before now (Breaks breach)). made_faithful known limits since (Breaks breach) M small fits) (λ (h : IsBadLine args known limits since before now breach). line_never known limits since breach h) (c breach refl)
  result_faithful known limits since (Err (FetchFault.Stalled count)) small fits b c d = made_faithful known limits since Stalls (d count refl) small fits
  result_faithful known limits since (Err FetchFault.Memory) small fits b c d = tt

  -- the heartbeats of the READ that is presented are paced
  pub made_brings : (known : Known) (limits : Limits) (since : ℕ) (batch : Batch) → IsMade args known limits since before now (Gives batch) → Fits args known → IsPacedPresent now → end_of args ≤ since → BringsOn (pace args) known batch
  made_brings known limits since batch M fits P past =
      let p = presented (HasGiven args since M.steps) M.told in
      let a = p.2.asked in
      let h = honest_read p.0 p.1 a in
      let t = p.2.taken in
      let m = p.2.timely in
      let e = ap end_of a in
      let l = honest_brings G.feed known limits p.0 t.0 h t.1 (subst IsPacedPresent p.1 P) (omega (arith, e, m, past)) (subst (λ z. Fits z known) (sym a) fits) in
      let l1 = subst (λ z. IfGives (BringsOn (pace z) known) (outcome_of z known limits p.0.steps)) a l in
      let l2 = subst (λ z. IfGives (BringsOn (pace args) known) (outcome_of args known limits z)) p.2.gave l1 in
      subst (IfGives (BringsOn (pace args) known)) M.comes l2

  caught_reaches : (moment since : ℕ) (b : Batch) → since ≤ moment → Reaches moment b → Reaches since b
  caught_reaches moment since b l R = by b.ending R
    where
      by : (ending : Ending) → ReachesBy moment b ending → ReachesBy since b ending
      by Ending.Finished r = tt
      by (Ending.CaughtUp at) r = omega (arith, l, r)
      by Ending.Cut r = tt
      by Ending.Full r = tt

  pub result_reaches : (known : Known) (limits : Limits) (since : ℕ) (result : Result Batch FetchFault) → IfOk result (λ batch. IsMade args known limits since before now (Gives batch)) → IfOk result (Reaches since)
  result_reaches known limits since (Ok batch) M =
      let p = presented (HasGiven args since M.steps) M.told in
      let a = p.2.asked in
      let t = p.2.taken in
      let l = honest_reaches G.feed known limits p.0 t.0 (honest_read p.0 p.1 a) t.1 in
      let l1 = subst (λ z. IfGives (Reaches p.0.moment) (outcome_of z known limits p.0.steps)) a l in
      let l2 = subst (λ z. IfGives (Reaches p.0.moment) (outcome_of args known limits z)) p.2.gave l1 in
      caught_reaches p.0.moment since batch p.2.timely (subst (IfGives (Reaches p.0.moment)) M.comes l2)
  result_reaches known limits since (Err fault) M = tt

  pub result_brings : (known : Known) (limits : Limits) (since : ℕ) (result : Result Batch FetchFault) → IfOk result (λ batch. IsMade args known limits since before now (Gives batch)) → Fits args known → IsPacedPresent now → end_of args ≤ since → IfOk result (BringsOn (pace args) known)
  result_brings known limits since (Ok batch) M fits P past = made_brings known limits since batch M fits P past
  result_brings known limits since (Err fault) M fits P past = tt

-- over every link
pub result_grows : (args : ReadArgs) (known : Known) (limits : Limits) (since : ℕ) (before now : Option (Option Read)) (result : Result Batch FetchFault) → IfOk result (λ batch. IsMade args known limits since before now (Gives batch)) → IfOk result (Grows known)
result_grows args known limits since before now (Ok batch) M = subst (IfGives (Grows known)) M.comes (always_grows args known limits M.steps)
result_grows args known limits since before now (Err fault) M = tt

pub result_well : (args : ReadArgs) (known : Known) (limits : Limits) (since : ℕ) (before now : Option (Option Read)) (result : Result Batch FetchFault) → IfOk result (λ batch. IsMade args known limits since before now (Gives batch)) → IsWithin args known → IfOk result (IsWellFormed args known)
result_well args known limits since before now (Ok batch) M W = subst (IfGives (IsWellFormed args known)) M.comes (always_well args known limits W.low W.first M.steps)
result_well args known limits since before now (Err fault) M W = tt
