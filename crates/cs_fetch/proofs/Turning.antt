-- What one turn of the loop of `fetch` leaves, and what it stops with.
use Rattle.std.proofs.Common.{◌≡◌, ℕ, ◌+◌, ◌<◌, ◌≤◌, ◌⊎◌, inl, inr, Bool, false, cond, List, [], ◌∷◌, length, length-append, Option, Some, None, refl, ap, sym, ◌∙◌, subst, arith}
use Rattle.std.specs.Prelude.{Ok, Err, Result, IfOk}
use Rattle.cs_records.specs.declared.records.Record.{Record}
use Rattle.cs_link.specs.declared.batch.Batch.{Batch}
use Rattle.cs_link.specs.declared.batch.Known.{Known}
use Rattle.cs_link.specs.declared.batch.Limits.{Limits}
use Rattle.cs_link.specs.declared.breach.Breach.{Breach}
use Rattle.cs_fetch.specs.declared.fault.FetchFault.{FetchFault}
use Rattle.cs_link.specs.declared.reading.Closing.{Closing}
use Rattle.cs_link.specs.declared.reading.ReadArgs.{ReadArgs}
use Rattle.cs_link.specs.declared.reading.Step.{Step}
use Rattle.cs_link.specs.declared.refusal.LinkAnswer.{LinkAnswer}
use Rattle.cs_link.specs.declared.refusal.ReadRefusal.{ReadRefusal}
use Rattle.cs_fetch.specs.declared.so_far.SoFar.{SoFar}
use Rattle.cs_fetch.specs.declared.so_far.Tally.{Tally}
use Rattle.cs_fetch.specs.declared.taken.Turn.{Turn}
use Rattle.cs_fetch.specs.declared.taken.Went.{Went}
use Rattle.cs_fetch.specs.Breach.{record_breach}
use Rattle.cs_link.specs.Calls.{begun, after_next, Opens, AddsRead, Goes, IsOfOpen, IsOfNext}
use Rattle.cs_link.specs.Causes.{one_more, is_caught_up}
use Rattle.cs_fetch.specs.Fetch.{Gives, Breaks, Stalls, filled, fault_of}
use Rattle.cs_fetch.specs.Made.{Presents, HasGiven, IsMade, WasRefused, IsBadLine, IsFetched, HasAsked, AsksOnce, HasFewSteps, counted_end}
use Rattle.cs_link.specs.Reading.{Read, is_closing}
use Rattle.cs_fetch.specs.SoFar.{adds, with_record}
use Rattle.cs_fetch.specs.Turn.{IsTurn}
use Rattle.cs_fetch.specs.Went.{went_of}
use Rattle.cs_fetch.proofs.Looping.{IsKept, kept_on, line_bad, made_full, made_stalled, made_breaks, made_closed, made_end_breaks}
use Rattle.cs_fetch.proofs.Told.{presents_refused}

-- ---- one record

right_on : (limits : Limits) (tally t : Tally) (item : Record) (o : Option Breach) (b : Bool) → Went.On t ≡ went_of limits tally item o b → o ≡ None
right_on limits tally t item None b h = refl
right_on limits tally t item (Some x) b h = cc

right_full : (limits : Limits) (tally : Tally) (item : Record) (o : Option Breach) (b : Bool) → Went.Fills ≡ went_of limits tally item o b → o ≡ None
right_full limits tally item None b h = refl
right_full limits tally item (Some x) b h = cc

module _ (args : ReadArgs) (known : Known) (limits : Limits) (s now : SoFar) (tally : Tally) (item : Record) (w : Went) (W : w ≡ went_of limits tally item (record_breach args s item) (adds known s item)) (A : record_breach args s item ≡ None → now ≡ with_record known s item) where
  pub turned_on : (t : Tally) → w ≡ Went.On t → (went_of limits tally item (record_breach args s item) (adds known s item) ≡ Went.On t) × (now ≡ with_record known s item)
  turned_on t h = (sym W ∙ h, A (right_on limits tally t item (record_breach args s item) (adds known s item) (sym h ∙ W)))

  pub turned_full : (batch : Batch) → w ≡ Went.Fills → batch ≡ filled args now → (went_of limits tally item (record_breach args s item) (adds known s item) ≡ Went.Fills) × (batch ≡ filled args (with_record known s item))
  turned_full batch h b = (sym W ∙ h, b ∙ ap (filled args) (A (right_full limits tally item (record_breach args s item) (adds known s item) (sym h ∙ W))))

-- ---- what a step says of itself

pub goes_on : (args : ReadArgs) (known : Known) (limits : Limits) (s now : SoFar) (tally t : Tally) (step : Step) → IsTurn args known limits s now tally step (Ok (Turn.On t)) → (is_closing step ≡ false) × (is_caught_up step ≡ false)
goes_on args known limits s now tally t (Step.Record item) h = (refl, refl)
goes_on args known limits s now tally t (Step.Closing closing) h = absurd h

pub counts_end : (args : ReadArgs) (known : Known) (limits : Limits) (s now : SoFar) (tally : Tally) (step : Step) (batch : Batch) (n : ℕ) → IsTurn args known limits s now tally step (Ok (Turn.Gives batch)) → cond (is_caught_up step) (one_more n) n ≡ counted_end n batch.ending
counts_end args known limits s now tally (Step.Record item) batch n h = ap (λ (b : Batch). counted_end n b.ending) (sym h.1)
counts_end args known limits s now tally (Step.Closing Closing.Finished) batch n h = ap (λ (b : Batch). counted_end n b.ending) (sym h.1)
counts_end args known limits s now tally (Step.Closing (Closing.CaughtUp at)) batch n h = ap (λ (b : Batch). counted_end n b.ending) (sym h.1)
counts_end args known limits s now tally (Step.Closing Closing.Cut) batch n h = ap (λ (b : Batch). counted_end n b.ending) (sym h.1)

-- ---- what the loop keeps, and what it stops with

pub fetched_open : (args : ReadArgs) (known : Known) (limits : Limits) (since : ℕ) (before now : Option (Option Read)) (moment : ℕ) (rose : Type 0) (answer : LinkAnswer) → Opens before now args moment (Err answer) → IsOfOpen answer → (answer ≡ LinkAnswer.Failed → rose) → IsFetched args known limits since before now rose (Err (fault_of answer))
fetched_open args known limits since before now moment rose LinkAnswer.Failed O A F = F refl
fetched_open args known limits since before now moment rose (LinkAnswer.Refused refusal) O A F = presents_refused before now args moment (Err (LinkAnswer.Refused refusal)) refusal O refl
fetched_open args known limits since before now moment rose (LinkAnswer.BadLine number fault) O A F = absurd A
fetched_open args known limits since before now moment rose LinkAnswer.Memory O A F = tt

module _ (args : ReadArgs) (known : Known) (limits : Limits) (since : ℕ) (before now after : Option (Option Read)) (s : SoFar) (tally : Tally) (steps : ℕ) (K : IsKept args known limits since before now s tally steps) where
  pub fetched_next : (rose : Type 0) (answer : LinkAnswer) → Goes now after (Err answer) → IsOfNext answer → (answer ≡ LinkAnswer.Failed → rose) → IsFetched args known limits since before after rose (Err (fault_of answer))
  fetched_next rose LinkAnswer.Failed G A F = F refl
  fetched_next rose (LinkAnswer.Refused refusal) G A F = absurd A
  fetched_next rose (LinkAnswer.BadLine number fault) G A F = inr (line_bad args known limits since before now after s tally steps K (Err (LinkAnswer.BadLine number fault)) G number fault refl)
  fetched_next rose LinkAnswer.Memory G A F = tt

  pub kept_turn : (next : SoFar) (t : Tally) (step : Step) → limits.records ≤ 8192 → Goes now after (Ok step) → IsTurn args known limits s next tally step (Ok (Turn.On t)) → IsKept args known limits since before after next t (steps + 1)
  kept_turn next t (Step.Record item) small G h = kept_on args known limits since before now after s tally steps K (Ok (Step.Record item)) G item refl t next small (sym h.0) (λ _. h.1)
  kept_turn next t (Step.Closing closing) small G h = absurd h

  pub made_turn : (next : SoFar) (batch : Batch) (step : Step) → Goes now after (Ok step) → IsTurn args known limits s next tally step (Ok (Turn.Gives batch)) → IsMade args known limits since before after (Gives batch)
  made_turn next batch (Step.Record item) G h = made_full args known limits since before now after s tally steps K (Ok (Step.Record item)) G item refl (with_record known s item) batch (sym h.0) (λ _. refl) h.1
  made_turn next batch (Step.Closing closing) G h = made_closed args known limits since before now after s tally steps K (Ok (Step.Closing closing)) G closing refl batch h.0 h.1

  pub fetched_turn : (next : SoFar) (rose : Type 0) (fault : FetchFault) (step : Step) → Goes now after (Ok step) → IsTurn args known limits s next tally step (Err fault) → IsFetched args known limits since before after rose (Err fault)
  fetched_turn next rose FetchFault.LinkFault (Step.Record item) G h = absurd h
  fetched_turn next rose (FetchFault.Refused refusal) (Step.Record item) G h = absurd h
  fetched_turn next rose (FetchFault.Breach breach) (Step.Record item) G h = inl (made_breaks args known limits since before now after s tally steps K (Ok (Step.Record item)) G item refl breach (sym h))
  fetched_turn next rose (FetchFault.Stalled count) (Step.Record item) G h = (h.0, made_stalled args known limits since before now after s tally steps K (Ok (Step.Record item)) G item refl (sym h.1))
  fetched_turn next rose FetchFault.Memory (Step.Record item) G h = tt
  fetched_turn next rose FetchFault.LinkFault (Step.Closing closing) G h = absurd h
  fetched_turn next rose (FetchFault.Refused refusal) (Step.Closing closing) G h = absurd h
  fetched_turn next rose (FetchFault.Breach breach) (Step.Closing closing) G h = inl (made_end_breaks args known limits since before now after s tally steps K (Ok (Step.Closing closing)) G closing refl breach h)
  fetched_turn next rose (FetchFault.Stalled count) (Step.Closing closing) G h = absurd h
  fetched_turn next rose FetchFault.Memory (Step.Closing closing) G h = tt

-- ---- the list of all READs

pub asked_open : (before now : Option (List ReadArgs)) (args : ReadArgs) (result : Result (Unit {0}) LinkAnswer) (u : Unit {0}) → AddsRead before now args result → result ≡ Ok u → HasAsked before now args
asked_open None now args result u h s = tt
asked_open (Some before) now args result u h s = subst (AddsRead (Some before) now args) s h

pub asks_any : (before now : Option (List ReadArgs)) (args : ReadArgs) (result : Result Batch FetchFault) → HasAsked before now args → AsksOnce before now args result
asks_any before now args (Ok batch) h = h
asks_any before now args (Err FetchFault.LinkFault) h = h
asks_any before now args (Err (FetchFault.Refused refusal)) h = h
asks_any before now args (Err (FetchFault.Breach breach)) h = h
asks_any before now args (Err (FetchFault.Stalled count)) h = h
asks_any before now args (Err FetchFault.Memory) h = inr h

pub asks_open : (before now : Option (List ReadArgs)) (args : ReadArgs) (answer : LinkAnswer) → AddsRead before now args (Err answer) → AsksOnce before now args (Err (fault_of answer))
asks_open None now args answer h = asks_any None now args (Err (fault_of answer)) tt
asks_open (Some before) now args LinkAnswer.Failed h = h
asks_open (Some before) now args (LinkAnswer.Refused refusal) h = h
asks_open (Some before) now args (LinkAnswer.BadLine number fault) h = h
asks_open (Some before) now args LinkAnswer.Memory h = h

-- a fault of a turn is none of the link's
pub turn_never_fails : (args : ReadArgs) (known : Known) (limits : Limits) (s now : SoFar) (tally : Tally) (step : Step) → IsTurn args known limits s now tally step (Err FetchFault.LinkFault) → ⊥
turn_never_fails args known limits s now tally (Step.Record item) h = h
turn_never_fails args known limits s now tally (Step.Closing closing) h = h

-- ---- how many steps there are

pub few_open : (most : ℕ) (before now : Option (Option Read)) (args : ReadArgs) (moment : ℕ) (result : Result (Unit {0}) LinkAnswer) → Opens before now args moment result → HasFewSteps most before now
few_open most None now args moment result O = tt
few_open most (Some before) now args moment (Ok u) O = inr (begun args moment (Ok u), O, omega arith)
few_open most (Some before) now args moment (Err LinkAnswer.Failed) O = inr (begun args moment (Err LinkAnswer.Failed), O, omega arith)
few_open most (Some before) now args moment (Err (LinkAnswer.Refused refusal)) O = inr (begun args moment (Err (LinkAnswer.Refused refusal)), O, omega arith)
few_open most (Some before) now args moment (Err (LinkAnswer.BadLine number fault)) O = inr (begun args moment (Err (LinkAnswer.BadLine number fault)), O, omega arith)
few_open most (Some before) now args moment (Err LinkAnswer.Memory) (inl O) = inl O
few_open most (Some before) now args moment (Err LinkAnswer.Memory) (inr O) = inr (begun args moment (Err LinkAnswer.Memory), O, omega arith)

-- as many as before a call of `next`, or one more
next_long : (read : Read) (result : Result Step LinkAnswer) → length (after_next read result).steps ≤ length read.steps + 1
next_long read (Ok step) = let n = length-append read.steps (step ∷ []) in omega (arith, n)
next_long read (Err LinkAnswer.Failed) = omega arith
next_long read (Err (LinkAnswer.Refused refusal)) = omega arith
next_long read (Err (LinkAnswer.BadLine number fault)) = omega arith
next_long read (Err LinkAnswer.Memory) = omega arith

pub few_next : (args : ReadArgs) (known : Known) (limits : Limits) (since : ℕ) (before now after : Option (Option Read)) (s : SoFar) (tally : Tally) (steps most : ℕ) → IsKept args known limits since before now s tally steps → (result : Result Step LinkAnswer) → Goes now after result → steps < most → HasFewSteps most before after
few_next args known limits since before now after s tally steps most K result G l = by before K.told
  where
    by : (o : Option (Option Read)) → Presents o now (HasGiven args since K.done) → HasFewSteps most o after
    by None p = tt
    by (Some b) p =
        let n = next_long p.0 result in
        let m = ap length p.2.gave in
        let k = K.long in
        inr (after_next p.0 result, subst (λ z. Goes z after result) p.1 G, omega (arith, n, m, k, l))

-- ---- the causes, one by one

module _ (args : ReadArgs) (known : Known) (limits : Limits) (since : ℕ) (before now : Option (Option Read)) (rose : Type 0) where
  pub fetched_batch : (result : Result Batch FetchFault) → IsFetched args known limits since before now rose result → IfOk result (λ batch. IsMade args known limits since before now (Gives batch))
  fetched_batch (Ok batch) F = F
  fetched_batch (Err fault) F = tt

  pub fetched_breach : (result : Result Batch FetchFault) (breach : Breach) → IsFetched args known limits since before now rose result → result ≡ Err (FetchFault.Breach breach) → IsMade args known limits since before now (Breaks breach) ⊎ IsBadLine args known limits since before now breach
  fetched_breach result breach F h = subst (IsFetched args known limits since before now rose) h F

  pub fetched_stalled : (result : Result Batch FetchFault) (count : ℕ) → IsFetched args known limits since before now rose result → result ≡ Err (FetchFault.Stalled count) → (count ≡ 8192) × IsMade args known limits since before now Stalls
  fetched_stalled result count F h = subst (IsFetched args known limits since before now rose) h F

  pub fetched_refused : (result : Result Batch FetchFault) (refusal : ReadRefusal) → IsFetched args known limits since before now rose result → result ≡ Err (FetchFault.Refused refusal) → Presents before now (WasRefused args refusal)
  fetched_refused result refusal F h = subst (IsFetched args known limits since before now rose) h F

  pub fetched_link_fault : (result : Result Batch FetchFault) → IsFetched args known limits since before now rose result → result ≡ Err FetchFault.LinkFault → rose
  fetched_link_fault result F h = subst (IsFetched args known limits since before now rose) h F
