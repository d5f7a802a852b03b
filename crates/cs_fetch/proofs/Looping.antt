-- What the loop of `fetch` keeps, call by call, and what it stops with.
use Rattle.std.proofs.Common.{◌≡◌, ℕ, ◌+◌, ◌*◌, ◌^◌, ◌<◌, ◌≤◌, min, Bool, true, false, cond, List, [], ◌∷◌, ◌++◌, length, length-append, append-nil, Option, Some, None, refl, ap, ◌∙◌, sym, subst, arith, leb, ltb}
use Rattle.std.specs.Prelude.{Ok, Err, Result}
use Rattle.std.proofs.lemmas.Bool.{leb-false, ltb-false, ltb-true, or_parts, and_parts}
use Rattle.cs_records.specs.declared.records.Record.{Record}
use Rattle.cs_records.specs.declared.faults.LineFault.{LineFault}
use Rattle.cs_link.specs.declared.batch.Batch.{Batch}
use Rattle.cs_link.specs.declared.batch.Known.{Known}
use Rattle.cs_link.specs.declared.batch.Limits.{Limits}
use Rattle.cs_link.specs.declared.breach.Breach.{Breach}
use Rattle.cs_link.specs.declared.reading.Closing.{Closing}
use Rattle.cs_link.specs.declared.reading.ReadArgs.{ReadArgs}
use Rattle.cs_link.specs.declared.reading.Step.{Step}
use Rattle.cs_link.specs.declared.refusal.LinkAnswer.{LinkAnswer}
use Rattle.cs_fetch.specs.declared.so_far.SoFar.{SoFar}
use Rattle.cs_fetch.specs.declared.so_far.Tally.{Tally}
use Rattle.cs_fetch.specs.declared.taken.Went.{Went}
use Rattle.cs_fetch.specs.Breach.{record_breach, end_breach}
use Rattle.cs_link.specs.Calls.{Opens, Goes}
use Rattle.cs_fetch.specs.Fetch.{counted_in, idled, is_past, none_counted, Gives, Breaks, Stalls, closed_by, filled, outcome_of, most_calls}
use Rattle.cs_fetch.specs.Keeping.{has_new_child}
use Rattle.cs_fetch.specs.Made.{Presents, HasGiven, IsMade, HadBadLine}
use Rattle.cs_link.specs.Reading.{Read}
use Rattle.cs_fetch.specs.SoFar.{so_far, adds, with_record}
use Rattle.cs_fetch.specs.Went.{went_of}
use Rattle.cs_fetch.proofs.Reached.{IsReached, reached_none, reached_on, stops_full, stops_stalled, stops_breaks, stops_closed, end_breaks}
use Rattle.cs_fetch.specs.Weight.{bearers, weight_before_last}
use Rattle.cs_fetch.proofs.Weighing.{weight_of, weighs_on, light_more}
use Rattle.cs_fetch.proofs.Told.{presents_open, presents_next, presents_bad}

-- ---- how many steps there can be

pub record IsCounted (limits : Limits) (steps lists : ℕ) (tally : Tally) : Type 0 where
  pub long : steps ≤ 8192 * (tally.count + min lists 8192) + tally.idle
  pub idle : tally.idle < 8192
  pub few : tally.count < limits.records
  pub within : tally.weight ≤ limits.bytes

abbrev of_on : Went → Tally
of_on (Went.Breaks breach) = none_counted
of_on Went.Fills = none_counted
of_on Went.Stalls = none_counted
of_on (Went.On t) = t

module _ (known : Known) (limits : Limits) (steps : ℕ) (s : SoFar) (tally : Tally) (P : IsCounted limits steps s.marks.lists tally) (small : limits.records ≤ 8192) where
  idle_tally : (item : Record) (t : Tally) (z : Bool) → leb 8192 (idled tally).idle ≡ z → Went.On t ≡ cond z Went.Stalls (Went.On (idled tally)) → min s.marks.lists 8192 ≤ min (with_record known s item).marks.lists 8192 → IsCounted limits (steps + 1) (with_record known s item).marks.lists t
  idle_tally item t true g h l = cc
  idle_tally item t false g h l =
      let i = leb-false 8192 (idled tally).idle g in
      let same : t ≡ idled tally = ap of_on h in
      subst (λ z. IsCounted limits (steps + 1) (with_record known s item).marks.lists z) (sym same)
      (record { long = omega (arith, P.long, P.idle, l); idle = omega (arith, i); few = P.few; within = P.within })

  past_tally : (lists : ℕ) (t u : Tally) (z : Bool) → is_past limits u ≡ z → Went.On t ≡ cond z Went.Fills (Went.On u) → s.marks.lists ≡ lists → u.count ≡ min (tally.count + 1) 18446744073709551615 → u.idle ≡ 0 → IsCounted limits (steps + 1) lists t
  past_tally lists t u true g h l c i = cc
  past_tally lists t u false g h l c i =
      let f = leb-false limits.records u.count (or_parts (leb limits.records u.count) (ltb limits.bytes u.weight) g).0 in
      let g1 = (or_parts (leb limits.records u.count) (ltb limits.bytes u.weight) g).1 in
      let same : t ≡ u = ap of_on h in
      subst (λ z. IsCounted limits (steps + 1) lists z) (sym same)
      (record { long = omega (arith, P.long, P.idle, P.few, small, l, c, i); idle = omega (arith, i); few = omega (arith, f); within = ltb-false limits.bytes u.weight g1 })

  pub tally_on : (item : Record) (t : Tally) (b : Bool) → adds known s item ≡ b → Went.On t ≡ went_of limits tally item None b → IsCounted limits (steps + 1) (with_record known s item).marks.lists t
  tally_on (Record.Change item) t true a h = past_tally s.marks.lists t (counted_in tally (Record.Change item)) (is_past limits (counted_in tally (Record.Change item))) refl h refl refl refl
  tally_on (Record.Heartbeat at) t true a h = past_tally s.marks.lists t (counted_in tally (Record.Heartbeat at)) (is_past limits (counted_in tally (Record.Heartbeat at))) refl h refl refl refl
  tally_on (Record.Children item) t true a h =
      let l = ltb-true s.marks.lists 8192 (and_parts (has_new_child s.children item.children) (ltb s.marks.lists 8192) a).1 in
      let same : t ≡ counted_in tally (Record.Children item) = ap of_on h in
      subst (λ z. IsCounted limits (steps + 1) (with_record known s (Record.Children item)).marks.lists z) (sym same)
      (record { long = omega (arith, P.long, P.idle, l); idle = omega arith; few = P.few; within = P.within })
  tally_on (Record.Change item) t false a h = idle_tally (Record.Change item) t (leb 8192 (idled tally).idle) refl h (omega arith)
  tally_on (Record.Heartbeat at) t false a h = idle_tally (Record.Heartbeat at) t (leb 8192 (idled tally).idle) refl h (omega arith)
  tally_on (Record.Children item) t false a h = idle_tally (Record.Children item) t (leb 8192 (idled tally).idle) refl h (omega arith)

-- ---- the loop

pub record IsKept (args : ReadArgs) (known : Known) (limits : Limits) (since : ℕ) (before now : Option (Option Read)) (s : SoFar) (tally : Tally) (steps : ℕ) : Type 0 where
  pub done : List Step
  pub reached : IsReached args known limits done s tally
  pub told : Presents before now (HasGiven args since done)
  pub long : length done ≡ steps
  pub counted : IsCounted limits steps s.marks.lists tally
  -- what is counted is at least what the records weigh that brought a new change
  pub light : weight_of (bearers known done) ≤ tally.weight
  pub small : limits.bytes < 2 ^ 32

pub kept_none : (args : ReadArgs) (known : Known) (limits : Limits) (since : ℕ) (before now : Option (Option Read)) (moment : ℕ) (result : Result (Unit {0}) LinkAnswer) (u : Unit {0}) (s : SoFar) (tally : Tally)
    → since ≤ moment → Opens before now args moment result → result ≡ Ok u → 1 ≤ limits.records → limits.bytes < 2 ^ 32 → s ≡ so_far known [] → tally ≡ none_counted → IsKept args known limits since before now s tally 0
kept_none args known limits since before now moment result u s tally m O h l b a t =
    record {
      done = [];
      reached = reached_none args known limits s tally a t;
      told = presents_open before now args since moment result u m O h;
      long = refl;
      counted = let c = ap (λ (z : Tally). z.count) t in let i = ap (λ (z : Tally). z.idle) t in record { long = omega arith; idle = omega (arith, i); few = omega (arith, c, l); within = let w = ap (λ (z : Tally). z.weight) t in omega (arith, w) };
      light = omega arith;
      small = b;
    }

pub kept_over : (args : ReadArgs) (known : Known) (limits : Limits) (since : ℕ) (before now : Option (Option Read)) (s : SoFar) (tally : Tally) (steps : ℕ) → IsKept args known limits since before now s tally steps → limits.records ≤ 8192 → most_calls limits ≤ steps → ⊥
kept_over args known limits since before now s tally steps K small h = omega (arith, small, h, K.counted.long, K.counted.idle, K.counted.few)

module _ (args : ReadArgs) (known : Known) (limits : Limits) (since : ℕ) (before now after : Option (Option Read)) (s : SoFar) (tally : Tally) (steps : ℕ) (K : IsKept args known limits since before now s tally steps) (result : Result Step LinkAnswer) (G : Goes now after result) where
  next_told : (step : Step) → result ≡ Ok step → Presents before after (HasGiven args since (K.done ++ step ∷ []))
  next_told step h = presents_next before now after args since K.done result step K.told G h

  light_next : (step : Step) → weight_before_last (bearers known (K.done ++ step ∷ [])) ≤ limits.bytes
  light_next step = light_more known K.done step limits.bytes (let l = K.light in let w = K.counted.within in omega (arith, l, w))

  pub line_bad : (number : ℕ) (fault : LineFault) → result ≡ Err (LinkAnswer.BadLine number fault) → Presents before after (HadBadLine args known limits since number fault)
  line_bad number fault h = presents_bad before now after args since K.done result known limits number fault (ap (outcome_of args known limits) (sym (append-nil K.done)) ∙ K.reached.all []) K.told G h

  module _ (item : Record) (h : result ≡ Ok (Step.Record item)) where
    right : (t : Tally) (o : Option Breach) → Went.On t ≡ went_of limits tally item o (adds known s item) → o ≡ None
    right t None g = refl
    right t (Some x) g = cc

    pub kept_on : (t : Tally) (next : SoFar) → limits.records ≤ 8192 → Went.On t ≡ went_of limits tally item (record_breach args s item) (adds known s item) → (record_breach args s item ≡ None → next ≡ with_record known s item) → IsKept args known limits since before after next t (steps + 1)
    kept_on t next small g a =
        let none = right t (record_breach args s item) g in
        let is = a none in
        let went : Went.On t ≡ went_of limits tally item None (adds known s item) = g ∙ ap (λ o. went_of limits tally item o (adds known s item)) none in
        let fits = tally_on known limits steps s tally K.counted small item t (adds known s item) refl went in
        record {
          done = K.done ++ Step.Record item ∷ [];
          reached = reached_on args known limits K.done s tally K.reached item t next g a;
          told = next_told (Step.Record item) h;
          long = length-append K.done (Step.Record item ∷ []) ∙ ap (λ n. n + 1) K.long;
          counted = subst (λ z. IsCounted limits (steps + 1) z.marks.lists t) (sym is) fits;
          light = weighs_on known limits tally t K.done item (adds known s item) K.small fits.within K.light (ap (λ z. adds known z item) (sym K.reached.state)) went;
          small = K.small;
        }

    pub made_full : (next : SoFar) (batch : Batch) → Went.Fills ≡ went_of limits tally item (record_breach args s item) (adds known s item) → (record_breach args s item ≡ None → next ≡ with_record known s item) → batch ≡ filled args next → IsMade args known limits since before after (Gives batch)
    made_full next batch g a b =
        record { steps = K.done ++ Step.Record item ∷ []; comes = stops_full args known limits K.done s tally K.reached item next g a ∙ ap Gives (sym b); light = light_next (Step.Record item); told = next_told (Step.Record item) h }

    pub made_stalled : Went.Stalls ≡ went_of limits tally item (record_breach args s item) (adds known s item) → IsMade args known limits since before after Stalls
    made_stalled g = record { steps = K.done ++ Step.Record item ∷ []; comes = stops_stalled args known limits K.done s tally K.reached item g; light = light_next (Step.Record item); told = next_told (Step.Record item) h }

    pub made_breaks : (breach : Breach) → Went.Breaks breach ≡ went_of limits tally item (record_breach args s item) (adds known s item) → IsMade args known limits since before after (Breaks breach)
    made_breaks breach g = record { steps = K.done ++ Step.Record item ∷ []; comes = stops_breaks args known limits K.done s tally K.reached item breach g; light = light_next (Step.Record item); told = next_told (Step.Record item) h }

  module _ (closing : Closing) (h : result ≡ Ok (Step.Closing closing)) where
    pub made_closed : (batch : Batch) → end_breach args known s closing ≡ None → batch ≡ closed_by args s closing → IsMade args known limits since before after (Gives batch)
    made_closed batch g b =
        record { steps = K.done ++ Step.Closing closing ∷ []; comes = stops_closed args known limits K.done s tally K.reached closing g ∙ ap Gives (sym b); light = light_next (Step.Closing closing); told = next_told (Step.Closing closing) h }

    pub made_end_breaks : (breach : Breach) → end_breach args known s closing ≡ Some breach → IsMade args known limits since before after (Breaks breach)
    made_end_breaks breach g = record { steps = K.done ++ Step.Closing closing ∷ []; comes = end_breaks args known limits K.done s tally K.reached closing breach g; light = light_next (Step.Closing closing); told = next_told (Step.Closing closing) h }
