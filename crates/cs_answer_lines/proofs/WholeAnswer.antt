-- A line can stand for each step of an answer.
use Rattle.std.proofs.Common.{◌≡◌, ℕ, suc, ◌+◌, ◌-◌, ◌≤◌, Bool, true, false, cond, nat_le, nat_lt, List, [], ◌∷◌, ◌++◌, map, length, take, filter, Option, None, Some, refl, ap, ◌∙◌, arith, All}
use Rattle.std.specs.Int.{is_in_range}
use Rattle.std.proofs.lemmas.List.{length-map}
use Rattle.std.proofs.lemmas.List.Elements.{All-nil, All-cons, All-head, All-tail, All-append, All-take, All-filter, All-contains}
use Rattle.cs_types.specs.Names.{is_among}
use Rattle.cs_types.specs.Members.{filter_shorter}
use Rattle.cs_place.specs.declared.part.Part.{Part}
use Rattle.cs_place.specs.Part.{is_below, is_live}
use Rattle.cs_partitions.specs.Views.{children_of as parts_after}
use Rattle.cs_records.specs.declared.records.Child.{Child}
use Rattle.cs_records.specs.declared.records.DataRecord.{DataRecord}
use Rattle.cs_records.specs.declared.records.Record.{Record}
use Rattle.cs_link.specs.declared.reading.Closing.{Closing}
use Rattle.cs_link.specs.declared.reading.Step.{Step}
use Rattle.cs_json_reading.specs.Standing.{CanStandFor}
use Rattle.cs_steps.specs.Captures.{CapturedIsCommitted, captured_items}
use Rattle.cs_steps.specs.Records.{data_records}
use Rattle.cs_steps.specs.Steps.{beat_at, paced, listed_from, child_groups, child_steps, put_by_low, by_low, child_of, first_of, children_of, live_at, has_ended, closing, ending, cut_off, top_of, records_for}
use Rattle.cs_answer_lines.specs.StepLine.{CanStandAs}
use Rattle.cs_answer_lines.specs.Writable.{PartCanStand, StartCanStand, EachCanStand}
use Rattle.cs_answer_lines.proofs.Captured.{CanBeTold, good_items}
use Rattle.cs_answer_lines.proofs.Cuts.{fewer}
use Rattle.cs_answer_lines.proofs.Transactions.{data_stand}

one_step : (x : Step) → CanStandAs x → All CanStandAs (x ∷ [])
one_step x h = All-cons CanStandAs x [] h (All-nil CanStandAs)

-- ---- records and heartbeats

beat_stands : (gap last stamp at : ℕ) → All CanStandAs (beat_at gap last stamp at)
beat_stands gap last stamp at = by (nat_le (last + gap) stamp)
  where
    by : (b : Bool) → All CanStandAs (cond b (Step.Record (Record.Heartbeat at) ∷ []) [])
    by true = one_step (Step.Record (Record.Heartbeat at)) tt
    by false = All-nil CanStandAs

paced_stand : (gap top last : ℕ) (ds : List DataRecord) → All CanStandFor ds → All CanStandAs (paced gap top last ds)
paced_stand gap top last [] h = beat_stands gap last top top
paced_stand gap top last (d ∷ ds) h =
    All-append CanStandAs (beat_at gap last d.stamp (d.stamp - 1)) (Step.Record (Record.Change d) ∷ paced gap top d.stamp ds) (beat_stands gap last d.stamp (d.stamp - 1))
    (All-cons CanStandAs (Step.Record (Record.Change d)) (paced gap top d.stamp ds) (All-head CanStandFor d ds h) (paced_stand gap top d.stamp ds (All-tail CanStandFor d ds h)))

-- ---- children

listed_stand : (start n : ℕ) (ks : List (List Child)) → n + length ks ≤ 100000000 → All CanStandAs (listed_from start n ks)
listed_stand start n [] h = All-nil CanStandAs
listed_stand start n (k ∷ ks) h = All-cons CanStandAs (Step.Record (Record.Children (record { start = start; sequence = n; children = k }))) (listed_from start (n + 1) ks) (omega (arith, h)) (listed_stand start (n + 1) ks (omega (arith, h)))

children_stand : (start : ℕ) (children : List Child) → length children ≤ 65536 → All CanStandAs (child_steps start children)
children_stand start children few = listed_stand start 0 (child_groups children) (omega (arith, fewer (λ group x. nat_lt (length group) 1024) children, few))

length_put : (p : Part) (ps : List Part) → length (put_by_low p ps) ≡ suc (length ps)
length_put p [] = refl
length_put p (q ∷ qs) = by (is_below p.range.low q.range.low) (length_put p qs)
  where
    by : (b : Bool) → length (put_by_low p qs) ≡ suc (length qs) → length (cond b (p ∷ q ∷ qs) (q ∷ put_by_low p qs)) ≡ suc (suc (length qs))
    by true h = refl
    by false h = ap suc h

length_low : (ps : List Part) → length (by_low ps) ≡ length ps
length_low [] = refl
length_low (p ∷ ps) = length_put p (by_low ps) ∙ ap suc (length_low ps)

few_children : (parts : List Part) (part : Part) → length parts ≤ 65536 → length (children_of parts part) ≤ 65536
few_children parts part few =
    let mapped : length (map child_of (by_low (parts_after part.token parts))) ≡ length (by_low (parts_after part.token parts)) = length-map (by_low (parts_after part.token parts)) child_of in
    omega (arith, mapped, length_low (parts_after part.token parts), filter_shorter (λ (p : Part). is_among part.token p.parents) parts, few)

few_live : (parts : List Part) (moment : ℕ) → length parts ≤ 65536 → length (live_at parts moment) ≤ 65536
few_live parts moment few =
    let live = filter (λ q. is_live q moment) parts in
    let mapped : length (map first_of (by_low live)) ≡ length (by_low live) = length-map (by_low live) first_of in
    omega (arith, mapped, length_low live, filter_shorter (λ q. is_live q moment) parts, few)

-- ---- the whole answer

closing_stands : (end moment : ℕ) → All CanStandAs (closing end moment)
closing_stands end moment = by (nat_le end moment)
  where
    by : (b : Bool) → All CanStandAs (cond b (Step.Closing Closing.Finished ∷ []) (Step.Closing (Closing.CaughtUp moment) ∷ []))
    by true = one_step (Step.Closing Closing.Finished) tt
    by false = one_step (Step.Closing (Closing.CaughtUp moment)) tt

listing_stands : (start : ℕ) (children : List Child) → length children ≤ 65536 → All CanStandAs (child_steps start children ++ Step.Closing Closing.Finished ∷ [])
listing_stands start children few = All-append CanStandAs (child_steps start children) (Step.Closing Closing.Finished ∷ []) (children_stand start children few) (one_step (Step.Closing Closing.Finished) tt)

ending_stands : (children : List Child) (end moment : ℕ) (until : Option ℕ) → length children ≤ 65536 → All CanStandAs (ending children end moment until)
ending_stands children end moment None few = closing_stands end moment
ending_stands children end moment (Some until) few = by (has_ended end moment (Some until))
  where
    by : (b : Bool) → All CanStandAs (cond b (child_steps until children ++ Step.Closing Closing.Finished ∷ []) (closing end moment))
    by true = listing_stands until children few
    by false = closing_stands end moment

cut_stands : (most : ℕ) (xs rest : List Step) → All CanStandAs xs → All CanStandAs rest → All CanStandAs (cut_off most xs rest)
cut_stands most xs rest h k = by (nat_lt most (length xs))
  where
    by : (b : Bool) → All CanStandAs (cond b (take most xs ++ Step.Closing Closing.Cut ∷ []) (xs ++ rest))
    by true = All-append CanStandAs (take most xs) (Step.Closing Closing.Cut ∷ []) (All-take CanStandAs most xs h) (one_step (Step.Closing Closing.Cut) tt)
    by false = All-append CanStandAs xs rest h k

pub part_stands : CanBeTold → CapturedIsCommitted → PartCanStand
part_stands L M tables streams stream ms parts a K W few =
    let items = captured_items tables stream ms in
    let records : All CanStandFor (data_records parts a.part items) = data_stand parts items few stream.created (M tables streams stream ms K) (good_items tables stream L streams ms K W) a.part in
    cut_stands 8192 (paced a.gap (top_of a) a.start (records_for parts items a)) (ending (children_of parts a.part) a.end a.moment a.part.until)
    (paced_stand a.gap (top_of a) a.start (records_for parts items a) (All-filter (λ (d : DataRecord). is_in_range a.start (top_of a) d.stamp) CanStandFor (data_records parts a.part items) records))
    (ending_stands (children_of parts a.part) a.end a.moment a.part.until (few_children parts a.part few))

pub start_stands : StartCanStand
start_stands parts start few = listing_stands start (live_at parts start) (few_live parts start few)

pub each_stands : EachCanStand
each_stands steps k step h i = All-contains CanStandAs steps step h (k, i.0, i.1)
