-- The heartbeats of an answer stand so far above its start as they were asked for.
use Rattle.std.proofs.Common.{◌≡◌, ℕ, suc, ◌+◌, ◌-◌, ◌≤◌, ◌&&◌, ◌||◌, Bool, true, false, cond, nat_le, nat_lt, List, [], ◌∷◌, ◌++◌, take, length, Option, None, Some, All, refl, subst, arith}
use Rattle.std.specs.Prelude.{⊤}
use Rattle.std.specs.Int.{is_in_range}
use Rattle.std.specs.Option.{option_or}
use Rattle.std.proofs.lemmas.Bool.{leb-true, ltb-false}
use Rattle.std.proofs.lemmas.List.Elements.{All-nil, All-cons, All-append, All-take}
use Rattle.cs_place.specs.declared.part.Part.{Part}
use Rattle.cs_records.specs.declared.captured.Captured.{Captured}
use Rattle.cs_records.specs.declared.records.Child.{Child}
use Rattle.cs_records.specs.declared.records.DataRecord.{DataRecord}
use Rattle.cs_records.specs.declared.records.Record.{Record}
use Rattle.cs_partitions.specs.Reshape.{part_named}
use Rattle.cs_link.specs.declared.reading.Closing.{Closing}
use Rattle.cs_link.specs.declared.reading.ReadArgs.{ReadArgs}
use Rattle.cs_link.specs.declared.reading.Step.{Step}
use Rattle.cs_link.specs.declared.refusal.ReadRefusal.{ReadRefusal}
use Rattle.cs_link.specs.Pace.{pace}
use Rattle.cs_steps.specs.Captures.{captured_items}
use Rattle.cs_steps.specs.Refusals.{time_refusal, token_refusal, refusal_by}
use Rattle.cs_steps.specs.Steps.{Asked, between, beat_at, paced, listed_from, child_groups, child_steps, children_of, live_at, has_ended, closing, ending, cut_off, top_of, records_for, steps_of_part}
use Rattle.cs_steps.specs.Records.{data_records}
use Rattle.cs_script.specs.Database.{Database}
use Rattle.cs_read.specs.Answers.{StreamRead, stream_steps}
use Rattle.cs_read.specs.Asked.{asked_of, steps_of_named, steps_by_token, steps_asked}
use Rattle.cs_read.specs.Honest.{given_as}
use Rattle.cs_server.specs.Typed.{read_typed, refusal_to, refusal_of, steps_of, steps_given}

-- a heartbeat is not below a bound
abbrev pub IsAbove : ℕ → Step → Type 0
IsAbove bound (Step.Record (Record.Change item)) = ⊤
IsAbove bound (Step.Record (Record.Heartbeat at)) = bound ≤ at
IsAbove bound (Step.Record (Record.Children item)) = ⊤
IsAbove bound (Step.Closing end) = ⊤

and_left : (p q : Bool) → (p && q) ≡ true → p ≡ true
and_left true q h = refl
and_left false q h = h

from_start : (start top stamp : ℕ) → is_in_range start top stamp ≡ true → start ≤ stamp
from_start start top stamp h = leb-true start stamp (and_left (nat_le start stamp) (nat_le stamp top) h)

one_above : (bound : ℕ) (step : Step) → IsAbove bound step → All (IsAbove bound) (step ∷ [])
one_above bound step h = All-cons (IsAbove bound) step [] h (All-nil (IsAbove bound))

-- ---- records

module _ (bound start gap top : ℕ) (within : suc bound ≤ start + gap) where
  beat_above : (last stamp at : ℕ) → start ≤ last → stamp ≤ suc at → All (IsAbove bound) (beat_at gap last stamp at)
  beat_above last stamp at from near = by (nat_le (last + gap) stamp) refl
    where
      by : (t : Bool) → nat_le (last + gap) stamp ≡ t → All (IsAbove bound) (cond t (Step.Record (Record.Heartbeat at) ∷ []) [])
      by true e = let late : last + gap ≤ stamp = leb-true (last + gap) stamp e in one_above bound (Step.Record (Record.Heartbeat at)) (omega (arith, late, from, near, within))
      by false e = All-nil (IsAbove bound)

  record_above : (last : ℕ) (d : DataRecord) (rest : List Step) → start ≤ last → All (IsAbove bound) rest → All (IsAbove bound) (beat_at gap last d.stamp (d.stamp - 1) ++ Step.Record (Record.Change d) ∷ rest)
  record_above last d rest from h =
      All-append (IsAbove bound) (beat_at gap last d.stamp (d.stamp - 1)) (Step.Record (Record.Change d) ∷ rest) (beat_above last d.stamp (d.stamp - 1) from (omega arith))
      (All-cons (IsAbove bound) (Step.Record (Record.Change d)) rest tt h)

  pub paced_above : (records : List DataRecord) (last : ℕ) → start ≤ last → All (IsAbove bound) (paced gap top last (between start top records))
  paced_above [] last from = beat_above last top top from (omega arith)
  paced_above (d ∷ ds) last from = by (is_in_range start top d.stamp) refl (λ n f. paced_above ds n f)
    where
      by : (t : Bool) → is_in_range start top d.stamp ≡ t → ((n : ℕ) → start ≤ n → All (IsAbove bound) (paced gap top n (between start top ds))) → All (IsAbove bound) (paced gap top last (cond t (d ∷ between start top ds) (between start top ds)))
      by true e f = record_above last d (paced gap top d.stamp (between start top ds)) from (f d.stamp (from_start start top d.stamp e))
      by false e f = f last from

-- ---- what stands behind them

module _ (bound : ℕ) where
  listed_above : (start sequence : ℕ) (groups : List (List Child)) → All (IsAbove bound) (listed_from start sequence groups)
  listed_above start sequence [] = All-nil (IsAbove bound)
  listed_above start sequence (k ∷ ks) = All-cons (IsAbove bound) (Step.Record (Record.Children (record { start = start; sequence = sequence; children = k }))) (listed_from start (sequence + 1) ks) tt (listed_above start (sequence + 1) ks)

  children_above : (start : ℕ) (children : List Child) → All (IsAbove bound) (child_steps start children ++ Step.Closing Closing.Finished ∷ [])
  children_above start children = All-append (IsAbove bound) (child_steps start children) (Step.Closing Closing.Finished ∷ []) (listed_above start 0 (child_groups children)) (one_above bound (Step.Closing Closing.Finished) tt)

  closing_above : (end moment : ℕ) → All (IsAbove bound) (closing end moment)
  closing_above end moment = by (nat_le end moment)
    where
      by : (t : Bool) → All (IsAbove bound) (cond t (Step.Closing Closing.Finished ∷ []) (Step.Closing (Closing.CaughtUp moment) ∷ []))
      by true = one_above bound (Step.Closing Closing.Finished) tt
      by false = one_above bound (Step.Closing (Closing.CaughtUp moment)) tt

  ending_above : (children : List Child) (end moment : ℕ) (until : Option ℕ) → All (IsAbove bound) (ending children end moment until)
  ending_above children end moment None = closing_above end moment
  ending_above children end moment (Some until) = by (has_ended end moment (Some until))
    where
      by : (t : Bool) → All (IsAbove bound) (cond t (child_steps until children ++ Step.Closing Closing.Finished ∷ []) (closing end moment))
      by true = children_above until children
      by false = closing_above end moment

  cut_above : (most : ℕ) (records rest : List Step) → All (IsAbove bound) records → All (IsAbove bound) rest → All (IsAbove bound) (cut_off most records rest)
  cut_above most records rest h k = by (nat_lt most (length records))
    where
      by : (t : Bool) → All (IsAbove bound) (cond t (take most records ++ Step.Closing Closing.Cut ∷ []) (records ++ rest))
      by true = All-append (IsAbove bound) (take most records) (Step.Closing Closing.Cut ∷ []) (All-take (IsAbove bound) most records h) (one_above bound (Step.Closing Closing.Cut) tt)
      by false = All-append (IsAbove bound) records rest h k

-- ---- the whole answer

part_above : (bound : ℕ) (parts : List Part) (items : List Captured) (a : Asked) → suc bound ≤ a.start + a.gap → All (IsAbove bound) (steps_of_part parts items a)
part_above bound parts items a within =
    cut_above bound 8192 (paced a.gap (top_of a) a.start (records_for parts items a)) (ending (children_of parts a.part) a.end a.moment a.part.until)
    (paced_above bound a.start a.gap (top_of a) within (data_records parts a.part items) a.start (omega arith)) (ending_above bound (children_of parts a.part) a.end a.moment a.part.until)

named_above : (parts : List Part) (items : List Captured) (args : ReadArgs) (moment : ℕ) → 1 ≤ args.heartbeat_ms → (found : Option Part) → All (IsAbove (args.start + pace args)) (steps_of_named parts items args moment found)
named_above parts items args moment some None = All-nil (IsAbove (args.start + pace args))
named_above parts items args moment some (Some part) = part_above (args.start + pace args) parts items (asked_of args moment part) (omega (arith, some))

token_above : (parts : List Part) (items : List Captured) (args : ReadArgs) (moment : ℕ) → 1 ≤ args.heartbeat_ms → (token : Option (List ℕ)) → All (IsAbove (args.start + pace args)) (steps_by_token parts items args moment token)
token_above parts items args moment some None = children_above (args.start + pace args) args.start (live_at parts args.start)
token_above parts items args moment some (Some token) = named_above parts items args moment some (part_named token parts)

-- an accepted READ has a heartbeat
neither : (a b : Bool) → (a || b) ≡ false → a ≡ false
neither true b e = e
neither false b e = refl

passed : (b : Bool) (x : ReadRefusal) (rest : Option ReadRefusal) → cond b (Some x) rest ≡ None → b ≡ false
passed true x rest e = cc
passed false x rest e = refl

or_none : (a b : Option ReadRefusal) → option_or a b ≡ None → a ≡ None
or_none None b e = refl
or_none (Some x) b e = cc

some_beat : (parts : List Part) (created retention moment : ℕ) (args : ReadArgs) → refusal_by parts created retention args moment ≡ None → 1 ≤ args.heartbeat_ms
some_beat parts created retention moment args e =
    let timely : time_refusal args created retention moment ≡ None = or_none (time_refusal args created retention moment) (token_refusal parts args.token args.start) e in
    let low = passed (nat_lt args.heartbeat_ms 1000 || nat_lt 300000 args.heartbeat_ms) ReadRefusal.Heartbeat _ timely in
    let most : 1000 ≤ args.heartbeat_ms = ltb-false args.heartbeat_ms 1000 (neither (nat_lt args.heartbeat_ms 1000) (nat_lt 300000 args.heartbeat_ms) low) in
    omega (arith, most)

module _ (db : Database) (args : ReadArgs) (moment : ℕ) where
  stream_above : (r : Option StreamRead) → ((x : StreamRead) → r ≡ Some x → x.args ≡ args) → refusal_to r moment ≡ None → All (IsAbove (args.start + pace args)) (stream_steps db r moment)
  stream_above None same none = All-nil (IsAbove (args.start + pace args))
  stream_above (Some r) same none =
      subst (λ (a : ReadArgs). All (IsAbove (a.start + pace a)) (steps_asked r.parts (captured_items db.tables r.stream db.modifications) r.args moment)) (same r refl)
      (token_above r.parts (captured_items db.tables r.stream db.modifications) r.args moment (some_beat r.parts r.stream.created r.stream.retention_us moment r.args none) r.args.token)

  pub given_above : ((x : StreamRead) → read_typed db args ≡ Some x → x.args ≡ args) → All (IsAbove (args.start + pace args)) (steps_given db args moment)
  given_above same = by (refusal_of db args moment) refl
    where
      by : (o : Option ReadRefusal) → refusal_of db args moment ≡ o → All (IsAbove (args.start + pace args)) (given_as o (steps_of db args moment))
      by None e = stream_above (read_typed db args) same e
      by (Some refusal) e = All-nil (IsAbove (args.start + pace args))
