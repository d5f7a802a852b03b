-- What a follower makes of the steps of a READ, one by one: a batch, or what no server may answer. This project's own.
use Rattle.std.specs.Prelude.{ℕ, ◌+◌, ◌-◌, ◌^◌, ◌*◌, min, max, Bool, false, ◌||◌, cond, List, [], ◌∷◌, ◌++◌, Option, Some, None, nat_lt, nat_le, ⊤}
use Rattle.cs_records.specs.declared.records.Record.{Record}
use Rattle.cs_records.specs.Weight.{record_weight}
use Rattle.cs_link.specs.declared.batch.Batch.{Batch}
use Rattle.cs_link.specs.declared.batch.Ending.{Ending}
use Rattle.cs_link.specs.declared.batch.Known.{Known}
use Rattle.cs_link.specs.declared.batch.Limits.{Limits}
use Rattle.cs_link.specs.declared.batch.NewChild.{NewChild}
use Rattle.cs_link.specs.declared.breach.Breach.{Breach}
use Rattle.cs_fetch.specs.declared.fault.FetchFault.{FetchFault}
use Rattle.cs_link.specs.declared.reading.Closing.{Closing}
use Rattle.cs_link.specs.declared.reading.ReadArgs.{ReadArgs}
use Rattle.cs_link.specs.declared.reading.Step.{Step}
use Rattle.cs_link.specs.declared.refusal.LinkAnswer.{LinkAnswer}
use Rattle.cs_fetch.specs.declared.so_far.SoFar.{SoFar}
use Rattle.cs_fetch.specs.declared.so_far.Tally.{Tally}
use Rattle.cs_fetch.specs.Breach.{record_breach, end_breach}
use Rattle.cs_link.specs.Causes.{one_more}
use Rattle.cs_link.specs.Reading.{end_of}
use Rattle.cs_fetch.specs.SoFar.{so_far, adds}

-- the fault by which `fetch` tells what the link answered
abbrev pub fault_of : LinkAnswer → FetchFault
fault_of LinkAnswer.Failed = FetchFault.LinkFault
fault_of (LinkAnswer.Refused refusal) = FetchFault.Refused refusal
fault_of (LinkAnswer.BadLine number fault) = FetchFault.Breach (Breach.BadLine number fault)
fault_of LinkAnswer.Memory = FetchFault.Memory

-- ---- counting

abbrev pub none_counted : Tally
none_counted = record { count = 0; weight = 0; idle = 0 }

-- a record that adds something; child records count for no limit
abbrev pub counted_in : Tally → Record → Tally
counted_in tally (Record.Change item) = record { count = one_more tally.count; weight = min (tally.weight + record_weight (Record.Change item)) (2 ^ 64 - 1); idle = 0 }
counted_in tally (Record.Heartbeat at) = record { count = one_more tally.count; weight = min (tally.weight + 0) (2 ^ 64 - 1); idle = 0 }
counted_in tally (Record.Children item) = record { count = tally.count; weight = tally.weight; idle = 0 }

-- a record that adds nothing
abbrev pub idled : Tally → Tally
idled tally = record { count = tally.count; weight = tally.weight; idle = one_more tally.idle }

-- whether a count has reached the limit of records, or passed that of bytes
abbrev pub is_past : Limits → Tally → Bool
is_past limits tally = nat_le limits.records tally.count || nat_lt limits.bytes tally.weight

-- whether a batch is full with a record that adds something
abbrev pub is_full : Limits → Tally → Record → Bool
is_full limits tally (Record.Change item) = is_past limits tally
is_full limits tally (Record.Heartbeat at) = is_past limits tally
is_full limits tally (Record.Children item) = false

-- ---- batches

abbrev pub batch_of : ReadArgs → SoFar → ℕ → List NewChild → Ending → Batch
batch_of args s through children ending = record { token = args.token; start = args.start; through = through; changes = s.changes; children = children; ending = ending }

-- up to where all is known at the end: to before the children's start, or to the end where there are none
abbrev pub finish : ℕ → List NewChild → ℕ
finish end [] = end
finish end (x ∷ xs) = x.start - 1

-- the batch at the end of a READ
abbrev pub closed_by : ReadArgs → SoFar → Closing → Batch
closed_by args s Closing.Finished = batch_of args s (max s.marks.through (finish (end_of args) s.children)) s.children Ending.Finished
closed_by args s (Closing.CaughtUp at) = batch_of args s (max s.marks.through at) [] (Ending.CaughtUp at)
closed_by args s Closing.Cut = batch_of args s s.marks.through [] Ending.Cut

-- the batch of which no more is taken
abbrev pub filled : ReadArgs → SoFar → Batch
filled args s = batch_of args s s.marks.through [] Ending.Full

-- ---- step by step

pub data Outcome : Type 0 where
  Goes : Outcome
  Gives : Batch → Outcome
  Breaks : Breach → Outcome
  Stalls : Outcome

-- a batch, where one is given, is of this kind
abbrev pub IfGives : (Batch → Type 0) → Outcome → Type 0
IfGives IsOf Goes = ⊤
IfGives IsOf (Gives batch) = IsOf batch
IfGives IsOf (Breaks breach) = ⊤
IfGives IsOf Stalls = ⊤

abbrev pub or_breaks : Option Breach → Outcome → Outcome
or_breaks None outcome = outcome
or_breaks (Some breach) outcome = Breaks breach

-- what becomes of the steps that are left, behind those that were taken
abbrev pub outcome_behind : ReadArgs → Known → Limits → List Step → Tally → List Step → Outcome
outcome_behind args known limits done tally [] = Goes
outcome_behind args known limits done tally (Step.Closing closing ∷ steps) = or_breaks (end_breach args known (so_far known done) closing) (Gives (closed_by args (so_far known done) closing))
outcome_behind args known limits done tally (Step.Record item ∷ steps) =
    or_breaks (record_breach args (so_far known done) item)
    (cond (adds known (so_far known done) item)
    (cond (is_full limits (counted_in tally item) item) (Gives (filled args (so_far known (done ++ Step.Record item ∷ [])))) (outcome_behind args known limits (done ++ Step.Record item ∷ []) (counted_in tally item) steps))
    (cond (nat_le 8192 (one_more tally.idle)) Stalls (outcome_behind args known limits (done ++ Step.Record item ∷ []) (idled tally) steps)))

-- what becomes of the steps of a READ
abbrev pub outcome_of : ReadArgs → Known → Limits → List Step → Outcome
outcome_of args known limits steps = outcome_behind args known limits [] none_counted steps

-- the most steps that are read
abbrev pub most_calls : Limits → ℕ
most_calls limits = 8192 * (limits.records + 8193)
