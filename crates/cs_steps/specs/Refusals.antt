-- Why a READ with typed arguments is refused: the first condition that holds, in the order in which a server tries them.
use Rattle.std.specs.Prelude.{◌≡◌, ℕ, ◌-◌, Bool, false, ◌||◌, cond, nat_le, nat_lt, List, Option, None, Some}
use Rattle.std.specs.Option.{option_or}
use Rattle.cs_place.specs.declared.part.Part.{Part}
use Rattle.cs_place.specs.Layout.{IsSoundLayout}
use Rattle.cs_partitions.specs.Reshape.{part_named}
use Rattle.cs_link.specs.declared.feed.Feed.{Feed}
use Rattle.cs_link.specs.declared.reading.ReadArgs.{ReadArgs}
use Rattle.cs_link.specs.declared.refusal.ReadRefusal.{ReadRefusal}
use Rattle.cs_link.specs.Refusal.{IsRefusedBy}

-- whether an end is below a start
abbrev pub ends_before : Option ℕ → ℕ → Bool
ends_before None start = false
ends_before (Some end) start = nat_lt end start

-- what the arguments and the stream's times alone refuse
abbrev pub time_refusal : ReadArgs → ℕ → ℕ → ℕ → Option ReadRefusal
time_refusal args created retention moment =
    cond (nat_lt args.heartbeat_ms 1000 || nat_lt 300000 args.heartbeat_ms) (Some ReadRefusal.Heartbeat)
    (cond (ends_before args.end args.start) (Some ReadRefusal.EndBeforeStart)
    (cond (nat_lt args.start created) (Some ReadRefusal.StartBeforeCreation)
    (cond (nat_lt args.start (moment - retention)) (Some (ReadRefusal.StartTooOld (moment - retention)))
    (cond (nat_lt moment args.start) (Some (ReadRefusal.StartInFuture moment)) None))))

-- what the end of a part refuses
abbrev pub past_refusal : Option ℕ → ℕ → Option ReadRefusal
past_refusal None start = None
past_refusal (Some until) start = cond (nat_le until start) (Some (ReadRefusal.StartPastPartition until)) None

-- what a part refuses
abbrev pub part_refusal : Part → ℕ → Option ReadRefusal
part_refusal part start = cond (nat_lt start part.from) (Some (ReadRefusal.StartBeforePartition part.from)) (past_refusal part.until start)

abbrev pub found_refusal : Option Part → ℕ → Option ReadRefusal
found_refusal None start = Some ReadRefusal.UnknownToken
found_refusal (Some part) start = part_refusal part start

abbrev pub token_refusal : List Part → Option (List ℕ) → ℕ → Option ReadRefusal
token_refusal parts None start = None
token_refusal parts (Some token) start = found_refusal (part_named token parts) start

-- the first refusal of all, for a stream that has these parts, was created at this moment and keeps its changes for so long
abbrev pub refusal_by : List Part → ℕ → ℕ → ReadArgs → ℕ → Option ReadRefusal
refusal_by parts created retention args moment = option_or (time_refusal args created retention moment) (token_refusal parts args.token args.start)

-- the same for its feed
abbrev pub first_refusal : Feed → ReadArgs → ℕ → Option ReadRefusal
first_refusal f args moment = refusal_by f.parts f.created f.retention_us args moment

-- the first refusal is one whose condition holds
abbrev pub FirstIsRight : Type 0
FirstIsRight = (f : Feed) (args : ReadArgs) (moment : ℕ) (e : ReadRefusal) → first_refusal f args moment ≡ Some e → IsRefusedBy f args moment e

-- where there is none, no condition holds
abbrev pub NoneIsRight : Type 0
NoneIsRight = (f : Feed) (args : ReadArgs) (moment : ℕ) → IsSoundLayout f.created f.parts → first_refusal f args moment ≡ None → (e : ReadRefusal) → IsRefusedBy f args moment e → ⊥
