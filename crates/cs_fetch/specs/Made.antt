-- What `fetch` says of the READ that it made. This project's own.
use Rattle.std.specs.Prelude.{◌≡◌, ◌⊎◌, ◌≤◌, ℕ, List, [], ◌∷◌, ◌++◌, length, Option, Some, None, Result, Ok, Err, ⊤}
use Rattle.cs_records.specs.declared.faults.LineFault.{LineFault}
use Rattle.cs_link.specs.declared.batch.Batch.{Batch}
use Rattle.cs_link.specs.declared.batch.Ending.{Ending}
use Rattle.cs_link.specs.declared.batch.Known.{Known}
use Rattle.cs_link.specs.declared.batch.Limits.{Limits}
use Rattle.cs_link.specs.declared.breach.Breach.{Breach}
use Rattle.cs_fetch.specs.declared.fault.FetchFault.{FetchFault}
use Rattle.cs_link.specs.declared.reading.ReadArgs.{ReadArgs}
use Rattle.cs_link.specs.declared.reading.Step.{Step}
use Rattle.cs_link.specs.declared.refusal.LinkAnswer.{LinkAnswer}
use Rattle.cs_link.specs.declared.refusal.ReadRefusal.{ReadRefusal}
use Rattle.cs_link.specs.Causes.{one_more}
use Rattle.cs_fetch.specs.Fetch.{Outcome, Goes, Gives, Breaks, Stalls, outcome_of}
use Rattle.cs_link.specs.Reading.{Read}
use Rattle.cs_fetch.specs.Weight.{bearers, weight_before_last}

-- where the present READ was told before, it is told now, and is of this kind
abbrev pub Presents : Option (Option Read) → Option (Option Read) → (Read → Type 0) → Type 0
Presents None now IsOf = ⊤
Presents (Some before) now IsOf = (read : Read) × (now ≡ Some (Some read)) × IsOf read

-- a READ of exactly these arguments, opened at this moment or later, that was taken and gave exactly these steps
pub record HasGiven (args : ReadArgs) (since : ℕ) (steps : List Step) (read : Read) : Type 0 where
  pub asked : read.args ≡ args
  pub timely : since ≤ read.moment
  pub taken : (u : Unit {0}) × (read.opened ≡ Ok u)
  pub gave : read.steps ≡ steps
  pub lines : read.bad_line ≡ None

-- a READ of exactly these arguments, opened at this moment or later, made this outcome: of its steps, which are those of the link's present READ
pub record IsMade (args : ReadArgs) (known : Known) (limits : Limits) (since : ℕ) (before now : Option (Option Read)) (outcome : Outcome) : Type 0 where
  pub steps : List Step
  pub comes : outcome_of args known limits steps ≡ outcome
  -- of the data records of these steps that brought a new change, all but the last weigh no more than the limit
  pub light : weight_before_last (bearers known steps) ≤ limits.bytes
  pub told : Presents before now (HasGiven args since steps)

-- a READ of exactly these arguments was refused so
pub record WasRefused (args : ReadArgs) (refusal : ReadRefusal) (read : Read) : Type 0 where
  pub asked : read.args ≡ args
  pub refused : read.opened ≡ Err (LinkAnswer.Refused refusal)

-- a READ of exactly these arguments, opened at this moment or later, went on with each of its steps, and then had this bad line
pub record HadBadLine (args : ReadArgs) (known : Known) (limits : Limits) (since : ℕ) (number : ℕ) (fault : LineFault) (read : Read) : Type 0 where
  pub asked : read.args ≡ args
  pub timely : since ≤ read.moment
  pub goes : outcome_of args known limits read.steps ≡ Goes
  pub line : read.bad_line ≡ Some (number, fault)

-- the count of ends that caught up rose where the batch ended so
abbrev pub counted_end : ℕ → Ending → ℕ
counted_end count Ending.Finished = count
counted_end count (Ending.CaughtUp at) = one_more count
counted_end count Ending.Cut = count
counted_end count Ending.Full = count

-- a breach of the line that the link refused
abbrev pub IsBadLine : ReadArgs → Known → Limits → ℕ → Option (Option Read) → Option (Option Read) → Breach → Type 0
IsBadLine args known limits since before now (Breach.BadLine number fault) = Presents before now (HadBadLine args known limits since number fault)
IsBadLine args known limits since before now _ = ⊥

-- each answer comes only where its cause is there
abbrev pub IsFetched : ReadArgs → Known → Limits → ℕ → Option (Option Read) → Option (Option Read) → Type 0 → Result Batch FetchFault → Type 0
IsFetched args known limits since before now rose (Ok batch) = IsMade args known limits since before now (Gives batch)
IsFetched args known limits since before now rose (Err FetchFault.LinkFault) = rose
IsFetched args known limits since before now rose (Err (FetchFault.Refused refusal)) = Presents before now (WasRefused args refusal)
IsFetched args known limits since before now rose (Err (FetchFault.Breach breach)) = IsMade args known limits since before now (Breaks breach) ⊎ IsBadLine args known limits since before now breach
IsFetched args known limits since before now rose (Err (FetchFault.Stalled count)) = (count ≡ 8192) × IsMade args known limits since before now Stalls
IsFetched args known limits since before now rose (Err FetchFault.Memory) = ⊤

-- this READ stands behind the others in the list of all, where it is told
abbrev pub HasAsked : Option (List ReadArgs) → Option (List ReadArgs) → ReadArgs → Type 0
HasAsked None now args = ⊤
HasAsked (Some before) now args = now ≡ Some (before ++ args ∷ [])

-- one READ was made, with exactly these arguments; after want of memory it may not have been made
abbrev pub AsksOnce : Option (List ReadArgs) → Option (List ReadArgs) → ReadArgs → Result Batch FetchFault → Type 0
AsksOnce before now args (Ok batch) = HasAsked before now args
AsksOnce before now args (Err FetchFault.LinkFault) = HasAsked before now args
AsksOnce before now args (Err (FetchFault.Refused refusal)) = HasAsked before now args
AsksOnce before now args (Err (FetchFault.Breach breach)) = HasAsked before now args
AsksOnce before now args (Err (FetchFault.Stalled count)) = HasAsked before now args
AsksOnce before now args (Err FetchFault.Memory) = (now ≡ before) ⊎ HasAsked before now args

-- the present READ, where it was told before, is the one before, or one of so many steps at most
abbrev pub HasFewSteps : ℕ → Option (Option Read) → Option (Option Read) → Type 0
HasFewSteps most None now = ⊤
HasFewSteps most (Some before) now = (now ≡ Some before) ⊎ ((read : Read) × (now ≡ Some (Some read)) × (length read.steps ≤ most))
