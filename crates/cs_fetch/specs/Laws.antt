-- Laws of READs: what an honest one gives. This project's own.
use Rattle.std.specs.Prelude.{◌≡◌, ◌≢◌, ◌⊎◌, ◌≤◌, ℕ, suc, false, List, [], Option, Some, None, AllPairs, Contains, length, Ok, Err, Result, ⊤}
use Rattle.cs_types.specs.declared.change.Change.{Change}
use Rattle.cs_link.specs.declared.batch.Batch.{Batch}
use Rattle.cs_link.specs.declared.batch.Ending.{Ending}
use Rattle.cs_link.specs.declared.batch.Known.{Known}
use Rattle.cs_link.specs.declared.batch.Limits.{Limits}
use Rattle.cs_link.specs.declared.batch.NewChild.{NewChild}
use Rattle.cs_fetch.specs.declared.fault.FetchFault.{FetchFault}
use Rattle.cs_link.specs.declared.feed.Feed.{Feed}
use Rattle.cs_link.specs.declared.reading.ReadArgs.{ReadArgs}
use Rattle.cs_link.specs.declared.reading.Step.{Step}
use Rattle.cs_link.specs.Batch.{IsFaithful, is_known}
use Rattle.cs_link.specs.Feed.{IsFeed}
use Rattle.cs_fetch.specs.Fetch.{Outcome, Goes, Gives, Breaks, Stalls, IfGives, outcome_of}
use Rattle.cs_link.specs.Honest.{IsHonest}
use Rattle.cs_link.specs.Pace.{IsPaced, Grows, BringsOn, Reaches, pace}
use Rattle.cs_link.specs.Reading.{end_of, Read}

-- a READ starts at the end of the known part, or one microsecond later
abbrev pub Fits : ReadArgs → Known → Type 0
Fits args known = (args.start ≡ known.through) ⊎ (args.start ≡ suc known.through)

-- a batch is faithful, and nothing is broken nor stalls
abbrev pub IsFaithfulOutcome : Feed → ℕ → Known → Outcome → Type 0
IsFaithfulOutcome f e known Goes = ⊤
IsFaithfulOutcome f e known (Gives b) = IsFaithful f e known b
IsFaithfulOutcome f e known (Breaks breach) = ⊥
IsFaithfulOutcome f e known Stalls = ⊥

-- what becomes of an honest READ that was taken is a faithful batch, if it is done
abbrev pub HonestGivesFaithful : Type 0
HonestGivesFaithful = (f : Feed) (known : Known) (limits : Limits) (read : Read) (u : Unit {0}) → IsFeed f → IsHonest f read → read.opened ≡ Ok u → read.args.start ≤ 253402300799999999 → Fits read.args known
    → IsFaithfulOutcome f (end_of read.args) known (outcome_of read.args known limits read.steps)

-- the same of the answer of `fetch`, which may also be refused, fail or want memory
abbrev pub IsFaithfulResult : Feed → ℕ → Known → Result Batch FetchFault → Type 0
IsFaithfulResult f e known (Ok batch) = IsFaithful f e known batch
IsFaithfulResult f e known (Err FetchFault.LinkFault) = ⊤
IsFaithfulResult f e known (Err (FetchFault.Refused refusal)) = ⊤
IsFaithfulResult f e known (Err (FetchFault.Breach breach)) = ⊥
IsFaithfulResult f e known (Err (FetchFault.Stalled count)) = ⊥
IsFaithfulResult f e known (Err FetchFault.Memory) = ⊤

-- the batch that is made of any steps has something new, or it ended or caught up
abbrev pub AlwaysGrows : Type 0
AlwaysGrows = (args : ReadArgs) (known : Known) (limits : Limits) (steps : List Step) → IfGives (Grows known) (outcome_of args known limits steps)

-- the batch that is made of an honest READ, whose end is not past its moment and whose heartbeats are paced, brings its part on
abbrev pub HonestBringsOn : Type 0
HonestBringsOn = (f : Feed) (known : Known) (limits : Limits) (read : Read) (u : Unit {0}) → IsHonest f read → read.opened ≡ Ok u → IsPaced read → end_of read.args ≤ read.moment → Fits read.args known
    → IfGives (BringsOn (pace read.args) known) (outcome_of read.args known limits read.steps)

-- a batch of a READ without a part: it lists parts without parents that begin with it
pub record ListsFirst (b : Batch) : Type 0 where
  pub changes : b.changes ≡ []
  pub ended : b.ending ≡ Ending.Finished
  pub some : (x : NewChild) × Contains b.children x
  pub each : (x : NewChild) → Contains b.children x → (x.parents ≡ []) × (x.start ≡ b.start)

-- a batch of a part has children only where it finished
abbrev pub HasShape : Batch → Option (List ℕ) → Type 0
HasShape b None = ListsFirst b
HasShape b (Some token) = b.ending ≢ Ending.Finished → b.children ≡ []

-- a batch is well formed by itself, whoever gave the steps
pub record IsWellFormed (args : ReadArgs) (known : Known) (b : Batch) : Type 0 where
  pub token : b.token ≡ args.token
  pub start : b.start ≡ args.start
  -- stamps do not fall, no change is known, and none is past the moment after `through` or past the end
  pub order : AllPairs (λ c d. c.stamp ≤ d.stamp) b.changes
  pub top : (c : Change) → Contains b.changes c → (c.stamp ≤ suc b.through) × (c.stamp ≤ end_of args) × (is_known known c ≡ false)
  -- what is complete does not shrink, and is not past the end
  pub rises : known.through ≤ b.through
  pub within : b.through ≤ end_of args
  -- no child begins past the end, and each stands once
  pub starts : (x : NewChild) → Contains b.children x → x.start ≤ end_of args
  pub once : AllPairs (λ x y. x.token ≢ y.token) b.children
  -- there are at most so many
  pub few : length b.children ≤ 65536
  pub shape : HasShape b args.token

-- what a lease keeps: the known part is not past the end, nor is the start of a READ without a part
pub record IsWithin (args : ReadArgs) (known : Known) : Type 0 where
  pub low : known.through ≤ end_of args
  pub first : args.token ≡ None → args.start ≤ end_of args

-- the batch that is made of any steps is well formed
abbrev pub AlwaysWellFormed : Type 0
AlwaysWellFormed = (args : ReadArgs) (known : Known) (limits : Limits) (steps : List Step) → IsWithin args known → IfGives (IsWellFormed args known) (outcome_of args known limits steps)

-- the batch that is made of an honest READ and caught up is complete up to the moment at which the READ was opened
abbrev pub HonestReaches : Type 0
HonestReaches = (f : Feed) (known : Known) (limits : Limits) (read : Read) (u : Unit {0}) → IsHonest f read → read.opened ≡ Ok u → IfGives (Reaches read.moment) (outcome_of read.args known limits read.steps)
