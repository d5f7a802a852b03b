-- What is made of a READ over an honest link. This project's own.
use Rattle.std.specs.Prelude.{◌≤◌, ℕ, Option}
use Rattle.cs_link.specs.declared.batch.Known.{Known}
use Rattle.cs_link.specs.declared.batch.Limits.{Limits}
use Rattle.cs_link.specs.declared.feed.Feed.{Feed}
use Rattle.cs_link.specs.declared.reading.ReadArgs.{ReadArgs}
use Rattle.cs_fetch.specs.Fetch.{Outcome}
use Rattle.cs_link.specs.Honest.{IsHonestFor}
use Rattle.cs_fetch.specs.Laws.{Fits, IsFaithfulOutcome}
use Rattle.cs_fetch.specs.Made.{IsMade}
use Rattle.cs_link.specs.Reading.{end_of, Read}

-- where the link was honest for the stream before the READ and is so behind it, what is made of the READ is faithful to its feed
abbrev pub MadeIsFaithful : Type 0
MadeIsFaithful = (args : ReadArgs) (before now : Option (Option Read)) (told told_now : Option Feed) (was : IsHonestFor args.stream told before) (is : IsHonestFor args.stream told_now now) (known : Known) (limits : Limits) (since : ℕ) (outcome : Outcome)
    → IsMade args known limits since before now outcome → args.start ≤ 253402300799999999 → Fits args known → IsFaithfulOutcome is.feed (end_of args) known outcome
