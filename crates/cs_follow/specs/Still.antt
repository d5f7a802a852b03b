-- What a turn, and a follower, keep unless a disk fails. This project's own.
use Rattle.std.specs.Prelude.{⊤}
use Rattle.cs_follow.specs.declared.outcome.Outcome.{Outcome}
use Rattle.cs_follow.specs.declared.turn.Turn.{Turn}
use Rattle.cs_follow.specs.declared.turn.Turn.TheVariants as turns

-- what holds unless the outcome is a fault of a disk
abbrev pub UnlessFailed : Outcome → Type 0 → Type 0
UnlessFailed Outcome.Ended holds = holds
UnlessFailed Outcome.Paused holds = holds
UnlessFailed (Outcome.RetentionPassed earliest) holds = holds
UnlessFailed (Outcome.Refused refusal) holds = holds
UnlessFailed Outcome.LinkFault holds = holds
UnlessFailed (Outcome.Breach breach) holds = holds
UnlessFailed (Outcome.Stalled token count) holds = holds
UnlessFailed Outcome.JournalFault holds = ⊤
UnlessFailed Outcome.OutputFault holds = ⊤
UnlessFailed (Outcome.Full length) holds = holds
UnlessFailed Outcome.Memory holds = holds

-- what holds behind a turn, unless a disk failed in it
abbrev pub BehindTurn : Turn → Type 0 → Type 0
BehindTurn (turns.Stops outcome) holds = UnlessFailed outcome holds
BehindTurn turns.CaughtUp holds = holds
BehindTurn turns.On holds = holds

-- what holds behind a turn with which nothing stops
abbrev pub WhereOn : Turn → Type 0 → Type 0
WhereOn (turns.Stops outcome) holds = ⊤
WhereOn turns.CaughtUp holds = holds
WhereOn turns.On holds = holds

-- what holds where the follower ended or paused
abbrev pub WhereDone : Outcome → Type 0 → Type 0
WhereDone Outcome.Ended holds = holds
WhereDone Outcome.Paused holds = holds
WhereDone (Outcome.RetentionPassed earliest) holds = ⊤
WhereDone (Outcome.Refused refusal) holds = ⊤
WhereDone Outcome.LinkFault holds = ⊤
WhereDone (Outcome.Breach breach) holds = ⊤
WhereDone (Outcome.Stalled token count) holds = ⊤
WhereDone Outcome.JournalFault holds = ⊤
WhereDone Outcome.OutputFault holds = ⊤
WhereDone (Outcome.Full length) holds = ⊤
WhereDone Outcome.Memory holds = ⊤
