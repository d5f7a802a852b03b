-- What a stream captures of a history from its creation on, and what a database keeps so that this is as its feed needs it.
use Rattle.std.specs.Prelude.{ℕ, ◌≤◌, ◌==◌, nat_le, cond, List, filter, filter_map, length, Option, None}
use Rattle.cs_records.specs.declared.captured.Captured.{Captured}
use Rattle.cs_schema.specs.declared.types.Table.{Table}
use Rattle.cs_schema.specs.declared.types.Stream.{Stream}
use Rattle.cs_schema.specs.Sound.{IsSoundCatalog}
use Rattle.cs_txn.specs.declared.txn.Modification.{Modification}
use Rattle.cs_txn.specs.Fits.{IsHistoryOf}
use Rattle.cs_txn.specs.History.{IsHistory}
use Rattle.cs_capture.specs.Captured.{captured}
use Rattle.cs_steps.specs.Feed.{AreCommitted}

-- what a stream captures of a modification, nothing before its creation
abbrev pub captured_since : List Table → Stream → Modification → Option Captured
captured_since tables stream m = cond (nat_le stream.created m.stamp) (captured tables stream m) None

-- what it captures of modifications, in their order
abbrev pub captured_items : List Table → Stream → List Modification → List Captured
captured_items tables stream ms = filter_map (captured_since tables stream) ms

-- what a database keeps of its tables, its streams and its history
pub record IsKept (tables : List Table) (streams : List Stream) (ms : List Modification) : Type 0 where
  pub catalog : IsSoundCatalog tables streams
  pub history : IsHistory ms
  pub fits : IsHistoryOf tables ms
  -- a stamp has at most 1,024 writes
  pub few : (stamp : ℕ) → length (filter (λ m. m.stamp == stamp) ms) ≤ 1024

-- what a stream captures of it is as its feed needs it
abbrev pub CapturedIsCommitted : Type 0
CapturedIsCommitted = (tables : List Table) (streams : List Stream) (stream : Stream) (ms : List Modification) → IsKept tables streams ms → AreCommitted stream.created (captured_items tables stream ms)
