-- What is answered for one step of a READ. This project's own.
use Rattle.std.specs.Prelude.{◌≡◌, Option, Some, None, Result, Ok, Err, ⊤}
use Rattle.cs_link.specs.declared.batch.Batch.{Batch}
use Rattle.cs_link.specs.declared.batch.Known.{Known}
use Rattle.cs_link.specs.declared.batch.Limits.{Limits}
use Rattle.cs_link.specs.declared.breach.Breach.{Breach}
use Rattle.cs_fetch.specs.declared.fault.FetchFault.{FetchFault}
use Rattle.cs_link.specs.declared.reading.ReadArgs.{ReadArgs}
use Rattle.cs_link.specs.declared.reading.Step.{Step}
use Rattle.cs_fetch.specs.declared.so_far.SoFar.{SoFar}
use Rattle.cs_fetch.specs.declared.so_far.Tally.{Tally}
use Rattle.cs_fetch.specs.declared.taken.Turn.{Turn}
use Rattle.cs_fetch.specs.declared.taken.Went.{Went}
use Rattle.cs_fetch.specs.Breach.{record_breach, end_breach}
use Rattle.cs_fetch.specs.Fetch.{closed_by, filled}
use Rattle.cs_fetch.specs.SoFar.{adds, with_record}
use Rattle.cs_fetch.specs.Went.{went_of}

-- a record that goes so and with which so much was brought: it breaks a rule, fills the batch, stalls the READ, or that goes on and has brought so much
abbrev pub IsRecordTurn : ReadArgs → SoFar → SoFar → Went → Result Turn FetchFault → Type 0
IsRecordTurn args brought now went (Ok (Turn.Gives batch)) = (went ≡ Went.Fills) × (batch ≡ filled args brought)
IsRecordTurn args brought now went (Ok (Turn.On tally)) = (went ≡ Went.On tally) × (now ≡ brought)
IsRecordTurn args brought now went (Err FetchFault.LinkFault) = ⊥
IsRecordTurn args brought now went (Err (FetchFault.Refused refusal)) = ⊥
IsRecordTurn args brought now went (Err (FetchFault.Breach breach)) = went ≡ Went.Breaks breach
IsRecordTurn args brought now went (Err (FetchFault.Stalled count)) = (count ≡ 8192) × (went ≡ Went.Stalls)
IsRecordTurn args brought now went (Err FetchFault.Memory) = ⊤

-- an end breaks a rule, or gives the batch
abbrev pub IsEndTurn : Option Breach → Batch → Result Turn FetchFault → Type 0
IsEndTurn broken closed (Ok (Turn.Gives batch)) = (broken ≡ None) × (batch ≡ closed)
IsEndTurn broken closed (Ok (Turn.On tally)) = ⊥
IsEndTurn broken closed (Err FetchFault.LinkFault) = ⊥
IsEndTurn broken closed (Err (FetchFault.Refused refusal)) = ⊥
IsEndTurn broken closed (Err (FetchFault.Breach breach)) = broken ≡ Some breach
IsEndTurn broken closed (Err (FetchFault.Stalled count)) = ⊥
IsEndTurn broken closed (Err FetchFault.Memory) = ⊤

-- the same of a step, behind what was brought before it
abbrev pub IsTurn : ReadArgs → Known → Limits → SoFar → SoFar → Tally → Step → Result Turn FetchFault → Type 0
IsTurn args known limits before now tally (Step.Record item) result = IsRecordTurn args (with_record known before item) now (went_of limits tally item (record_breach args before item) (adds known before item)) result
IsTurn args known limits before now tally (Step.Closing closing) result = IsEndTurn (end_breach args known before closing) (closed_by args before closing) result
