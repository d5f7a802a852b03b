-- What the parts of a run answer, this project's own.
use Rattle.std.specs.Prelude.{◌≡◌, ◌≢◌, ◌⊎◌, ◌<◌, ℕ, List, length, Option, Some, None, IfSome, ⊤}
use Rattle.cs_types.specs.declared.names.Window.{Window}
use Rattle.cs_schema.specs.declared.types.Stream.{Stream}
use Rattle.cs_device.specs.Causes.{Rose}
use Rattle.cs_output.specs.Output.{IsGood, IsComplete}
use Rattle.cs_output.specs.Reading.{AreLinesOf, IsTextFault}
use Rattle.cs_output.specs.declared.reading.Line.{Line}
use Rattle.cs_output.specs.declared.reading.TextFault.TheVariants.{BadLine, NoEnd}
use Rattle.cs_audit.specs.Audit.{IsVerdict}
use Rattle.cs_audit.specs.declared.verdict.Verdict.{Verdict as Judged}
use Rattle.cs_audit.specs.declared.verdict.Verdict.TheVariants.{Complete}
use Rattle.cs_link.specs.declared.refusal.ReadRefusal.{ReadRefusal}
use Rattle.cs_script.specs.Database.{Database}
use Rattle.cs_tool.specs.Database.{IsStreamIn, HasNoStream, wanted_in, IsBadScript}
use Rattle.cs_tool.specs.declared.status.Status.{Status}
use Rattle.cs_tool.specs.declared.status.Status.TheVariants.{Ended, Paused, Verdict, RetentionPassed, Refused, Breach, JournalFault, OutputFault, SourceFault, ConsoleFault, BadWords, BadScript, OtherJournal, BadJournal, Full, OutputNotEmpty, BadOutput, Memory}

-- an object that told its bytes tells them still, and they are so
abbrev pub OnTold : Option (List ℕ) → Option (List ℕ) → (List ℕ → Type 0) → Type 0
OnTold None new P = ⊤
OnTold (Some old) None P = ⊥
OnTold (Some old) (Some new) P = P new

-- the text is complete for what the window wants of the database
pub record IsCompleteIn (db : Database) (w : Window) (text : List ℕ) : Type 0 where
  pub stream : Stream
  pub there : IsStreamIn db w.stream stream
  pub complete : IsComplete text (wanted_in db stream w.start w.end) w.end

-- the text is right as far as it goes for what the window wants of the database
pub record IsGoodIn (db : Database) (w : Window) (text : List ℕ) : Type 0 where
  pub stream : Stream
  pub there : IsStreamIn db w.stream stream
  pub good : IsGood text (wanted_in db stream w.start w.end) w.end

-- the text has this verdict, which is not that it is complete, against what the window wants of the database
pub record IsJudgedIn (db : Database) (w : Window) (verdict : Judged) (text : List ℕ) : Type 0 where
  pub stream : Stream
  pub there : IsStreamIn db w.stream stream
  pub lines : List Line
  pub read : AreLinesOf text lines
  pub judged : IsVerdict verdict lines (wanted_in db stream w.start w.end) w.end
  pub not_complete : verdict ≢ Complete

-- this line of the text is none, or the last one, which has no end
abbrev pub IsBadText : ℕ → List ℕ → Type 0
IsBadText line text = IsTextFault (BadLine line) text ⊎ IsTextFault (NoEnd line) text

-- the script was not loaded
abbrev pub IsLoadStatus : Option (List ℕ) → ℕ → ℕ → Status → Type 0
IsLoadStatus source before now SourceFault = Rose before now
IsLoadStatus source before now (BadScript line cause) = IfSome source (IsBadScript line cause)
IsLoadStatus source before now Memory = ⊤
IsLoadStatus source before now _ = ⊥

-- what the text was found to be against what the window wants of the database
abbrev pub IsAuditStatus : Database → Window → Stream → List ℕ → Status → Type 0
IsAuditStatus db w s text Ended = IsComplete text (wanted_in db s w.start w.end) w.end
IsAuditStatus db w s text (Verdict v) = (lines : List Line) × AreLinesOf text lines × IsVerdict v lines (wanted_in db s w.start w.end) w.end × (v ≢ Complete) × (IsComplete text (wanted_in db s w.start w.end) w.end → ⊥)
IsAuditStatus db w s text (BadOutput line) = IsBadText line text
IsAuditStatus db w s text Memory = ⊤
IsAuditStatus db w s text _ = ⊥

-- an answer of a replay
abbrev pub IsReplayStatus : Status → Type 0
IsReplayStatus Ended = ⊤
IsReplayStatus Paused = ⊤
IsReplayStatus (RetentionPassed earliest) = ⊤
IsReplayStatus (Refused refusal) = ⊤
IsReplayStatus (Breach breach) = ⊤
IsReplayStatus JournalFault = ⊤
IsReplayStatus OutputFault = ⊤
IsReplayStatus SourceFault = ⊤
IsReplayStatus (BadScript line cause) = ⊤
IsReplayStatus (OtherJournal other) = ⊤
IsReplayStatus (BadJournal place) = ⊤
IsReplayStatus (Full length) = ⊤
IsReplayStatus (OutputNotEmpty n) = ⊤
IsReplayStatus Memory = ⊤
IsReplayStatus _ = ⊥

-- an answer of a check
abbrev pub IsCheckStatus : Status → Type 0
IsCheckStatus Ended = ⊤
IsCheckStatus (Verdict v) = ⊤
IsCheckStatus (Refused refusal) = ⊤
IsCheckStatus OutputFault = ⊤
IsCheckStatus SourceFault = ⊤
IsCheckStatus (BadScript line cause) = ⊤
IsCheckStatus (BadOutput line) = ⊤
IsCheckStatus Memory = ⊤
IsCheckStatus _ = ⊥

-- an answer of a show
abbrev pub IsShowStatus : Status → Type 0
IsShowStatus Ended = ⊤
IsShowStatus (RetentionPassed earliest) = ⊤
IsShowStatus (Refused refusal) = ⊤
IsShowStatus SourceFault = ⊤
IsShowStatus (BadScript line cause) = ⊤
IsShowStatus Memory = ⊤
IsShowStatus _ = ⊥

-- an answer that comes only after the script was loaded
abbrev pub IsPastScript : Status → Type 0
IsPastScript SourceFault = ⊥
IsPastScript (BadScript line cause) = ⊥
IsPastScript ConsoleFault = ⊥
IsPastScript (BadWords place) = ⊥
IsPastScript Memory = ⊥
IsPastScript _ = ⊤

-- the output was not read
abbrev pub IsReadStatus : ℕ → ℕ → Status → Type 0
IsReadStatus before now OutputFault = Rose before now
IsReadStatus before now Memory = ⊤
IsReadStatus before now _ = ⊥

-- the database has no such stream
abbrev pub IsRefusedHere : Database → Window → ReadRefusal → Type 0
IsRefusedHere db w ReadRefusal.UnknownFunction = HasNoStream db w.stream
IsRefusedHere db w _ = ⊥

-- the database has the stream, and this line of the text is none, or is the last one and has no end
pub record IsBadTextIn (db : Database) (w : Window) (line : ℕ) (text : List ℕ) : Type 0 where
  pub stream : Stream
  pub there : IsStreamIn db w.stream stream
  pub bad : IsBadText line text
