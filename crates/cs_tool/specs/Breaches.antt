-- What no server may answer, as the console has it: the name of the breach, and behind it its two values.
use Rattle.std.specs.Prelude.{ℕ, List, ◌++◌, codes, decimal, if◌then◌else◌, Option, Some, None}
use Rattle.cs_types.specs.Stamp.{stamp_text}
use Rattle.cs_records.specs.declared.faults.LineFault.{LineFault}
use Rattle.cs_records.specs.declared.faults.LineFault.TheVariants as line_fault
use Rattle.cs_records.specs.declared.faults.RecordFault.{RecordFault}
use Rattle.cs_records.specs.declared.faults.RecordFault.TheVariants as record_fault
use Rattle.cs_schedule.specs.Ranges.{is_stamp}
use Rattle.cs_link.specs.declared.breach.Breach.{Breach}
use Rattle.cs_link.specs.declared.breach.Breach.TheVariants.{StampFell, OutOfWindow, HeartbeatWrong, BelowHeartbeat, AfterChildren, ChildStart, ChildDiffers, ParentMissing, InitialWrong, CaughtUpWrong, CutEarly, BadLine, TooManyAtStamp, Orphan, BadRecord, TooManyRows, TooManyChildren}

abbrev pub line_fault_name : LineFault → List ℕ
line_fault_name line_fault.NotJson = codes "NotJson"
line_fault_name (line_fault.Member name) = codes "Member"
line_fault_name line_fault.ArrayCount = codes "ArrayCount"
line_fault_name (line_fault.BadValue name) = codes "BadValue"
line_fault_name line_fault.TooLong = codes "TooLong"
line_fault_name line_fault.Memory = codes "Memory"

abbrev pub record_fault_name : RecordFault → List ℕ
record_fault_name (record_fault.KeyMissing column) = codes "KeyMissing"
record_fault_name (record_fault.KeyTwice row) = codes "KeyTwice"
record_fault_name record_fault.Memory = codes "Memory"

-- a token that may be there
abbrev pub token_words : Option (List ℕ) → List ℕ
token_words None = codes "-"
token_words (Some token) = token

-- a moment by its stamp, or by its microseconds where no stamp has them
abbrev pub moment_words : ℕ → List ℕ
moment_words us = if is_stamp us then stamp_text us else decimal us

-- a name, and two values behind it
abbrev pub with_values : List ℕ → List ℕ → List ℕ → List ℕ
with_values name one other = name ++ (codes " " ++ (one ++ (codes " " ++ other)))

abbrev pub breach_text : Breach → List ℕ
breach_text (StampFell earlier later) = with_values (codes "StampFell") (stamp_text earlier) (stamp_text later)
breach_text (OutOfWindow at bound) = with_values (codes "OutOfWindow") (stamp_text at) (stamp_text bound)
breach_text (HeartbeatWrong at bound) = with_values (codes "HeartbeatWrong") (stamp_text at) (stamp_text bound)
breach_text (BelowHeartbeat at heartbeat) = with_values (codes "BelowHeartbeat") (stamp_text at) (stamp_text heartbeat)
breach_text (AfterChildren at start) = with_values (codes "AfterChildren") (stamp_text at) (stamp_text start)
breach_text (ChildStart at bound) = with_values (codes "ChildStart") (stamp_text at) (stamp_text bound)
breach_text (ChildDiffers child same) = with_values (codes "ChildDiffers") child same
breach_text (ParentMissing child read) = with_values (codes "ParentMissing") child read
breach_text (InitialWrong count same) = with_values (codes "InitialWrong") (decimal count) (decimal same)
breach_text (CaughtUpWrong moment bound) = with_values (codes "CaughtUpWrong") (stamp_text moment) (moment_words bound)
breach_text (CutEarly count least) = with_values (codes "CutEarly") (decimal count) (decimal least)
breach_text (BadLine line fault) = with_values (codes "BadLine") (decimal line) (line_fault_name fault)
breach_text (TooManyAtStamp at most) = with_values (codes "TooManyAtStamp") (stamp_text at) (decimal most)
breach_text (Orphan row parent) = with_values (codes "Orphan") row parent
breach_text (BadRecord record_number fault) = with_values (codes "BadRecord") (decimal record_number) (record_fault_name fault)
breach_text (TooManyRows count most) = with_values (codes "TooManyRows") (decimal count) (decimal most)
breach_text (TooManyChildren count most) = with_values (codes "TooManyChildren") (decimal count) (decimal most)
