-- The names of what is wrong with a line of a script, and of a refused READ, as the console has them.
use Rattle.std.specs.Prelude.{ℕ, List, ◌++◌, codes, Option, Some, None}
use Rattle.cs_types.specs.declared.moment.StampFault.{StampFault}
use Rattle.cs_types.specs.declared.moment.StampFault.TheVariants as stamp_fault
use Rattle.cs_ddl.specs.declared.fault.SyntaxFault.{SyntaxFault}
use Rattle.cs_ddl.specs.declared.fault.SyntaxFault.TheVariants as syntax_fault
use Rattle.cs_schema.specs.declared.fault.SchemaFault.{SchemaFault}
use Rattle.cs_schema.specs.declared.fault.SchemaFault.TheVariants as schema_fault
use Rattle.cs_types.specs.declared.value_fault.ValueFault.{ValueFault}
use Rattle.cs_types.specs.declared.value_fault.ValueFault.TheVariants as value_fault
use Rattle.cs_txn.specs.declared.fault.TxnFault.{TxnFault}
use Rattle.cs_txn.specs.declared.fault.TxnFault.TheVariants as txn_fault
use Rattle.cs_partitions.specs.declared.fault.LayoutFault.{LayoutFault}
use Rattle.cs_partitions.specs.declared.fault.LayoutFault.TheVariants as layout_fault
use Rattle.cs_link.specs.declared.refusal.ReadRefusal.{ReadRefusal}
use Rattle.cs_link.specs.declared.refusal.ReadRefusal.TheVariants as refusal
use Rattle.cs_script.specs.declared.fault.LineCause.{LineCause}
use Rattle.cs_script.specs.declared.fault.LineCause.TheVariants as cause

abbrev pub stamp_fault_name : StampFault → List ℕ
stamp_fault_name (stamp_fault.Shape place) = codes "Shape"
stamp_fault_name stamp_fault.Range = codes "Range"
stamp_fault_name stamp_fault.TooFine = codes "TooFine"

abbrev pub syntax_fault_name : SyntaxFault → List ℕ
syntax_fault_name (syntax_fault.At place) = codes "At"
syntax_fault_name syntax_fault.Memory = codes "Memory"

abbrev pub schema_fault_name : SchemaFault → List ℕ
schema_fault_name schema_fault.TableThere = codes "TableThere"
schema_fault_name (schema_fault.NoTable name) = codes "NoTable"
schema_fault_name (schema_fault.NoColumn name) = codes "NoColumn"
schema_fault_name (schema_fault.KeyListed name) = codes "KeyListed"
schema_fault_name (schema_fault.ColumnTwice name) = codes "ColumnTwice"
schema_fault_name schema_fault.StreamThere = codes "StreamThere"
schema_fault_name schema_fault.NoStream = codes "NoStream"
schema_fault_name (schema_fault.TooManyStreams most) = codes "TooManyStreams"
schema_fault_name (schema_fault.ColumnWatched name most) = codes "ColumnWatched"
schema_fault_name (schema_fault.BadOption name) = codes "BadOption"
schema_fault_name schema_fault.BadRetention = codes "BadRetention"
schema_fault_name schema_fault.NotBuilt = codes "NotBuilt"
schema_fault_name (schema_fault.ItemTwice name) = codes "ItemTwice"
schema_fault_name (schema_fault.TooManyColumns most) = codes "TooManyColumns"
schema_fault_name schema_fault.BadLength = codes "BadLength"
schema_fault_name schema_fault.Memory = codes "Memory"

abbrev pub value_fault_name : ValueFault → List ℕ
value_fault_name value_fault.WrongKind = codes "WrongKind"
value_fault_name value_fault.Range = codes "Range"
value_fault_name value_fault.BadText = codes "BadText"
value_fault_name value_fault.Memory = codes "Memory"

abbrev pub txn_fault_name : TxnFault → List ℕ
txn_fault_name txn_fault.IdUsed = codes "IdUsed"
txn_fault_name txn_fault.StampBack = codes "StampBack"
txn_fault_name (txn_fault.RowTwice row) = codes "RowTwice"
txn_fault_name (txn_fault.RowThere row) = codes "RowThere"
txn_fault_name (txn_fault.NoRow row) = codes "NoRow"
txn_fault_name (txn_fault.BadValue name) = codes "BadValue"
txn_fault_name (txn_fault.KeyColumnSet name) = codes "KeyColumnSet"
txn_fault_name (txn_fault.SharedStampRow id) = codes "SharedStampRow"
txn_fault_name (txn_fault.NoTable name) = codes "NoTable"
txn_fault_name (txn_fault.NoColumn name) = codes "NoColumn"
txn_fault_name (txn_fault.RowTooLarge row) = codes "RowTooLarge"
txn_fault_name txn_fault.HistoryFull = codes "HistoryFull"
txn_fault_name txn_fault.Memory = codes "Memory"

abbrev pub layout_fault_name : LayoutFault → List ℕ
layout_fault_name (layout_fault.NoPart token) = codes "NoPart"
layout_fault_name (layout_fault.NotLive token) = codes "NotLive"
layout_fault_name layout_fault.NotNeighbours = codes "NotNeighbours"
layout_fault_name layout_fault.BorderOutside = codes "BorderOutside"
layout_fault_name layout_fault.BordersNotRising = codes "BordersNotRising"
layout_fault_name layout_fault.StampNotAfter = codes "StampNotAfter"
layout_fault_name (layout_fault.TooManyParts most) = codes "TooManyParts"
layout_fault_name (layout_fault.TooWide most) = codes "TooWide"
layout_fault_name layout_fault.Memory = codes "Memory"

abbrev pub refusal_name : ReadRefusal → List ℕ
refusal_name refusal.UnknownFunction = codes "UnknownFunction"
refusal_name (refusal.ArgumentType name) = codes "ArgumentType"
refusal_name (refusal.ArgumentMissing name) = codes "ArgumentMissing"
refusal_name refusal.ReadOptions = codes "ReadOptions"
refusal_name refusal.Heartbeat = codes "Heartbeat"
refusal_name refusal.EndBeforeStart = codes "EndBeforeStart"
refusal_name refusal.StartBeforeCreation = codes "StartBeforeCreation"
refusal_name (refusal.StartTooOld earliest) = codes "StartTooOld"
refusal_name (refusal.StartInFuture moment) = codes "StartInFuture"
refusal_name refusal.UnknownToken = codes "UnknownToken"
refusal_name (refusal.StartBeforePartition from) = codes "StartBeforePartition"
refusal_name (refusal.StartPastPartition until) = codes "StartPastPartition"
refusal_name (refusal.Syntax place) = codes "Syntax"
refusal_name (refusal.Wire status) = codes "Wire"

-- the name of a cause, and behind it that of the fault within, where there is one
abbrev pub cause_name : LineCause → List ℕ
cause_name cause.NotJson = codes "NotJson"
cause_name (cause.Member name) = codes "Member"
cause_name (cause.Stamp fault) = codes "Stamp " ++ stamp_fault_name fault
cause_name cause.Order = codes "Order"
cause_name (cause.Syntax fault) = codes "Syntax " ++ syntax_fault_name fault
cause_name (cause.Schema fault) = codes "Schema " ++ schema_fault_name fault
cause_name (cause.NoTable name) = codes "NoTable"
cause_name (cause.NoColumn name) = codes "NoColumn"
cause_name (cause.Value fault) = codes "Value " ++ value_fault_name fault
cause_name cause.TooManyAtStamp = codes "TooManyAtStamp"
cause_name (cause.Txn fault) = codes "Txn " ++ txn_fault_name fault
cause_name (cause.Layout fault) = codes "Layout " ++ layout_fault_name fault
cause_name cause.NotBuilt = codes "NotBuilt"
cause_name cause.Memory = codes "Memory"

-- without a cause the script is too long
abbrev pub cause_text : Option LineCause → List ℕ
cause_text None = codes "TooLong"
cause_text (Some c) = cause_name c
