-- The answers to READs of a scripted database of which each step can be written as a line.
use Rattle.std.specs.Prelude.{◌≡◌, ◌≤◌, ℕ, List, length, true, All}
use Rattle.cs_place.specs.declared.part.Part.{Part}
use Rattle.cs_schema.specs.declared.types.Table.{Table}
use Rattle.cs_schema.specs.declared.types.Stream.{Stream}
use Rattle.cs_schema.specs.Sound.{IsSoundCatalog}
use Rattle.cs_txn.specs.declared.txn.Modification.{Modification}
use Rattle.cs_txn.specs.History.{IsHistory}
use Rattle.cs_link.specs.declared.reading.Step.{Step}
use Rattle.cs_json_reading.specs.Texts.{is_transaction, is_name}
use Rattle.cs_steps.specs.Captures.{IsKept, captured_items}
use Rattle.cs_steps.specs.Cursor.{IsAt}
use Rattle.cs_steps.specs.Steps.{Asked, steps_of_part, steps_of_start}
use Rattle.cs_script.specs.Database.{Database}
use Rattle.cs_script.specs.Kept.{IsKept as IsKeptDatabase}
use Rattle.cs_answer_lines.specs.StepLine.{CanStandAs}

-- a record can name each of the tables, and each transaction of the modifications
pub record AreWritable (tables : List Table) (ms : List Modification) : Type 0 where
  pub names : All (λ (t : Table). is_name t.name ≡ true) tables
  pub ids : All (λ (m : Modification). is_transaction m.tx ≡ true) ms

-- a line can stand for each step that answers a READ of a part
abbrev pub PartCanStand : Type 0
PartCanStand = (tables : List Table) (streams : List Stream) (stream : Stream) (ms : List Modification) (parts : List Part) (a : Asked) → IsKept tables streams ms → AreWritable tables ms → length parts ≤ 65536
    → All CanStandAs (steps_of_part parts (captured_items tables stream ms) a)

-- and for each that answers a READ without a part
abbrev pub StartCanStand : Type 0
StartCanStand = (parts : List Part) (start : ℕ) → length parts ≤ 65536 → All CanStandAs (steps_of_start parts start)

-- and so for the step at a place
abbrev pub EachCanStand : Type 0
EachCanStand = (steps : List Step) (k : ℕ) (step : Step) → All CanStandAs steps → IsAt steps k step → CanStandAs step

-- what a script has made is kept so
abbrev pub ScriptsAreKept : Type 0
ScriptsAreKept = (db : Database) → IsKeptDatabase db → IsSoundCatalog db.tables db.streams → IsHistory db.modifications → IsKept db.tables db.streams db.modifications

-- and a record can name its tables and its transactions
abbrev pub ScriptsAreWritable : Type 0
ScriptsAreWritable = (db : Database) → IsKeptDatabase db → AreWritable db.tables db.modifications
