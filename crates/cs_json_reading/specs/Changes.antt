-- What a data change record stands for (Spanner's page 'Change streams partitions, records, and queries').
use Rattle.std.specs.Prelude.{ℕ, List, [], Bool, false, codes, is_some, if◌then◌else◌, Ok, Err}
use Rattle.serde_json.specs.Data.{Data}
use Rattle.serde_json.specs.Find.{as_bool, as_str, as_object}
use Rattle.cs_types.specs.declared.change.Kind.{Kind}
use Rattle.cs_types.specs.declared.names.CaptureType.{CaptureType}
use Rattle.cs_records.specs.declared.captured.ColumnInfo.{ColumnInfo}
use Rattle.cs_records.specs.declared.faults.LineFault.TheVariants.{BadValue}
use Rattle.cs_records.specs.declared.records.Mod.{Mod}
use Rattle.cs_records.specs.declared.records.Record.{Record}
use Rattle.cs_records.specs.declared.records.Record.TheVariants.{Change}
use Rattle.cs_json_reading.specs.declared.change.Place.{Place}
use Rattle.cs_json_reading.specs.declared.change.Rows.{Rows}
use Rattle.cs_json_reading.specs.declared.change.Facts.{Facts}
use Rattle.cs_json_reading.specs.Reading.{Reading, required, optional}
use Rattle.cs_json_reading.specs.Members.{stamp_value, sequence_value, transaction_value, name_value, kind_value, capture_value, whole_value}
use Rattle.cs_json_reading.specs.Columns.{columns_reading}
use Rattle.cs_json_reading.specs.Cells.{mods_reading}

-- the place of its parts, or the first fault in their order
abbrev pub place_from : Reading ℕ → Reading ℕ → Reading (List ℕ) → Reading Bool → Reading (List ℕ) → Reading Place
place_from (Err e) sequence tx last table = Err e
place_from (Ok stamp) (Err e) tx last table = Err e
place_from (Ok stamp) (Ok sequence) (Err e) last table = Err e
place_from (Ok stamp) (Ok sequence) (Ok tx) (Err e) table = Err e
place_from (Ok stamp) (Ok sequence) (Ok tx) (Ok last) (Err e) = Err e
place_from (Ok stamp) (Ok sequence) (Ok tx) (Ok last) (Ok table) =
    Ok (record { stamp = stamp; sequence = sequence; tx = tx; is_last = last; table = table })

-- where the changes stand in the stream: transaction and table
unfoldable pub place_reading : Data → Reading Place
place_reading d = place_from (required stamp_value (codes "commit_timestamp") d)
    (required sequence_value (codes "record_sequence") d)
    (required transaction_value (codes "server_transaction_id") d)
    (required as_bool (codes "is_last_record_in_transaction_in_partition") d)
    (required name_value (codes "table_name") d)

-- columns, and mods where they were read
abbrev pub rows_with : List ColumnInfo → Reading (List Mod) → Reading Rows
rows_with columns (Err e) = Err e
rows_with columns (Ok mods) = Ok (record { columns = columns; mods = mods })

-- columns where they were read, and the mods with them
abbrev pub rows_from : Data → Reading (List ColumnInfo) → Reading Rows
rows_from d (Err e) = Err e
rows_from d (Ok columns) = rows_with columns (mods_reading columns d)

-- what was written: columns, and mods with cells of these columns
unfoldable pub rows_reading : Data → Reading Rows
rows_reading d = rows_from d (columns_reading d)

-- the facts of their parts, or the first fault in their order
abbrev pub facts_from : Reading Kind → Reading CaptureType → Reading ℕ → Reading ℕ → Reading (List ℕ) → Reading Bool → Reading Facts
facts_from (Err e) capture records parts tag system = Err e
facts_from (Ok kind) (Err e) records parts tag system = Err e
facts_from (Ok kind) (Ok capture) (Err e) parts tag system = Err e
facts_from (Ok kind) (Ok capture) (Ok records) (Err e) tag system = Err e
facts_from (Ok kind) (Ok capture) (Ok records) (Ok parts) (Err e) system = Err e
facts_from (Ok kind) (Ok capture) (Ok records) (Ok parts) (Ok tag) (Err e) = Err e
facts_from (Ok kind) (Ok capture) (Ok records) (Ok parts) (Ok tag) (Ok system) =
    Ok (record { kind = kind; capture = capture; records_in_tx = records; parts_in_tx = parts; tag = tag; system = system })

-- what is told of the changes and of their transaction
unfoldable pub facts_reading : Data → Reading Facts
facts_reading d = facts_from (required kind_value (codes "mod_type") d)
    (required capture_value (codes "value_capture_type") d)
    (required whole_value (codes "number_of_records_in_transaction") d)
    (required whole_value (codes "number_of_partitions_in_transaction") d)
    (optional [] as_str (codes "transaction_tag") d)
    (optional false as_bool (codes "is_system_transaction") d)

-- the record of its three parts, or the first fault in their order
abbrev pub change_from : Reading Place → Reading Rows → Reading Facts → Reading Record
change_from (Err e) rows facts = Err e
change_from (Ok place) (Err e) facts = Err e
change_from (Ok place) (Ok rows) (Err e) = Err e
change_from (Ok place) (Ok rows) (Ok facts) = Ok (Change (record {
  stamp = place.stamp;
  sequence = place.sequence;
  tx = place.tx;
  is_last = place.is_last;
  table = place.table;
  columns = rows.columns;
  mods = rows.mods;
  kind = facts.kind;
  capture = facts.capture;
  records_in_tx = facts.records_in_tx;
  parts_in_tx = facts.parts_in_tx;
  tag = facts.tag;
  system = facts.system;
}))

-- a data change record
unfoldable pub change_reading : Data → Reading Record
change_reading d = if is_some (as_object d)
    then change_from (place_reading d) (rows_reading d) (facts_reading d)
    else Err (BadValue (codes "data_change_record"))
