-- A data change record is read as what its tree tells.
use Rattle.std.proofs.Common.{◌≡◌, ◌≢◌, ℕ, List, [], ◌∷◌, codes, Bool, is_some, false, Option, Some, None, Ok, Err, refl, ap, sym, ◌∙◌}
use Rattle.serde_json.specs.Data.{Data, Items, no_items, item}
use Rattle.serde_json.specs.Find.{as_bool, as_str, as_array, as_object}
use Rattle.cs_types.specs.declared.change.Kind.{Kind}
use Rattle.cs_types.specs.declared.names.CaptureType.{CaptureType}
use Rattle.cs_records.specs.declared.captured.ColumnInfo.{ColumnInfo}
use Rattle.cs_records.specs.declared.records.DataRecord.{DataRecord}
use Rattle.cs_records.specs.declared.records.Mod.{Mod}
use Rattle.cs_records.specs.declared.records.Record.{Record}
use Rattle.cs_records.specs.declared.records.Record.TheVariants.{Change}
use Rattle.cs_json_reading.specs.declared.change.Place.{Place}
use Rattle.cs_json_reading.specs.declared.change.Rows.{Rows}
use Rattle.cs_json_reading.specs.declared.change.Facts.{Facts}
use Rattle.cs_json_reading.specs.Reading.{Reading, required, first_and, each, each_in}
use Rattle.cs_json_reading.specs.Members.{stamp_value, sequence_value, transaction_value, name_value, kind_value, capture_value, whole_value}
use Rattle.cs_json_reading.specs.Missing.{missing_in, column_members, missing_in_change}
use Rattle.cs_types.specs.Names.{first_again}
use Rattle.cs_json_reading.specs.Columns.{names_of, unless_bad, apart_in, column_reading, columns_reading}
use Rattle.cs_json_reading.specs.Cells.{mod_reading, some_mods, mods_reading}
use Rattle.cs_json_reading.specs.Changes.{place_from, place_reading, rows_with, rows_from, rows_reading, facts_from, facts_reading, change_from, change_reading}
use Rattle.cs_json_reading.specs.Telling.{HasEach, TellsColumn, TellsMod, TellsChange}
use Rattle.cs_json_reading.proofs.Told.{never, in_reading, guarded, has_if_read, read_if_has, or_if_read, read_if_or, is_there, is_object, each_if_read, has_each_if_read, read_if_each, read_if_has_each, elements_are, none_in_each}
use Rattle.cs_json_reading.proofs.ColumnsTold.{column_told, column_read, column_lacks_nothing, mod_told, mod_read, mod_lacks_nothing}

-- ---- the parts of a record

place_parts : (stamp sequence : Reading ℕ) (tx : Reading (List ℕ)) (last : Reading Bool) (table : Reading (List ℕ)) (p : Place) → place_from stamp sequence tx last table ≡ Ok p
    → (stamp ≡ Ok p.stamp) × (sequence ≡ Ok p.sequence) × (tx ≡ Ok p.tx) × (last ≡ Ok p.is_last) × (table ≡ Ok p.table)
place_parts (Err e) sequence tx last table p h = absurd (never e p h)
place_parts (Ok s) (Err e) tx last table p h = absurd (never e p h)
place_parts (Ok s) (Ok n) (Err e) last table p h = absurd (never e p h)
place_parts (Ok s) (Ok n) (Ok x) (Err e) table p h = absurd (never e p h)
place_parts (Ok s) (Ok n) (Ok x) (Ok l) (Err e) p h = absurd (never e p h)
place_parts (Ok s) (Ok n) (Ok x) (Ok l) (Ok t) p h = (
  ap (in_reading (λ (p : Place). p.stamp)) h,
  ap (in_reading (λ (p : Place). p.sequence)) h,
  ap (in_reading (λ (p : Place). p.tx)) h,
  ap (in_reading (λ (p : Place). p.is_last)) h,
  ap (in_reading (λ (p : Place). p.table)) h,
)

facts_parts : (kind : Reading Kind) (capture : Reading CaptureType) (records parts : Reading ℕ) (tag : Reading (List ℕ)) (system : Reading Bool) (f : Facts) → facts_from kind capture records parts tag system ≡ Ok f
    → (kind ≡ Ok f.kind) × (capture ≡ Ok f.capture) × (records ≡ Ok f.records_in_tx) × (parts ≡ Ok f.parts_in_tx) × (tag ≡ Ok f.tag) × (system ≡ Ok f.system)
facts_parts (Err e) capture records parts tag system f h = absurd (never e f h)
facts_parts (Ok k) (Err e) records parts tag system f h = absurd (never e f h)
facts_parts (Ok k) (Ok c) (Err e) parts tag system f h = absurd (never e f h)
facts_parts (Ok k) (Ok c) (Ok r) (Err e) tag system f h = absurd (never e f h)
facts_parts (Ok k) (Ok c) (Ok r) (Ok p) (Err e) system f h = absurd (never e f h)
facts_parts (Ok k) (Ok c) (Ok r) (Ok p) (Ok t) (Err e) f h = absurd (never e f h)
facts_parts (Ok k) (Ok c) (Ok r) (Ok p) (Ok t) (Ok s) f h = (
  ap (in_reading (λ (f : Facts). f.kind)) h,
  ap (in_reading (λ (f : Facts). f.capture)) h,
  ap (in_reading (λ (f : Facts). f.records_in_tx)) h,
  ap (in_reading (λ (f : Facts). f.parts_in_tx)) h,
  ap (in_reading (λ (f : Facts). f.tag)) h,
  ap (in_reading (λ (f : Facts). f.system)) h,
)

-- a record that was read of three parts
record MadeOf (d : Data) (r : DataRecord) : Type 0 where
  place : place_reading d ≡ Ok (record { stamp = r.stamp; sequence = r.sequence; tx = r.tx; is_last = r.is_last; table = r.table })
  rows : rows_reading d ≡ Ok (record { columns = r.columns; mods = r.mods })
  facts : facts_reading d ≡ Ok (record { kind = r.kind; capture = r.capture; records_in_tx = r.records_in_tx; parts_in_tx = r.parts_in_tx; tag = r.tag; system = r.system })

abbrev read_to : DataRecord → Reading Record
read_to c = Ok (Change c)

same_change : (c : DataRecord) (r : Record) → read_to c ≡ Ok r → Change c ≡ r
same_change c r h = cc

made_of : (d : Data) (place : Reading Place) → place_reading d ≡ place → (rows : Reading Rows) → rows_reading d ≡ rows → (facts : Reading Facts) → facts_reading d ≡ facts → (r : Record) → change_from place rows facts ≡ Ok r
    → (c : DataRecord) × (r ≡ Change c) × MadeOf d c
made_of d (Err e) p rows q facts s r h = absurd (never e r h)
made_of d (Ok place) p (Err e) q facts s r h = absurd (never e r h)
made_of d (Ok place) p (Ok rows) q (Err e) s r h = absurd (never e r h)
made_of d (Ok place) p (Ok rows) q (Ok facts) s r h = (
  record {
    stamp = place.stamp;
    sequence = place.sequence;
    tx = place.tx;
    is_last = place.is_last;
    table = place.table;
    columns = rows.columns;
    mods = rows.mods;
    kind = facts.kind;
    capture = facts.capture;
    records_in_tx = facts.records_in_tx;
    parts_in_tx = facts.parts_in_tx;
    tag = facts.tag;
    system = facts.system;
  },
  sym (same_change _ r h),
  record { place = p; rows = q; facts = s },
)

-- ---- columns and mods

columns_told : (d : Data) (columns : List ColumnInfo) → columns_reading d ≡ Ok columns → HasEach TellsColumn (codes "column_types") d columns × (first_again [] (names_of columns) ≡ None)
unfolding columns_reading
columns_told d columns h = at (each_in column_reading (required as_array (codes "column_types") d)) refl h
  where
    of : (cs : List ColumnInfo) → each_in column_reading (required as_array (codes "column_types") d) ≡ Ok cs → (o : Option (List ℕ)) → first_again [] (names_of cs) ≡ o → unless_bad o (Ok cs) ≡ Ok columns
        → HasEach TellsColumn (codes "column_types") d columns × (first_again [] (names_of columns) ≡ None)
    of cs p (Some name) q h = absurd (never _ columns h)
    of cs p None q h =
        let same : cs ≡ columns = cc in
        (has_each_if_read column_reading TellsColumn column_told (codes "column_types") d columns (p ∙ ap Ok same), ap (λ (xs : List ColumnInfo). first_again [] (names_of xs)) (sym same) ∙ q)

    at : (x : Reading (List ColumnInfo)) → each_in column_reading (required as_array (codes "column_types") d) ≡ x → apart_in x ≡ Ok columns
        → HasEach TellsColumn (codes "column_types") d columns × (first_again [] (names_of columns) ≡ None)
    at (Err e) p h = absurd (never e columns h)
    at (Ok cs) p h = of cs p (first_again [] (names_of cs)) refl h

columns_read : (d : Data) (columns : List ColumnInfo) → HasEach TellsColumn (codes "column_types") d columns → first_again [] (names_of columns) ≡ None → columns_reading d ≡ Ok columns
unfolding columns_reading
columns_read d columns h apart = rw (read_if_has_each column_reading TellsColumn column_read (codes "column_types") d columns h, apart) refl

no_mods : (columns : List ColumnInfo) (ds : Items) → each (mod_reading columns) ds ≡ Ok [] → ds ≡ no_items
no_mods columns no_items h = refl
no_mods columns (item d ds) h = absurd (at (mod_reading columns d) (each (mod_reading columns) ds) h)
  where
    at : (r : Reading Mod) (rs : Reading (List Mod)) → first_and r rs ≡ Ok [] → ⊥
    at (Err e) rs h = never e [] h
    at (Ok m) (Err e) h = never e [] h
    at (Ok m) (Ok ms) h = cc

mods_told : (columns : List ColumnInfo) (d : Data) (ms : List Mod) → mods_reading columns d ≡ Ok ms → HasEach (TellsMod columns) (codes "mods") d ms × (ms ≢ [])
unfolding mods_reading
mods_told columns d ms h = at (required as_array (codes "mods") d) refl h
  where
    at : (x : Reading Items) → required as_array (codes "mods") d ≡ x → some_mods columns x ≡ Ok ms → HasEach (TellsMod columns) (codes "mods") d ms × (ms ≢ [])
    at (Err e) p h = absurd (never e ms h)
    at (Ok no_items) p h = absurd (never _ ms h)
    at (Ok (item e ds)) p h = (
      record { elements = item e ds; there = has_if_read as_array (codes "mods") d (item e ds) p; each = each_if_read (mod_reading columns) (TellsMod columns) (mod_told columns) (item e ds) ms h },
      λ none. absurd (let empty : item e ds ≡ no_items = no_mods columns (item e ds) (h ∙ ap Ok none) in cc),
    )

some_read : (columns : List ColumnInfo) (ds : Items) (ms : List Mod) → ms ≢ [] → each (mod_reading columns) ds ≡ Ok ms → some_mods columns (Ok ds) ≡ Ok ms
some_read columns no_items ms some h = absurd (some (let empty : [] ≡ ms = cc in sym empty))
some_read columns (item d ds) ms some h = h

mods_read : (columns : List ColumnInfo) (d : Data) (ms : List Mod) → HasEach (TellsMod columns) (codes "mods") d ms → ms ≢ [] → mods_reading columns d ≡ Ok ms
unfolding mods_reading
mods_read columns d ms h some =
    ap (some_mods columns) (read_if_has as_array (codes "mods") d h.elements h.there)
    ∙ some_read columns h.elements ms some (read_if_each (mod_reading columns) (TellsMod columns) (mod_read columns) h.elements ms h.each)

rows_parts : (d : Data) (r : Rows) → rows_reading d ≡ Ok r → (columns_reading d ≡ Ok r.columns) × (mods_reading r.columns d ≡ Ok r.mods)
unfolding rows_reading
rows_parts d r h = at (columns_reading d) refl h
  where
    of : (cs : List ColumnInfo) → columns_reading d ≡ Ok cs → (x : Reading (List Mod)) → mods_reading cs d ≡ x → rows_with cs x ≡ Ok r → (columns_reading d ≡ Ok r.columns) × (mods_reading r.columns d ≡ Ok r.mods)
    of cs p (Err e) q h = absurd (never e r h)
    of cs p (Ok ms) q h =
        let columns : Ok cs ≡ Ok r.columns = ap (in_reading (λ (r : Rows). r.columns)) h in
        let mods : Ok ms ≡ Ok r.mods = ap (in_reading (λ (r : Rows). r.mods)) h in
        let same : r.columns ≡ cs = cc in
        (p ∙ columns, ap (λ x. mods_reading x d) same ∙ q ∙ mods)

    at : (x : Reading (List ColumnInfo)) → columns_reading d ≡ x → rows_from d x ≡ Ok r → (columns_reading d ≡ Ok r.columns) × (mods_reading r.columns d ≡ Ok r.mods)
    at (Err e) p h = absurd (never e r h)
    at (Ok cs) p h = of cs p (mods_reading cs d) refl h

-- ---- the record

change_made : (d : Data) (r : DataRecord) → MadeOf d r → TellsChange r d
unfolding place_reading facts_reading
change_made d r m =
    let place = place_parts _ _ _ _ _ _ m.place in
    let facts = facts_parts _ _ _ _ _ _ _ m.facts in
    let rows = rows_parts d _ m.rows in
    let columns = columns_told d r.columns rows.0 in
    let mods = mods_told r.columns d r.mods rows.1 in
    record {
      commit_timestamp = has_if_read stamp_value (codes "commit_timestamp") d r.stamp place.0;
      record_sequence = has_if_read sequence_value (codes "record_sequence") d r.sequence place.1;
      server_transaction_id = has_if_read transaction_value (codes "server_transaction_id") d r.tx place.2;
      is_last = has_if_read as_bool (codes "is_last_record_in_transaction_in_partition") d r.is_last place.3;
      table_name = has_if_read name_value (codes "table_name") d r.table place.4;
      column_types = columns.0;
      apart = columns.1;
      mods = mods.0;
      some_mods = mods.1;
      mod_type = has_if_read kind_value (codes "mod_type") d r.kind facts.0;
      value_capture_type = has_if_read capture_value (codes "value_capture_type") d r.capture facts.1;
      number_of_records = has_if_read whole_value (codes "number_of_records_in_transaction") d r.records_in_tx facts.2;
      number_of_partitions = has_if_read whole_value (codes "number_of_partitions_in_transaction") d r.parts_in_tx facts.3;
      transaction_tag = or_if_read [] as_str (codes "transaction_tag") d r.tag facts.4;
      is_system_transaction = or_if_read false as_bool (codes "is_system_transaction") d r.system facts.5;
    }

pub change_told : (d : Data) (r : Record) → change_reading d ≡ Ok r → (c : DataRecord) × (r ≡ Change c) × TellsChange c d
unfolding change_reading
change_told d r h =
    let made = made_of d (place_reading d) refl (rows_reading d) refl (facts_reading d) refl r (guarded (is_some (as_object d)) (change_from (place_reading d) (rows_reading d) (facts_reading d)) _ r h) in
    (made.0, made.1, change_made d made.0 made.2)

place_read : (d : Data) (r : DataRecord) → TellsChange r d → place_reading d ≡ Ok (record { stamp = r.stamp; sequence = r.sequence; tx = r.tx; is_last = r.is_last; table = r.table })
unfolding place_reading
place_read d r h =
    rw (
      read_if_has stamp_value (codes "commit_timestamp") d r.stamp h.commit_timestamp,
      read_if_has sequence_value (codes "record_sequence") d r.sequence h.record_sequence,
      read_if_has transaction_value (codes "server_transaction_id") d r.tx h.server_transaction_id,
      read_if_has as_bool (codes "is_last_record_in_transaction_in_partition") d r.is_last h.is_last,
      read_if_has name_value (codes "table_name") d r.table h.table_name,
    ) refl

rows_read : (d : Data) (r : DataRecord) → TellsChange r d → rows_reading d ≡ Ok (record { columns = r.columns; mods = r.mods })
unfolding rows_reading
rows_read d r h = rw (columns_read d r.columns h.column_types h.apart, mods_read r.columns d r.mods h.mods h.some_mods) refl

facts_read : (d : Data) (r : DataRecord) → TellsChange r d
    → facts_reading d ≡ Ok (record { kind = r.kind; capture = r.capture; records_in_tx = r.records_in_tx; parts_in_tx = r.parts_in_tx; tag = r.tag; system = r.system })
unfolding facts_reading
facts_read d r h =
    rw (
      read_if_has kind_value (codes "mod_type") d r.kind h.mod_type,
      read_if_has capture_value (codes "value_capture_type") d r.capture h.value_capture_type,
      read_if_has whole_value (codes "number_of_records_in_transaction") d r.records_in_tx h.number_of_records,
      read_if_has whole_value (codes "number_of_partitions_in_transaction") d r.parts_in_tx h.number_of_partitions,
      read_if_or [] as_str (codes "transaction_tag") d r.tag h.transaction_tag,
      read_if_or false as_bool (codes "is_system_transaction") d r.system h.is_system_transaction,
    ) refl

pub change_read : (r : DataRecord) (d : Data) → TellsChange r d → change_reading d ≡ Ok (Change r)
unfolding change_reading
change_read r d h = rw (is_object stamp_value (codes "commit_timestamp") d r.stamp h.commit_timestamp, place_read d r h, rows_read d r h, facts_read d r h) refl

pub change_lacks_nothing : (r : DataRecord) (d : Data) → TellsChange r d → missing_in_change d ≡ None
change_lacks_nothing r d h =
    rw (
      is_object stamp_value (codes "commit_timestamp") d r.stamp h.commit_timestamp,
      is_there stamp_value (codes "commit_timestamp") d r.stamp h.commit_timestamp,
      is_there sequence_value (codes "record_sequence") d r.sequence h.record_sequence,
      is_there transaction_value (codes "server_transaction_id") d r.tx h.server_transaction_id,
      is_there as_bool (codes "is_last_record_in_transaction_in_partition") d r.is_last h.is_last,
      is_there name_value (codes "table_name") d r.table h.table_name,
      is_there as_array (codes "column_types") d h.column_types.elements h.column_types.there,
      is_there as_array (codes "mods") d h.mods.elements h.mods.there,
      is_there kind_value (codes "mod_type") d r.kind h.mod_type,
      is_there capture_value (codes "value_capture_type") d r.capture h.value_capture_type,
      is_there whole_value (codes "number_of_records_in_transaction") d r.records_in_tx h.number_of_records,
      is_there whole_value (codes "number_of_partitions_in_transaction") d r.parts_in_tx h.number_of_partitions,
      elements_are (codes "column_types") d h.column_types.elements h.column_types.there,
      elements_are (codes "mods") d h.mods.elements h.mods.there,
      none_in_each TellsColumn (missing_in column_members) column_lacks_nothing r.columns h.column_types.elements h.column_types.each,
      none_in_each (TellsMod r.columns) (missing_in (codes "keys" ∷ [])) (mod_lacks_nothing r.columns) r.mods h.mods.elements h.mods.each,
    ) refl
