-- The reshapes of a script: the parts of a stream that end, and the borders between those that follow them (this project's own).
use Rattle.std.specs.Prelude.{ℕ, ◌+◌, List, [], ◌∷◌, codes, is_some, if◌then◌else◌, Option, Some, None, Ok, Err}
use Rattle.serde_json.specs.Data.{Data, Items, no_items, item}
use Rattle.serde_json.specs.Find.{get, as_str, as_array, as_object}
use Rattle.cs_types.specs.declared.cells.Cell.{Cell}
use Rattle.cs_types.specs.Names.{is_same}
use Rattle.cs_schema.specs.declared.types.Table.{Table}
use Rattle.cs_schema.specs.declared.types.Stream.{Stream}
use Rattle.cs_place.specs.declared.place.Place.{Place}
use Rattle.cs_place.specs.Place.{place_bytes, table_place}
use Rattle.cs_script.specs.declared.action.Reshape.{Reshape}
use Rattle.cs_script.specs.declared.fault.LineCause.TheVariants.{Member, NoTable}
use Rattle.cs_script.specs.Readings.{Reading, both, and_more}
use Rattle.cs_script.specs.Members.{required, tokens_value, no_others}
use Rattle.cs_script.specs.Cells.{key_member}
use Rattle.cs_script.specs.Writes.{table_of, named_table}

abbrev pub border_members : List (List ℕ)
border_members = codes "table" ∷ codes "key" ∷ []

-- the key of a border, where it has one
abbrev pub with_key : Reading (List Cell) → Reading (Option (List Cell))
with_key (Err e) = Err e
with_key (Ok cells) = Ok (Some cells)

abbrev pub border_key : Option Table → Option Data → Reading (Option (List Cell))
border_key t None = Ok None
border_key t (Some d) = with_key (key_member t (Some d))

-- the place of a row, or of a table where there is no key
abbrev pub border_place : List ℕ → Option (List Cell) → Place
border_place table None = record { bytes = table_place table }
border_place table (Some key) = record { bytes = place_bytes (record { table = table; key = key }) }

-- the border of its parts
abbrev pub border_of : Reading (List ℕ × (Option (List Cell) × Unit {0})) → Reading Place
border_of (Err e) = Err e
border_of (Ok p) = Ok (border_place p.0 p.1.0)

-- a border, whose table's name was read or not
abbrev pub border_with : List Table → Reading (List ℕ) → Data → Reading Place
border_with tables name d = border_of (both (named_table tables name)
    (both (border_key (table_of tables name) (get (codes "key") d)) (no_others border_members d)))

-- a border: an object with a table and, where it has one, a key
unfoldable pub border_reading : List Table → Data → Reading Place
border_reading tables d = if is_some (as_object d) then border_with tables (required as_str (codes "table") d) d else Err (Member (codes "borders"))

-- each element as a border
abbrev pub each_border : List Table → Items → Reading (List Place)
each_border tables no_items = Ok []
each_border tables (item d ds) = and_more (border_reading tables d) (each_border tables ds)

abbrev pub borders_of : List Table → Option Items → Reading (List Place)
borders_of tables None = Err (Member (codes "borders"))
borders_of tables (Some ds) = each_border tables ds

-- the borders of the member `borders`
abbrev pub borders_member : List Table → Option Data → Reading (List Place)
borders_member tables None = Err (Member (codes "borders"))
borders_member tables (Some d) = borders_of tables (as_array d)

-- a place, counted from another
abbrev pub counted_from : ℕ → Option ℕ → Option ℕ
counted_from n None = None
counted_from n (Some i) = Some (n + i)

-- the place of the first stream of a name
abbrev pub stream_place : List ℕ → List Stream → Option ℕ
stream_place name [] = None
stream_place name (s ∷ ss) = if is_same s.name name then Some 0 else counted_from 1 (stream_place name ss)

abbrev pub if_stream : List ℕ → Option ℕ → Reading (List ℕ)
if_stream name None = Err (NoTable name)
if_stream name (Some i) = Ok name

-- a name that was read, of a stream that is there
abbrev pub named_stream : List Stream → Reading (List ℕ) → Reading (List ℕ)
named_stream streams (Err e) = Err e
named_stream streams (Ok name) = if_stream name (stream_place name streams)

abbrev pub reshape_members : List (List ℕ)
reshape_members = codes "stream" ∷ codes "parts" ∷ codes "borders" ∷ []

-- the reshape of its parts
abbrev pub reshape_of : Reading (List ℕ × (List (List ℕ) × (List Place × Unit {0}))) → Reading Reshape
reshape_of (Err e) = Err e
reshape_of (Ok p) = Ok (record { stream = p.0; parts = p.1.0; borders = p.1.1.0 })

-- a reshape: an object with a stream, the parts that end and the borders
unfoldable pub reshape_reading : List Table → List Stream → Data → Reading Reshape
reshape_reading tables streams d = if is_some (as_object d)
    then reshape_of (both (named_stream streams (required as_str (codes "stream") d)) (both (required tokens_value (codes "parts") d)
    (both (borders_member tables (get (codes "borders") d)) (no_others reshape_members d))))
    else Err (Member (codes "reshape"))
