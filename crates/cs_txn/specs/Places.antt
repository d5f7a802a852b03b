-- What the maps beside a history's list hold: for each row the place of its last modification, and the ids that are used.
use Rattle.std.specs.Prelude.{◌≡◌, ◌==◌, ℕ, List, [], ◌∷◌, Some, None, cond, is_some, slice_get}
use Rattle.std.specs.declared.option.Option.{Option}
use Rattle.std.specs.Cmp.Lexicographic.{pointwise}
use Rattle.std.specs.HashMap.{HashMap, get}
use Rattle.cs_types.specs.declared.change.RowName.{RowName}
use Rattle.cs_types.specs.Row.{same_row}
use Rattle.std.specs.Option.{option_or}
use Rattle.cs_schema.specs.Tables.{next_place, flat}
use Rattle.cs_txn.specs.declared.txn.Write.{Write}
use Rattle.cs_txn.specs.declared.txn.Modification.{Modification}
use Rattle.cs_txn.specs.Digests.{row_eq}
use Rattle.cs_txn.specs.History.{is_used}

-- the place of the last modification of a row
abbrev pub last_place : RowName → List Modification → Option ℕ
last_place row [] = None
last_place row (m ∷ ms) = option_or (next_place (last_place row ms)) (cond (same_row m.row row) (Some 0) None)

-- the map has of each row the place of its last modification
abbrev pub PlacesOf : {S : Type 0} → List Modification → HashMap RowName ℕ S → Type 0
PlacesOf ms rows = (row : RowName) → get row_eq rows row ≡ last_place row ms

-- what stands at a place, if there is one
abbrev pub standing : List Modification → Option ℕ → Option Modification
standing ms None = None
standing ms (Some place) = slice_get ms place

-- for each write the place of its row's last modification
abbrev pub lasts_of : List Modification → List Write → List (Option ℕ)
lasts_of ms [] = []
lasts_of ms (w ∷ ws) = last_place w.row ms ∷ lasts_of ms ws

-- the rows of writes
abbrev pub rows_of : List Write → List RowName
rows_of [] = []
rows_of (w ∷ ws) = w.row ∷ rows_of ws

-- for each row the place that the map has
abbrev pub lasts_in : {S : Type 0} → HashMap RowName ℕ S → List RowName → List (Option ℕ)
lasts_in rows [] = []
lasts_in rows (r ∷ rs) = get row_eq rows r ∷ lasts_in rows rs

abbrev pub place_at : List (Option ℕ) → ℕ → Option ℕ
place_at lasts i = flat (slice_get lasts i)

-- the map has the ids of the transactions
abbrev pub IdsOf : {S : Type 0} → List Modification → HashMap (List ℕ) (Unit {0}) S → Type 0
IdsOf ms ids = (id : List ℕ) → is_some (get (pointwise ◌==◌) ids id) ≡ is_used id ms
