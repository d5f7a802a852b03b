-- What the bytes of a journal stand for. This project's own.
--
-- The bytes are a row of gates and entries: a gate of one byte, a length of four, low byte first, and the payload.
use Rattle.std.specs.Prelude.{◌≡◌, ◌+◌, ◌<◌, ℕ, List, [], ◌∷◌, ◌++◌, length, take, drop, map, Bool, true, false, cond, nat_eq, nat_lt, Option, None, Some}
use Rattle.std.specs.declared.result.Result.TheVariants.{Ok, Err}
use Rattle.std.specs.declared.result.Result.{Result}
use Rattle.std.specs.Int.{from_le_bytes, to_le_bytes, w32}
use Rattle.cs_journal.specs.declared.journal.Stored.{Stored}

-- a gate is open where its byte is 1 and a byte follows it
abbrev pub is_open : List ℕ → Bool
is_open (gate ∷ next ∷ rest) = nat_eq gate 1
is_open rest = false

-- the length behind a gate
abbrev pub length_at : List ℕ → ℕ
length_at rest = from_le_bytes w32 (take 4 (drop 1 rest))

-- an entry is whole where its length, its payload and the byte of the next gate are there
abbrev pub is_whole : List ℕ → Bool
is_whole rest = nat_lt (5 + length_at rest) (length rest)

-- the payload behind a gate
abbrev pub payload_at : List ℕ → List ℕ
payload_at rest = take (length_at rest) (drop 5 rest)

-- one payload in front of those that stand behind it
abbrev pub in_front : Stored → Result (List Stored) ℕ → Result (List Stored) ℕ
in_front first (Ok stored) = Ok (first ∷ stored)
in_front first (Err place) = Err place

-- The payloads behind open gates, each with the place of its gate, up to the first closed gate; or the place of the
-- first open gate that has no whole entry behind it. The first list bounds how many there are: at most one for each of
-- its elements. These bytes begin at a gate, which stands at this place.
abbrev pub rows_from : List ℕ → ℕ → List ℕ → Result (List Stored) ℕ
rows_from [] place rest = Ok []
rows_from (_ ∷ bound) place rest =
    cond (is_open rest)
    (cond (is_whole rest) (in_front (record { gate = place; payload = payload_at rest }) (rows_from bound (place + 5 + length_at rest) (drop (5 + length_at rest) rest))) (Err place))
    (Ok [])

-- the payloads of a journal's bytes, each with the place of its gate, or the place of an open gate without a whole entry
abbrev pub stored_of : List ℕ → Result (List Stored) ℕ
stored_of bytes = rows_from bytes 0 bytes

-- the payloads of a list
abbrev pub payloads_in : Result (List Stored) ℕ → Option (List (List ℕ))
payloads_in (Ok stored) = Some (map (λ s. s.payload) stored)
payloads_in (Err place) = None

-- the payloads of a journal's bytes, where each open gate has a whole entry behind it
abbrev pub payloads_of : List ℕ → Option (List (List ℕ))
payloads_of bytes = payloads_in (stored_of bytes)

-- the place behind entries, the first of which stands at this place
abbrev pub place_behind : ℕ → List Stored → ℕ
place_behind place [] = place
place_behind place (s ∷ stored) = place_behind (place + 5 + length s.payload) stored

-- the place of the first closed gate, where the open ones have whole entries
abbrev pub gate_in : Result (List Stored) ℕ → Option ℕ
gate_in (Ok stored) = Some (place_behind 0 stored)
gate_in (Err place) = None

-- the place of the closed gate of a journal's bytes
abbrev pub gate_of : List ℕ → Option ℕ
gate_of bytes = gate_in (stored_of bytes)

-- these bytes are whole entries with open gates, the first of which stands at this place
abbrev pub IsRows : ℕ → List ℕ → List Stored → Type 0
IsRows place front [] = front ≡ []
IsRows place front (s ∷ stored) =
    (header : List ℕ) × (more : List ℕ) × (front ≡ 1 ∷ header ++ (s.payload ++ more)) × (length header ≡ 4) × (from_le_bytes w32 header ≡ length s.payload) × (s.gate ≡ place) × IsRows (place + 5 + length s.payload) more stored

-- The same, by what stands there and not by reading it: whole entries with open gates, and behind them a closed gate,
-- which has a byte where there are entries.
abbrev pub IsJournalOf : List ℕ → List Stored → Type 0
IsJournalOf bytes stored = (front : List ℕ) × (rest : List ℕ) × (bytes ≡ front ++ rest) × IsRows 0 front stored × (is_open rest ≡ false) × (0 < length front → 0 < length rest)

-- And these are whole entries with open gates, behind which an open gate stands at this place that has no whole entry.
abbrev pub HasBrokenGate : List ℕ → ℕ → Type 0
HasBrokenGate bytes place =
    (stored : List Stored) × (front : List ℕ) × (rest : List ℕ) × (bytes ≡ front ++ rest) × IsRows 0 front stored × (place ≡ length front) × (is_open rest ≡ true) × (is_whole rest ≡ false)

-- what stands behind a gate when an entry is written there
abbrev pub behind_gate : List ℕ → List ℕ
behind_gate payload = to_le_bytes w32 (length payload) ++ payload ++ 0 ∷ []

-- payloads with one more
abbrev pub with_payload : List ℕ → Option (List (List ℕ)) → Option (List (List ℕ))
with_payload payload None = None
with_payload payload (Some payloads) = Some (payloads ++ payload ∷ [])

-- the longest that a journal may become
abbrev pub limit : ℕ
limit = 268435456
