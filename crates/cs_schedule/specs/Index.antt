-- Ordered lists of places beside the rows of a board: each place with a number that its row has, in rising order of the number and then of the place. This project's own.
use Rattle.std.specs.Prelude.{◌≡◌, ℕ, suc, ◌+◌, ◌*◌, ◌%◌, ◌<◌, ◌≤◌, min, Bool, true, false, ◌&&◌, List, [], ◌∷◌, map, length, Option, Some, None, nat_le, ◌==◌, if◌then◌else◌, filter, vec_capacity, Contains}
use Rattle.cs_types.specs.Members.{Pairwise}
use Rattle.cs_schedule.specs.declared.row.Row.{Row}
use Rattle.cs_schedule.specs.declared.slots.Slot.{Slot}
use Rattle.cs_schedule.specs.declared.index.Index.{Index}
use Rattle.cs_schedule.specs.Board.{same_token, has_ended, turn}

-- whether a slot stands at or before another
abbrev pub slot_le : Slot → Slot → Bool
slot_le a b = if a.key == b.key then nat_le a.place b.place else nat_le a.key b.key

abbrev pub same_slot : Slot → Slot → Bool
same_slot a b = a.key == b.key && a.place == b.place

abbrev pub AreSorted : List Slot → Type 0
AreSorted = Pairwise (λ a b. slot_le a b ≡ true)

-- a slot put among others that are sorted
abbrev pub put_slot : Slot → List Slot → List Slot
put_slot s [] = s ∷ []
put_slot s (a ∷ ss) = if slot_le s a then s ∷ a ∷ ss else a ∷ put_slot s ss

-- the slot given up
abbrev pub take_slot : Slot → List Slot → List Slot
take_slot s [] = []
take_slot s (a ∷ ss) = if same_slot a s then ss else a ∷ take_slot s ss

-- the slot of a place put, where it has a number
abbrev pub put_key : Option ℕ → ℕ → List Slot → List Slot
put_key None p ss = ss
put_key (Some k) p ss = put_slot (record { key = k; place = p }) ss

abbrev pub take_key : Option ℕ → ℕ → List Slot → List Slot
take_key None p ss = ss
take_key (Some k) p ss = take_slot (record { key = k; place = p }) ss

-- the slots of places with these numbers, of which the first place is p
abbrev pub slots_from : ℕ → List (Option ℕ) → List Slot
slots_from p [] = []
slots_from p (o ∷ os) = put_key o p (slots_from (suc p) os)

-- a slot where something is put at the place q
abbrev pub behind : ℕ → Slot → Slot
behind q s = record { key = s.key; place = if nat_le q s.place then suc s.place else s.place }

abbrev pub keys : List Slot → List ℕ
keys ss = map (λ s. s.key) ss

-- ---- the unfinished rows, by what is complete of each

abbrev pub open_key : Row → Option ℕ
open_key r = if r.finished then None else Some r.through

abbrev pub opens_of : List Row → List Slot
opens_of rows = slots_from 0 (map open_key rows)

-- ---- the rows that may be read, by their tries, and those that wait for a parent, by the number of its token

-- a number of a token; two tokens can have the same
abbrev pub number_from : ℕ → List ℕ → ℕ
number_from n [] = n
number_from n (b ∷ bytes) = number_from ((n * 257 + b) % 4294967291) bytes

abbrev pub token_number : List ℕ → ℕ
token_number t = number_from 0 t

-- the number of the first token that has not ended
abbrev pub missing : (List ℕ → Bool) → List (List ℕ) → Option ℕ
missing ended [] = None
missing ended (t ∷ ts) = if ended t then missing ended ts else Some (token_number t)

abbrev pub tries_if : Option ℕ → Row → Option ℕ
tries_if None r = Some r.tries
tries_if (Some n) r = None

abbrev pub free_key : (List ℕ → Bool) → Row → Option ℕ
free_key ended r = if r.finished then None else if r.leased then None else tries_if (missing ended r.parents) r

abbrev pub wait_key : (List ℕ → Bool) → Row → Option ℕ
wait_key ended r = if r.finished then None else missing ended r.parents

abbrev pub free_of : (List ℕ → Bool) → List Row → List Slot
free_of ended rows = slots_from 0 (map (free_key ended) rows)

abbrev pub waits_of : (List ℕ → Bool) → List Row → List Slot
waits_of ended rows = slots_from 0 (map (wait_key ended) rows)

-- the first place from one on with a number
abbrev pub IsFirstWith : List Slot → ℕ → ℕ → Option ℕ → Type 0
IsFirstWith ss k from (Some p) = Contains ss (record { key = k; place = p }) × (from ≤ p) × ((s : Slot) → Contains ss s → s.key ≡ k → from ≤ s.place → p ≤ s.place)
IsFirstWith ss k from None = (s : Slot) → Contains ss s → s.key ≡ k → from ≤ s.place → ⊥

-- the slots with a number
abbrev pub with_key : ℕ → List Slot → List Slot
with_key k ss = filter (λ s. s.key == k) ss

-- the place whose turn it is of the slots with the number of the first one
abbrev pub first_turn : List Slot → ℕ → Option ℕ
first_turn [] order = None
first_turn (s ∷ ss) order = turn (map (λ a. a.place) (with_key s.key (s ∷ ss))) order

-- ---- the lists together

-- the lists of rows, where these tokens have ended
pub record IsIndexBy (ended : List ℕ → Bool) (rows : List Row) (i : Index) : Type 0 where
  pub by_through : i.opens.items ≡ opens_of rows
  pub by_tries : i.free.items ≡ free_of ended rows
  pub by_parent : i.waits.items ≡ waits_of ended rows

abbrev pub IsIndex : List Row → Index → Type 0
IsIndex rows i = IsIndexBy (has_ended rows) rows i

-- which tokens have ended, but for one
abbrev pub ended_but : List ℕ → List Row → List ℕ → Bool
ended_but t rows u = if same_token t u then false else has_ended rows u

-- for how many rows there is memory in each of the lists
abbrev pub places_in : Index → ℕ
places_in i = min (vec_capacity i.opens) (min (vec_capacity i.free) (vec_capacity i.waits))

-- a slot more can be put in each
pub record MayPut (i : Index) : Type 0 where
  pub opens_sorted : AreSorted i.opens.items
  pub free_sorted : AreSorted i.free.items
  pub waits_sorted : AreSorted i.waits.items
  pub opens_room : length i.opens.items < vec_capacity i.opens
  pub free_room : length i.free.items < vec_capacity i.free
  pub waits_room : length i.waits.items < vec_capacity i.waits

-- the slots of a row at a place put in each
pub record IsPut (ended : List ℕ → Bool) (r : Row) (p : ℕ) (i j : Index) : Type 0 where
  pub by_through : j.opens.items ≡ put_key (open_key r) p i.opens.items
  pub by_tries : j.free.items ≡ put_key (free_key ended r) p i.free.items
  pub by_parent : j.waits.items ≡ put_key (wait_key ended r) p i.waits.items

-- or taken out of each
pub record IsTaken (ended : List ℕ → Bool) (r : Row) (p : ℕ) (i j : Index) : Type 0 where
  pub by_through : j.opens.items ≡ take_key (open_key r) p i.opens.items
  pub by_tries : j.free.items ≡ take_key (free_key ended r) p i.free.items
  pub by_parent : j.waits.items ≡ take_key (wait_key ended r) p i.waits.items

-- a row put at a place before the others behind it
pub record IsWayMade (p : ℕ) (i j : Index) : Type 0 where
  pub by_through : j.opens.items ≡ map (behind p) i.opens.items
  pub by_tries : j.free.items ≡ map (behind p) i.free.items
  pub by_parent : j.waits.items ≡ map (behind p) i.waits.items

-- memory in which nothing stands yet
pub record IsEmptyRoom (rows : List Row) (i : Index) : Type 0 where
  pub no_rows : rows ≡ []
  pub no_opens : i.opens.items ≡ []
  pub no_free : i.free.items ≡ []
  pub no_waits : i.waits.items ≡ []
