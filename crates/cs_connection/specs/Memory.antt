-- What contracts see of connections and dialers in memory, and what a call makes of them. This project's own.
use Rattle.std.specs.Prelude.{◌≡◌, ◌+◌, ◌<◌, ◌⊎◌, ◌++◌, ℕ, List, [], drop, take, length, min, refl}
use Rattle.std.specs.Coded.{Coded, code_by, coded×, coded_ℕ, coded_list}
use Rattle.cs_device.specs.Calls.{Calls, calls_code, no_calls, IsListed, IsLater, passed, faulted}

-- a connection in memory: the bytes read, those still to be read and those written, how many one
-- read gives at most, how many may be written, and its calls
pub record ConnState : Type 0 where
  pub gone : List ℕ
  pub left : List ℕ
  pub written : List ℕ
  pub piece : ℕ
  pub room : ℕ
  pub calls : Calls

-- a connection is stored as the tuple of its fields
abbrev pub conn_code : Coded ConnState
conn_code =
    code_by (List ℕ × (List ℕ × (List ℕ × (ℕ × (ℕ × Calls))))) (coded× (coded_list coded_ℕ) (coded× (coded_list coded_ℕ) (coded× (coded_list coded_ℕ) (coded× coded_ℕ (coded× coded_ℕ calls_code))))) (λ c. (c.gone, (c.left, (c.written, (c.piece, (c.room, c.calls)))))) (λ p. record { gone = p.0; left = p.1.0; written = p.1.1.0; piece = p.1.1.1.0; room = p.1.1.1.1.0; calls = p.1.1.1.1.1 }) (λ _. refl)

-- a connection of which these bytes are read, at most so many at once, with room for so many written ones
abbrev pub fresh_conn : List ℕ → ℕ → ℕ → List ℕ → ConnState
fresh_conn bytes piece room listed = record { gone = []; left = bytes; written = []; piece = piece; room = room; calls = no_calls listed }

-- nothing was read from a connection or written to it
pub record IsUnused (c : ConnState) : Type 0 where
  pub unread : c.gone ≡ []
  pub unwritten : c.written ≡ []

-- a connection, sooner and later: its piece, its room and all bytes that are to be read of it stay, and
-- what was written stands
pub record IsSameConn (c d : ConnState) : Type 0 where
  pub piece : d.piece ≡ c.piece
  pub room : d.room ≡ c.room
  pub bytes : d.gone ++ d.left ≡ c.gone ++ c.left
  pub written : (more : List ℕ) × (d.written ≡ c.written ++ more)
  pub calls : IsLater c.calls d.calls

-- a write of so many bytes fails: its call is listed, or the bytes written would pass the room
abbrev pub ConnWriteFails : ConnState → ℕ → Type 0
ConnWriteFails c count = IsListed c.calls ⊎ (c.room < length c.written + count)

-- how many bytes a read gives into a piece of so many
abbrev pub read_count : ConnState → ℕ → ℕ
read_count c room = min (min (length c.left) room) c.piece

-- the connection after a read that gave so many bytes
abbrev pub after_read : ℕ → ConnState → ConnState
after_read n c = record { gone = c.gone ++ take n c.left; left = drop n c.left; written = c.written; piece = c.piece; room = c.room; calls = passed c.calls }

-- the connection after a write of these bytes
abbrev pub after_conn_write : List ℕ → ConnState → ConnState
after_conn_write bytes c = record { gone = c.gone; left = c.left; written = c.written ++ bytes; piece = c.piece; room = c.room; calls = passed c.calls }

-- the connection after a call that failed
abbrev pub after_conn_fault : ConnState → ConnState
after_conn_fault c = record { gone = c.gone; left = c.left; written = c.written; piece = c.piece; room = c.room; calls = faulted c.calls }

-- what a dialer and an acceptor in memory give: the connections that are still to be given, and the calls
pub record QueueState : Type 0 where
  pub conns : List ConnState
  pub calls : Calls

-- it is stored as the tuple of its fields
abbrev pub queue_code : Coded QueueState
queue_code =
    code_by (List ConnState × Calls) (coded× (coded_list conn_code) calls_code) (λ q. (q.conns, q.calls)) (λ p. record { conns = p.0; calls = p.1 }) (λ _. refl)

-- a dialer, sooner and later
abbrev pub IsSameQueue : QueueState → QueueState → Type 0
IsSameQueue q r = IsLater q.calls r.calls

-- a call that is to give a connection fails: it is listed, or none is left
abbrev pub QueueFails : QueueState → Type 0
QueueFails q = IsListed q.calls ⊎ (q.conns ≡ [])
