-- An answer as contracts see it, by the bytes of its connection.
use Rattle.std.specs.Prelude.{ℕ, List, [], Result}
use Rattle.std.specs.Io.KnownBytes.{Appends}
use Rattle.cs_link.specs.declared.refusal.LinkAnswer.{LinkAnswer}
use Rattle.cs_connection.specs.declared.conn.Conn.{Ghosts}
use Rattle.cs_wire.specs.declared.lines.Lines.{Lines}
use Rattle.cs_wire.specs.Opened.{IsOpened}
use Rattle.cs_wire.specs.Told.{SoFarRead}

-- an answer, as far as it was read over a connection
abbrev pub so_far : {C : Type 0} {K : Ghosts C} → Lines C K → SoFarRead
so_far {C} {K} l = record { gone = K.gone l.conn; left = K.left l.conn; held = l.held.items; head = l.head; faults = K.faults l.conn }

-- a request was written to a connection that a dialer gave, and what was read over it is answered so
pub record IsAnsweredOver {C : Type 0} {K : Ghosts C} (gives : C → Type 0) (request : List ℕ) (l : Lines C K) (result : Result (Unit {0}) LinkAnswer) : Type 0 where
  -- the connection as it was given, and once the request was written
  pub first : C
  pub asked : C
  pub given : gives first
  pub kept : K.same first asked
  pub sent : Appends (K.written first) (K.written asked) request
  pub later : K.same asked l.conn
  pub answer : IsOpened (K.gone asked) (K.gone l.conn) (K.left asked) (K.left l.conn) [] l.held.items l.head (K.faults asked) (K.faults l.conn) result
