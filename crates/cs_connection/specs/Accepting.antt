-- What contracts see of an acceptor in memory, and what a call makes of it. This project's own.
use Rattle.std.specs.Prelude.{◌≡◌, ◌⊎◌, ℕ, List, [], Some}
use Rattle.cs_device.specs.Calls.{Calls, IsListed, IsLater}
use Rattle.cs_connection.specs.Memory.{ConnState, IsUnused}
use Rattle.cs_connection.specs.Given.{GivenBack}
use Rattle.cs_connection.specs.declared.returned.Returned.{Returned}

-- an acceptor in memory: the connections that it has to give, those given back, how many are out,
-- and its calls that take a connection
pub record AcceptState : Type 0 where
  pub conns : List ConnState
  pub back : List Returned
  pub out : ℕ
  pub calls : Calls

-- nothing was read from a connection or written to it, and it never failed
pub record IsNew (c : ConnState) : Type 0 where
  pub unused : IsUnused c
  pub sound : c.calls.faults ≡ 0

-- what is told of a connection that was given back
abbrev pub told_of : Returned → GivenBack
told_of r = record { gone = Some r.conn.gone; left = Some r.conn.left; written = Some r.conn.written; faults = r.conn.calls.faults; served = r.served }

-- an acceptor, sooner and later
abbrev pub IsSameAccept : AcceptState → AcceptState → Type 0
IsSameAccept a b = IsLater a.calls b.calls

-- a call that is to take a connection fails: it is listed, or none is left
abbrev pub AcceptFails : AcceptState → Type 0
AcceptFails a = IsListed a.calls ⊎ (a.conns ≡ [])
