-- What the lines of a script have made: the scripted database.
use Rattle.std.specs.Prelude.{ℕ, ◌+◌, ◌==◌, List, [], ◌∷◌, Option, None, cond}
use Rattle.cs_schema.specs.declared.types.Table.{Table}
use Rattle.cs_schema.specs.declared.types.Stream.{Stream}
use Rattle.cs_txn.specs.declared.txn.Modification.{Modification}
use Rattle.cs_partitions.specs.Layout.{StreamParts}

-- the tables and the streams in the order of their making, the modifications in the order of the commits, the layouts in the order of their streams, and the moment of the last line
pub record Database : Type 0 where
  pub tables : List Table
  pub streams : List Stream
  pub modifications : List Modification
  pub layouts : List StreamParts
  pub last : Option ℕ

-- nothing yet
abbrev pub no_database : Database
no_database = record { tables = []; streams = []; modifications = []; layouts = []; last = None }

-- how many writes the commits of a stamp have
abbrev pub writes_at : ℕ → List Modification → ℕ
writes_at stamp [] = 0
writes_at stamp (m ∷ ms) = cond (m.stamp == stamp) 1 0 + writes_at stamp ms
