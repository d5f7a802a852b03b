-- What a catalog is to its callers: the tables and the change streams of a database, each in the order of their making.
use Rattle.std.specs.Prelude.{List}
use Rattle.cs_schema.specs.declared.types.Table.{Table}
use Rattle.cs_schema.specs.declared.types.Stream.{Stream}

pub record Schema : Type 0 where
  pub tables : List Table
  pub streams : List Stream
