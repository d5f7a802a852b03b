-- The parts of a batch that can be written in an entry. This project's own.
use Rattle.std.specs.Prelude.{IfSome}
use Rattle.cs_link.specs.declared.batch.Batch.{Batch}
use Rattle.cs_schedule.specs.Spelling.{IsToken, IsChange, IsChild, IsList}

pub record CanBeWritten (b : Batch) : Type 0 where
  pub named : IfSome b.token IsToken
  pub changes : IsList IsChange b.changes
  pub children : IsList IsChild b.children
