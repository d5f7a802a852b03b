-- What the columns of a table are found by: walks where there are few or few are looked for, else a set of the key's names and a map of places.
use Rattle.cs_schema.specs.declared.types.Table.{Table}
use Rattle.cs_txn.specs.Finding.{HasNames, LeadsTo}
use Rattle.cs_script.specs.declared.finder.Finder.{Finder}

-- the columns of the table and of its key can be found by it
pub record IsFinder (t : Table) (f : Finder) : Type 0 where
  pub key : HasNames t.key f.key
  pub places : LeadsTo t.columns f.places
