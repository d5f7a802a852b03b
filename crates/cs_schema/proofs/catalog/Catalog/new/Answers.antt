use Rattle.cs_schema.proofs.SoundTables.{nothing_is_sound}
use Rattle.cs_schema.proofs.catalog.Catalog.new.Goals as goal

pub invariant_of-result : goal.invariant_of-result
invariant_of-result c = rw (c.new.ensures, c.new-2.ensures) nothing_is_sound
