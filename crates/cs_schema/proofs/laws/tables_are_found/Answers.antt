use Rattle.cs_schema.proofs.Named.{each_named, named_there, named_sound}
use Rattle.cs_schema.proofs.laws.tables_are_found.Goals as goal

pub returns : goal.returns
returns c = record { each = λ tables streams s. each_named tables s.tables_differ; found = named_there; sound = λ tables streams s name t e. named_sound tables streams name t s e }
