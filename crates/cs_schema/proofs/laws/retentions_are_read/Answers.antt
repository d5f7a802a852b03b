use Rattle.cs_schema.proofs.Decimals.{retention_is, retention_read}
use Rattle.cs_schema.proofs.laws.retentions_are_read.Goals as goal

pub returns : goal.returns
returns c = λ text us. (retention_is text us, retention_read text us)
