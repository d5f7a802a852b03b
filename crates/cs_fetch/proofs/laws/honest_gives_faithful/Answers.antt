use Rattle.cs_fetch.proofs.Lawful.{honest_faithful}
use Rattle.cs_fetch.proofs.laws.honest_gives_faithful.Goals as goal

pub returns : goal.returns
returns c = honest_faithful
