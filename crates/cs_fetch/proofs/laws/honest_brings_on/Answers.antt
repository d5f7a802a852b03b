use Rattle.cs_fetch.proofs.Growing.{honest_brings}
use Rattle.cs_fetch.proofs.laws.honest_brings_on.Goals as goal

pub returns : goal.returns
returns c = honest_brings
