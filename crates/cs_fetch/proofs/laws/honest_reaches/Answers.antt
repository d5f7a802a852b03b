use Rattle.cs_fetch.proofs.Reaching.{honest_reaches}
use Rattle.cs_fetch.proofs.laws.honest_reaches.Goals as goal

pub returns : goal.returns
returns c = honest_reaches
