use Rattle.cs_fetch.proofs.Growing.{always_grows}
use Rattle.cs_fetch.proofs.laws.always_grows.Goals as goal

pub returns : goal.returns
returns c = always_grows
