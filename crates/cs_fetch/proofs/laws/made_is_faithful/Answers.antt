use Rattle.cs_fetch.proofs.Truth.{made_faithful}
use Rattle.cs_fetch.proofs.laws.made_is_faithful.Goals as goal

pub returns : goal.returns
returns c = λ args before now told told_now was is known limits since outcome M small fits. made_faithful args before now told told_now was is known limits since outcome M small fits
