use Rattle.cs_fetch.proofs.WellFormed.{always_well}
use Rattle.cs_fetch.proofs.laws.always_well_formed.Goals as goal

pub returns : goal.returns
returns c = λ args known limits steps W. always_well args known limits W.low W.first steps
