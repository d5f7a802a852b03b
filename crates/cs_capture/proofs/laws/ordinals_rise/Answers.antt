use Rattle.cs_capture.proofs.Ordinals.{rising}
use Rattle.cs_capture.proofs.laws.ordinals_rise.Goals as goal

pub returns : goal.returns
returns c = rising
