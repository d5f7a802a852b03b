use Rattle.cs_capture.proofs.Rules.{captured_none}
use Rattle.cs_capture.proofs.laws.captures_nothing.Goals as goal

pub returns : goal.returns
returns c = captured_none
