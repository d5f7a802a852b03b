use Rattle.std.proofs.Common.{append_assoc, refl}
use Rattle.cs_tool.proofs.generated.summary_text.Goals as goal

pub returns : goal.returns
returns c = simp (c.in_ok-format.ensures.ok, c.in_ok-front.ensures.ok, append_assoc) refl
