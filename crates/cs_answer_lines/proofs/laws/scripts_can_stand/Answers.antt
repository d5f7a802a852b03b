use Rattle.cs_answer_lines.proofs.Kept.{scripts_kept, scripts_writable}
use Rattle.cs_answer_lines.proofs.laws.scripts_can_stand.Goals as goal

pub returns : goal.returns
returns c = record { kept = scripts_kept; writable = scripts_writable }
