use Rattle.cs_audit.proofs.OwnLines.{own_lines_of_pairs}
use Rattle.cs_audit.proofs.laws.changes_of_one_database_have_own_lines.Goals as goal

pub returns : goal.returns
returns c = own_lines_of_pairs c.lines_tell_changes.ensures.row
