use Rattle.cs_script.proofs.Alone.{same_line}
use Rattle.cs_script.proofs.laws.a_line_does_one_thing.Goals as goal

pub returns : goal.returns
returns c = same_line c.written_stamps_read_back.ensures.one c.one_tree.ensures
