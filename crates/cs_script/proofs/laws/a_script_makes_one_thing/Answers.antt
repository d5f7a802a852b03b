use Rattle.cs_script.proofs.Alone.{same_script}
use Rattle.cs_script.proofs.laws.a_script_makes_one_thing.Goals as goal

pub returns : goal.returns
returns c = same_script c.written_stamps_read_back.ensures.one c.one_tree.ensures
