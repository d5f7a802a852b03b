use Rattle.cs_server.proofs.Names.{feeds_told}
use Rattle.cs_server.proofs.laws.feeds_are_told_by_name.Goals as goal

pub returns : goal.returns
returns c = feeds_told
