use Rattle.std.proofs.Common.{ap, ◌∙◌}
use Rattle.cs_types.specs.Value.{value_reading}
use Rattle.cs_types.proofs.ReadBack.{reads_back}
use Rattle.cs_types.proofs.value.Value.to_tree.Goals as goal

pub returns-clause-reads_back : goal.returns-clause-reads_back
returns-clause-reads_back c = λ ty of. ap (value_reading ty) c.in_ok-tree.ensures ∙ reads_back ty c.args.self.now of c.requires
