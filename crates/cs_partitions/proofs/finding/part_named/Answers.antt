use Rattle.std.proofs.Common.{◌∙◌, ap}
use Rattle.cs_partitions.proofs.Indexes.{standing, stands_at}
use Rattle.cs_partitions.proofs.finding.part_named.Goals as goal

pub returns-in-Some : goal.returns-in-Some
returns-in-Some c = c.part_at.ensures ∙ ap (standing c.args.parts.now) c.in-Some.ensures.index ∙ stands_at c.args.token.now c.args.parts.now

pub returns-in-None : goal.returns-in-None
returns-in-None c = ap (standing c.args.parts.now) c.in-None.ensures.index ∙ stands_at c.args.token.now c.args.parts.now
