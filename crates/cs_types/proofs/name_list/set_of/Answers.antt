use Rattle.std.proofs.Common.{rules}
use Rattle.cs_types.proofs.NameSets.{names_step}
use Rattle.cs_types.proofs.name_list.set_of.Goals as goal

pub loop-name-preserved : goal.loop-name-preserved
loop-name-preserved c = names_step c.loop-name.set c.insert.new.self c.args.names.now c.loop-name.name-index c.name-item.result (search rules) (search rules) c.loop-name.invariant (λ q. search rules)
