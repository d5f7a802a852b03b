use Rattle.cs_schedule.specs.Board.{leased}
use Rattle.cs_schedule.proofs.Changed.{set_at}
use Rattle.cs_schedule.proofs.turn.set_leased.Goals as goal

pub returns-clause-rows : goal.returns-clause-rows
returns-clause-rows c = set_at leased c.args.rows.now.items c.args.place c.index_mut.result.now c.requires c.index_mut.ensures.value
