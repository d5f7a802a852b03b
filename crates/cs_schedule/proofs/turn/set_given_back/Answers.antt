use Rattle.cs_schedule.specs.Board.{given_back}
use Rattle.cs_schedule.proofs.Changed.{set_at}
use Rattle.cs_schedule.proofs.turn.set_given_back.Goals as goal

pub returns-clause-rows : goal.returns-clause-rows
returns-clause-rows c = rw (c.tries_after-row.ensures) (set_at (given_back c.args.caught_up) c.args.rows.now.items c.args.place c.index_mut-row.result.now c.requires c.index_mut-row.ensures.value)
