use Rattle.cs_schedule.specs.Update.{moved}
use Rattle.cs_schedule.proofs.Changed.{set_at}
use Rattle.cs_schedule.proofs.turn.move_row.Goals as goal

pub returns-clause-rows : goal.returns-clause-rows
returns-clause-rows c = rw (c.either-row.ensures) (set_at (moved c.args.moved) c.args.rows.now.items c.args.moved.place c.index_mut-row.result.now c.requires c.index_mut-row.ensures.value)
