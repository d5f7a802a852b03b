use Rattle.std.proofs.Common.{ap, length, arith}
use Rattle.cs_schedule.specs.Board.{has_ended}
use Rattle.cs_schedule.specs.Index.{open_key, free_key, wait_key}
use Rattle.cs_schedule.proofs.Indexed.{at_most}
use Rattle.cs_schedule.proofs.put.move_all.Goals as goal

pub move_to-requires-2-clause-room : goal.move_to-requires-2-clause-room
move_to-requires-2-clause-room c = let l = at_most open_key c.args.rows.now.items in omega (arith, l, ap length c.requires.index.by_through, c.requires.room)

pub move_to-requires-3-clause-room : goal.move_to-requires-3-clause-room
move_to-requires-3-clause-room c = let l = at_most (free_key (has_ended c.args.rows.now.items)) c.args.rows.now.items in omega (arith, l, ap length c.requires.index.by_tries, c.requires.room)

pub move_to-requires-4-clause-room : goal.move_to-requires-4-clause-room
move_to-requires-4-clause-room c = let l = at_most (wait_key (has_ended c.args.rows.now.items)) c.args.rows.now.items in omega (arith, l, ap length c.requires.index.by_parent, c.requires.room)
