use Rattle.std.proofs.Common.{◌∙◌, map, sym, subst}
use Rattle.cs_schedule.specs.Board.{has_ended}
use Rattle.cs_schedule.specs.Index.{AreSorted, free_key}
use Rattle.cs_schedule.proofs.Sorted.{slots_sorted}
use Rattle.cs_schedule.proofs.Turns.{turn_ready}
use Rattle.cs_schedule.proofs.ready.ready.Goals as goal

pub turn-requires : goal.turn-requires
turn-requires c = subst AreSorted (sym c.requires) (slots_sorted 0 (map (free_key (has_ended c.args.rows.now)) c.args.rows.now))

pub returns : goal.returns
returns c = c.turn.ensures ∙ turn_ready c.args.rows.now c.args.free.now c.args.order c.requires
