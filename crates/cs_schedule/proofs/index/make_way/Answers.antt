use Rattle.std.proofs.Common.{List, subst, Contains}
use Rattle.cs_schedule.specs.declared.slots.Slot.{Slot}
use Rattle.cs_schedule.specs.Board.{has_ended}
use Rattle.cs_schedule.specs.Index.{open_key, free_key, wait_key}
use Rattle.cs_schedule.proofs.Indexed.{places_inside}
use Rattle.cs_schedule.proofs.index.make_way.Goals as goal

pub move_behind-requires : goal.move_behind-requires
move_behind-requires c = record { below = λ s i. places_inside open_key c.args.all.now s (subst (λ (z : List Slot). Contains z s) c.requires.by_through i) }

pub move_behind-requires-2 : goal.move_behind-requires-2
move_behind-requires-2 c = record { below = λ s i. places_inside (free_key (has_ended c.args.all.now)) c.args.all.now s (subst (λ (z : List Slot). Contains z s) c.requires.by_tries i) }

pub move_behind-requires-3 : goal.move_behind-requires-3
move_behind-requires-3 c = record { below = λ s i. places_inside (wait_key (has_ended c.args.all.now)) c.args.all.now s (subst (λ (z : List Slot). Contains z s) c.requires.by_parent i) }
