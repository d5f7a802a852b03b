use Rattle.std.proofs.Common.{map, refl}
use Rattle.cs_schedule.specs.Consistent.{born, rowless}
use Rattle.cs_schedule.proofs.Carried.{map_unfinished, front_unfinished}
use Rattle.cs_schedule.proofs.update.born_of.Goals as goal

pub returns-clause-unfinished : goal.returns-clause-unfinished
returns-clause-unfinished c =
    front_unfinished c.loop-rest.new.items (map born (rowless c.args.rows.now c.loop-rest.rest.now)) (map born (rowless c.args.rows.now c.args.children.now)) c.loop-rest.invariant
    (map_unfinished born (rowless c.args.rows.now c.args.children.now) (λ b. refl))
