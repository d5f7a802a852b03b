use Rattle.std.proofs.Common.{◌<◌, length, arith}
use Rattle.cs_schedule.proofs.Turns.{first_turned}
use Rattle.cs_schedule.proofs.ready.turn.Goals as goal

pub returns-in-len1-up : goal.returns-in-len1-up
returns-in-len1-up c =
    let some : 0 < length c.args.free.now = omega (arith, c.in-len1-up.len_at_least) in
    first_turned c.args.free.now (record { key = 0; place = 0 }) c.args.order c.end_of-count.result c.requires some c.end_of-count.ensures.bound c.end_of-count.ensures.below c.end_of-count.ensures.over
