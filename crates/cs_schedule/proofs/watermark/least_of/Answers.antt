use Rattle.std.proofs.Common.{◌<◌, length, arith}
use Rattle.cs_schedule.specs.Index.{keys}
use Rattle.cs_schedule.proofs.Turns.{key_first, keys_length}
use Rattle.cs_schedule.proofs.Unfinished.{least_head}
use Rattle.cs_schedule.proofs.watermark.least_of.Goals as goal

pub returns-in-len1-up : goal.returns-in-len1-up
returns-in-len1-up c =
    let some : 0 < length c.args.opens.now = omega (arith, c.in-len1-up.len_at_least) in
    let keyed : 0 < length (keys c.args.opens.now) = omega (arith, some, keys_length c.args.opens.now) in
    omega (arith, least_head c.args.end (keys c.args.opens.now) c.requires keyed, key_first c.args.opens.now (record { key = 0; place = 0 }) 0 some, c.min.ensures, c.us-in-len1-up.ensures.value)
