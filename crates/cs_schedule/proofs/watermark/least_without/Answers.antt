use Rattle.std.proofs.Common.{◌≡◌, ◌<◌, length, get_or, arith}
use Rattle.cs_schedule.specs.Index.{keys}
use Rattle.cs_schedule.proofs.Turns.{key_first, keys_length}
use Rattle.cs_schedule.proofs.Unfinished.{least_out}
use Rattle.cs_schedule.proofs.watermark.least_without.Goals as goal

pub returns-else-first-moment : goal.returns-else-first-moment
returns-else-first-moment c =
    let some : 0 < length c.args.opens.now = omega (arith, c.in-len1-up.len_at_least) in
    let keyed : 0 < length (keys c.args.opens.now) = omega (arith, some, keys_length c.args.opens.now) in
    let first = key_first c.args.opens.now (record { key = 0; place = 0 }) 0 some in
    let other : get_or (keys c.args.opens.now) 0 0 ≡ c.args.moment → ⊥ = λ e. c.if-first-moment.false (omega (arith, e, first)) in
    omega (arith, least_out c.args.end c.args.moment (keys c.args.opens.now) c.requires keyed other, first, c.min.ensures, c.us-in-len1-up.ensures.value)
