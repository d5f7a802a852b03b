use Rattle.std.proofs.Common.{rules, ◌≡◌, false, arith}
use Rattle.cs_schedule.specs.Index.{keys}
use Rattle.cs_schedule.proofs.Unfinished.{least_moves}
use Rattle.cs_schedule.proofs.watermark.least_moved.Goals as goal

pub returns : goal.returns
returns c =
    let going : c.args.row.now.finished ≡ false = search rules in
    let on : c.args.moved.now.finished ≡ false = search rules in
    omega (arith, least_moves c.args.end c.args.row.now c.args.moved.now (keys c.args.opens.now) going on, c.min.ensures, c.least_without-least.ensures)
