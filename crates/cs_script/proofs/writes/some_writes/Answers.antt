use Rattle.std.proofs.Common.{◌<◌, length, subst, arith}
use Rattle.cs_script.specs.Readings.{Gives}
use Rattle.cs_script.proofs.Lists.{some_are}
use Rattle.cs_script.proofs.writes.some_writes.Goals as goal

pub returns : goal.returns
returns c =
    let more : 0 < length c.args.trees.now = grind arith in
    subst (λ r. Gives c.each_write.result r) (some_are c.args.tables.now c.args.trees.now more) c.each_write.ensures
