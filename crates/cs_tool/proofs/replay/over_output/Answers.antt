use Rattle.std.proofs.Common.{rules, subst}
use Rattle.cs_tool.specs.Complete.{OnlyEndsIn}
use Rattle.cs_tool.specs.Journal.{files}
use Rattle.cs_tool.proofs.replay.over_output.Goals as goal

pub returns-clause-complete : goal.returns-clause-complete
returns-clause-complete g c = λ f is C.
    let old = files (g.J.Disk.seen c.args.journal) (g.J.Disk.crash c.args.journal) (g.J.Disk.faults c.args.journal) (g.O.Disk.seen c.args.output.now) (g.O.Disk.crash c.args.output.now) (g.O.Disk.faults c.args.output.now) in
    let journal = c.over_files-status.result.1 in
    subst (λ d. OnlyEndsIn old (files (g.J.Disk.seen journal) (g.J.Disk.crash journal) (g.J.Disk.faults journal) (g.O.Disk.seen d) (g.O.Disk.crash d) (g.O.Disk.faults d)) c.over_files-status.result.0) (search rules) (c.over_files-status.ensures.complete f is C)
