use Rattle.std.proofs.Common.{rules, subst}
use Rattle.cs_device.specs.Crash.{CrashesLeave}
use Rattle.cs_book.specs.Entries.{HoldsSuch}
use Rattle.cs_tool.specs.Complete.{OnlyEndsIn}
use Rattle.cs_tool.specs.Journal.{files, GoesOnFrom}
use Rattle.cs_tool.proofs.replay.go_on.Goals as goal

pub returns-clause-survives : goal.returns-clause-survives
returns-clause-survives g c = λ f is L. subst (λ d. CrashesLeave (HoldsSuch (GoesOnFrom f c.args.window.now (g.J.Disk.crash c.args.journal.now))) (g.J.Disk.crash c.args.journal.now) (g.J.Disk.crash d)) (search rules) (c.over_output-status.ensures.survives f is L)

pub returns-clause-complete : goal.returns-clause-complete
returns-clause-complete g c = λ f is C.
    let old = files (g.J.Disk.seen c.args.journal.now) (g.J.Disk.crash c.args.journal.now) (g.J.Disk.faults c.args.journal.now) (g.O.Disk.seen c.args.output.now) (g.O.Disk.crash c.args.output.now) (g.O.Disk.faults c.args.output.now) in
    let output = c.over_output-status.new.output in
    subst (λ d. OnlyEndsIn old (files (g.J.Disk.seen d) (g.J.Disk.crash d) (g.J.Disk.faults d) (g.O.Disk.seen output) (g.O.Disk.crash output) (g.O.Disk.faults output)) c.over_output-status.result.0) (search rules) (c.over_output-status.ensures.complete f is C)
