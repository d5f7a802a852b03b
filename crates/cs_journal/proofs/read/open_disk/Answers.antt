use Rattle.cs_journal.proofs.Devices.{quiet_both}
use Rattle.cs_journal.proofs.Opened.{mended}
use Rattle.cs_journal.proofs.Walk.{keeps_both}
use Rattle.cs_journal.proofs.read.open_disk.Goals as goal

pub returns-in_err-mend-clause-any_moment : goal.returns-in_err-mend-clause-any_moment
returns-in_err-mend-clause-any_moment g c =
    let quiet = quiet_both (g.J.Disk.crash c.args.disk.now) (g.J.Disk.crash c.sync_len.new.disk) (g.J.Disk.crash c.read_entries.new.disk) c.sync_len.ensures.quiet c.read_entries.ensures.quiet in
    let keeps = keeps_both (g.J.Disk.seen c.args.disk.now) (g.J.Disk.seen c.sync_len.new.disk) (g.J.Disk.seen c.read_entries.new.disk) c.sync_len.ensures.kept c.read_entries.ensures.kept in
    mended (g.J.Disk.seen c.args.disk.now) (g.J.Disk.seen c.read_entries.new.disk) (g.J.Disk.crash c.args.disk.now) (g.J.Disk.crash c.read_entries.new.disk) (g.J.Disk.crash c.mend.new.disk) keeps (g.met.J.Disk.reads_image c.read_entries.new.disk) quiet c.mend.ensures.any_moment

pub returns-clause-any_moment : goal.returns-clause-any_moment
returns-clause-any_moment g c =
    let quiet = quiet_both (g.J.Disk.crash c.args.disk.now) (g.J.Disk.crash c.sync_len.new.disk) (g.J.Disk.crash c.read_entries.new.disk) c.sync_len.ensures.quiet c.read_entries.ensures.quiet in
    let keeps = keeps_both (g.J.Disk.seen c.args.disk.now) (g.J.Disk.seen c.sync_len.new.disk) (g.J.Disk.seen c.read_entries.new.disk) c.sync_len.ensures.kept c.read_entries.ensures.kept in
    mended (g.J.Disk.seen c.args.disk.now) (g.J.Disk.seen c.read_entries.new.disk) (g.J.Disk.crash c.args.disk.now) (g.J.Disk.crash c.read_entries.new.disk) (g.J.Disk.crash c.mend.new.disk) keeps (g.met.J.Disk.reads_image c.read_entries.new.disk) quiet c.mend.ensures.any_moment
