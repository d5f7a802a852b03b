use Rattle.cs_journal.proofs.Devices.{durable_still, cut_once}
use Rattle.cs_journal.proofs.device.cut_synced.Goals as goal

pub returns-clause-durable : goal.returns-clause-durable
returns-clause-durable g c = durable_still (g.J.Disk.seen c.cut.new.self) (g.J.Disk.seen c.sync.new.self) (g.J.Disk.crash c.sync.new.self) c.sync.result (g.met.J.Disk.silent c.cut.new.self c.sync.new.self c.sync.ensures.object) c.sync.ensures.kept c.sync.ensures.durable

pub returns-clause-any_moment : goal.returns-clause-any_moment
returns-clause-any_moment g c = cut_once c.args.to _ _ _ c.cut.ensures.crash c.sync.ensures.crash
