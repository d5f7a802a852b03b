use Rattle.std.proofs.Common.{length}
use Rattle.cs_journal.proofs.Ahead.{given}
use Rattle.cs_journal.proofs.window.read_through.Goals as goal

pub returns-then-holds-clause-bytes : goal.returns-then-holds-clause-bytes
returns-then-holds-clause-bytes g c =
    let fits = c.holds.ensures c.if-holds.true in
    given (g.J.Disk.seen c.args.disk.now) c.args.window.now.at c.args.at (length c.args.into.now) c.args.window.now.held c.give.new.into c.requires.window fits.0 fits.1 c.give.ensures
