use Rattle.std.proofs.Common.{sym}
use Rattle.cs_schedule.proofs.Updating.{none_moves, one_moves}
use Rattle.cs_schedule.proofs.update.moved_by.Goals as goal

pub returns-in_default-clause-rows : goal.returns-in_default-clause-rows
returns-in_default-clause-rows c = sym (none_moves c.args.token.now c.args.through c.args.changes.now c.args.finished c.args.rows.now 0 (sym c.in_default.ensures.place))

pub returns-clause-rows : goal.returns-clause-rows
returns-clause-rows c =
    rw (c.in_ok-seen.ensures)
    (one_moves c.args.token.now c.args.through c.args.changes.now c.args.finished c.args.rows.now c.in-Some.place c.index-rows-place.result c.requires c.in-Some.ensures.place c.index-rows-place.is)
