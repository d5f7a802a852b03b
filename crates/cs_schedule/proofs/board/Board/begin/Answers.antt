use Rattle.std.proofs.Common.{rules}
use Rattle.cs_schedule.proofs.Growth.{begun_board}
use Rattle.cs_schedule.proofs.board.Board.begin.Goals as goal

pub returns-clause-of : goal.returns-clause-of
returns-clause-of c = begun_board c.args.window.now c.empty.result c.requires (search rules) c.empty.ensures.rows
