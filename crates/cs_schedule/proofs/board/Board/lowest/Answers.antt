use Rattle.std.proofs.Common.{◌∙◌, sym, ap}
use Rattle.cs_schedule.specs.Board.{Shown}
use Rattle.cs_schedule.proofs.board.Board.lowest.Goals as goal

pub returns : goal.returns
returns c = rw (sym (c.as_slice.ensures.value ∙ ap (λ (z : Shown). z.rows) c.self.view_is)) c.lowest.ensures
