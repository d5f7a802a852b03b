use Rattle.std.proofs.Common.{◌∙◌}
use Rattle.cs_book.proofs.Planned.{mark_after}
use Rattle.cs_book.proofs.planning.mark_with.Goals as goal

pub returns-clause-low : goal.returns-clause-low
returns-clause-low c = λ es e of is.
    c.mark_after.ensures ∙ mark_after c.boards_are_of_entries.ensures.folded c.boards_are_of_entries.ensures.mark c.args.board.now c.args.plan.now c.requires es e of is
