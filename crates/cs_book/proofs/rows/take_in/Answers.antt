use Rattle.cs_book.proofs.Committed.{taken_in}
use Rattle.cs_book.proofs.rows.take_in.Goals as goal

pub returns-clause-entries : goal.returns-clause-entries
returns-clause-entries c =
    taken_in c.boards_are_of_entries.ensures.folded c.args.board.now c.apply.new.self c.give_row_back.new.board c.args.plan c.requires c.apply.ensures.window c.apply.ensures.rows c.give_row_back.ensures.entries
