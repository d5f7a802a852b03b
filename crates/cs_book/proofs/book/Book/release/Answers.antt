use Rattle.cs_book.proofs.Claims.{not_out, untouched}
use Rattle.cs_book.proofs.book.Book.release.Goals as goal

pub returns-clause-back : goal.returns-clause-back
returns-clause-back g c =
    let old = c.args.self.now in
    let new = c.give_back.new.self in
    not_out old.board new.board old.is_opening new.is_opening c.args.lease.args.token c.give_back.ensures.rows c.give_back.ensures.is_opening

pub returns-clause-untouched : goal.returns-clause-untouched
returns-clause-untouched g c =
    let old = c.args.self.now in
    let new = c.give_back.new.self in
    untouched old.board new.board old.is_opening new.is_opening c.args.lease.args.token c.give_back.ensures.rows c.give_back.ensures.is_opening
