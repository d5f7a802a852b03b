use Rattle.cs_book.proofs.Kept.{kept_some, sound_given}
use Rattle.cs_book.proofs.book.Book.give_back.Goals as goal

pub invariant_of-self : goal.invariant_of-self
invariant_of-self g c =
    let old = c.self.inside in
    let new = c.give_row_back.new.board in
    let its = c.give_row_back.ensures in (
      c.self.invariant.0,
      sound_given old.board new old.is_opening c.is_still_opening-self-inside.result c.args.caught_up c.args.token.now c.is_still_opening-self-inside.ensures its.ordered.0 c.self.invariant.1 its.window its.rows,
      λ j o. kept_some (g.J.Disk.seen old.journal.disk) (g.O.Disk.seen old.output) old.board new old.marked its.window its.entries (c.self.invariant.2 j o),
    )
