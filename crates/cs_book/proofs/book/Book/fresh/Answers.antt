use Rattle.std.proofs.Common.{sym, subst}
use Rattle.cs_book.specs.Book.{AreEntriesOf}
use Rattle.cs_book.proofs.Claims.{sound_fresh}
use Rattle.cs_book.proofs.Kept.{kept_of, kept_some, fresh_is}
use Rattle.cs_book.proofs.book.Book.fresh.Goals as goal

pub invariant_of-self : goal.invariant_of-self
invariant_of-self g c =
    let old = c.self.inside in
    let new = c.fresh.new.self in
    let is = fresh_is old.board new c.fresh.ensures in (
      c.self.invariant.0,
      sound_fresh old.board new old.is_opening c.self.invariant.1 is.0 is.1,
      λ j o. kept_some (g.J.Disk.seen old.journal.disk) (g.O.Disk.seen old.output) old.board new old.marked is.0 (λ es. c.leases_are_no_entries.ensures.fresh es old.board new is.0 is.1) (c.self.invariant.2 j o),
    )

pub returns-clause-entries : goal.returns-clause-entries
returns-clause-entries g c es has =
    let old = c.self.inside in
    let new = c.fresh.new.self in
    let is = fresh_is old.board new c.fresh.ensures in
    kept_of (g.J.Disk.seen old.journal.disk) (g.O.Disk.seen old.output) old.board new old.marked es is.0 (c.leases_are_no_entries.ensures.fresh es old.board new is.0 is.1) (subst (λ b. AreEntriesOf g.J.Disk.seen g.O.Disk.seen b es) (sym c.self.view_is) has)
