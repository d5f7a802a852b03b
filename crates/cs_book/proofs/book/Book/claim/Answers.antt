use Rattle.std.proofs.Common.{sym, subst}
use Rattle.cs_schedule.specs.Board.{IsOrdered}
use Rattle.cs_book.specs.Book.{IsSound}
use Rattle.cs_book.specs.Claim.{IsNext}
use Rattle.cs_book.proofs.Claims.{sound_next, board_next, no_orphan}
use Rattle.cs_book.proofs.Kept.{kept_some}
use Rattle.cs_book.proofs.book.Book.claim.Goals as goal

pub invariant_of-self-2 : goal.invariant_of-self-2
invariant_of-self-2 g c =
    let old = c.self.inside in
    let new = c.take_turn.new.board in
    let claim = c.in_ok-claim.claim in
    let next = c.in_ok-claim.ensures.next in
    let kept = board_next c.leases_are_no_entries.ensures.lease old.board new old.is_opening c.args.order claim next in (
      c.self.invariant.0,
      subst (IsSound new) (sym c.is_opening_after-self-inside.ensures) (sound_next old.board new old.is_opening c.args.order claim c.self.invariant.1 next),
      λ j o. kept_some (g.J.Disk.seen old.journal.disk) (g.O.Disk.seen old.output) old.board new old.marked kept.0 kept.1 (c.self.invariant.2 j o),
    )

pub returns-clause-exact : goal.returns-clause-exact
returns-clause-exact g c = subst (λ s. IsNext s.board c.take_turn.new.board s.is_opening c.args.order c.in_ok-claim.claim) c.self.view_is c.in_ok-claim.ensures.next

pub returns-clause-never_orphan : goal.returns-clause-never_orphan
returns-clause-never_orphan g c =
    no_orphan c.boards_stay_consistent.ensures.orphan c.args.self.now.board c.take_turn.new.board c.args.self.now.is_opening c.args.order c.in_ok-claim.claim
    (subst (λ s. IsOrdered s.board.rows) c.self.view_is c.rows-rows.ensures.ordered)
    (subst (λ s. IsNext s.board c.take_turn.new.board s.is_opening c.args.order c.in_ok-claim.claim) c.self.view_is c.in_ok-claim.ensures.next)
