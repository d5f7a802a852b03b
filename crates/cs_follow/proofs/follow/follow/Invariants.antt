use Rattle.std.proofs.Common.{◌≡◌, ℕ, List, ◌≤◌, ◌+◌, ◌-◌, map}
use Rattle.cs_link.specs.declared.feed.Feed.{Feed}
use Rattle.cs_link.specs.Honest.{IsHonestFor}
use Rattle.cs_schedule.specs.declared.entry.Entry.{Entry}
use Rattle.cs_schedule.specs.Board.{fresh}
use Rattle.cs_book.specs.Book.{AreEntriesOf, StillTells}
use Rattle.cs_follow.specs.Carry.{CanCarry, IsCarrying}
use Rattle.cs_follow.specs.Cause.{raised}
use Rattle.cs_follow.specs.Left.{left_of}
use Rattle.cs_follow.specs.Pauses.{IsGettingOn, OverHonest}
use Rattle.cs_follow.specs.Reads.{HasRead, StartsAtRow, NotBack}
use Rattle.cs_follow.specs.Turn.{IsIdle, StaysTold, HasReached}
use Rattle.cs_follow.proofs.follow.follow.Given as goal

abbrev pub invariant-turns : goal.invariant-turns
invariant-turns g l = record {
  told : StaysTold (g.K.Link.present l.fn.link) (g.K.Link.present l.link);
  count : g.K.Link.caught_up l.link ≡ raised (l.fn.pace.turns - l.left) (g.K.Link.caught_up l.fn.link);
  some : 1 ≤ l.left;
  most : l.left ≤ l.fn.pace.turns;
  idle : IsIdle l.book;
  window : l.book.board.window ≡ l.fn.book.board.window;
  journal_object : g.J.Disk.same l.fn.book.journal.disk l.book.journal.disk;
  output_object : g.O.Disk.same l.fn.book.output l.book.output;
  journal_later : g.J.Disk.faults l.fn.book.journal.disk ≤ g.J.Disk.faults l.book.journal.disk;
  output_later : g.O.Disk.faults l.fn.book.output ≤ g.O.Disk.faults l.book.output;
  journal_still : StillTells (g.J.Disk.seen l.fn.book.journal.disk) (g.J.Disk.seen l.book.journal.disk);
  output_still : StillTells (g.O.Disk.seen l.fn.book.output) (g.O.Disk.seen l.book.output);
  faults : g.K.Link.faults l.link ≡ g.K.Link.faults l.fn.link;
  moment : g.K.Link.moment l.fn.link ≤ g.K.Link.moment l.link;
  feed : (stream : List ℕ) → g.K.Link.feed l.link stream ≡ g.K.Link.feed l.fn.link stream;
  object : g.K.Link.same l.fn.link l.link;
  honest : (stream : List ℕ) → IsHonestFor stream (g.K.Link.feed l.fn.link stream) (g.K.Link.present l.fn.link) → IsHonestFor stream (g.K.Link.feed l.link stream) (g.K.Link.present l.link);
  paced : g.K.Link.paced l.fn.link → g.K.Link.paced l.link;
  rows : NotBack l.fn.book.board.rows (map fresh l.book.board.rows);
  reads : HasRead (g.K.Link.reads l.fn.link) (g.K.Link.reads l.link) (StartsAtRow l.fn.book.board.rows);
  getting_on : OverHonest g.J.Disk.seen g.O.Disk.seen l.fn.book.board.window (g.K.Link.feed l.fn.link l.fn.book.board.window.stream) (g.K.Link.present l.fn.link) l.fn.book (IsGettingOn (g.K.Link.moment l.fn.link) (l.fn.pace.turns - l.left) l.book.board.rows);
  reached : (es : List Entry) → AreEntriesOf g.J.Disk.seen g.O.Disk.seen l.fn.book es → HasReached g.J.Disk.seen g.O.Disk.seen g.J.Disk.crash (g.K.Link.feed l.fn.link l.fn.book.board.window.stream) (g.K.Link.present l.fn.link) l.fn.book l.book es;
  carried : (f : Feed) (es : List Entry) → AreEntriesOf g.J.Disk.seen g.O.Disk.seen l.fn.book es → CanCarry f l.fn.book.board.window (g.K.Link.moment l.fn.link) (g.K.Link.feed l.fn.link l.fn.book.board.window.stream) (g.K.Link.present l.fn.link) (g.K.Link.paced l.fn.link) l.fn.book.journal.gate es → IsCarrying g.J.Disk.seen g.O.Disk.seen f l.fn.book.board.window l.book es;
}

-- what may still be added, and the pauses that are left
abbrev pub decreases-turns : goal.decreases-turns
decreases-turns g l = left_of l.fn.book.board.window.end (map fresh l.book.board.rows) + l.left
