-- What a follower carries on over an honest link whose heartbeats are paced: its journal has room for all that is expected, and the least start of its READs does not fall. This project's own.
use Rattle.std.specs.Prelude.{◌≡◌, ◌≤◌, ◌+◌, ℕ, List, Option, Some}
use Rattle.cs_types.specs.declared.names.Window.{Window}
use Rattle.cs_link.specs.declared.feed.Feed.{Feed}
use Rattle.cs_link.specs.Honest.{IsHonestFor}
use Rattle.cs_link.specs.Reading.{Read}
use Rattle.cs_journal.specs.Rows.{limit}
use Rattle.cs_schedule.specs.declared.entry.Entry.{Entry}
use Rattle.cs_schedule.specs.Follows.{IsFollowed}
use Rattle.cs_schedule.specs.Rows.{rows_of}
use Rattle.cs_room.specs.Room.{expected_of, low}
use Rattle.cs_book.specs.Book.{BookState, AreEntriesOf}
use Rattle.cs_follow.specs.Own.{AreFollowing}

-- the link is honest for the stream of the window, whose feed it tells, its heartbeats are paced, and its moment is not before the window's end; the entries follow the feed, and what is expected behind them fits in behind the closed gate
pub record CanCarry (f : Feed) (w : Window) (since : ℕ) (told : Option Feed) (present : Option (Option Read)) (paced : Type 0) (gate : ℕ) (es : List Entry) : Type 0 where
  pub followed : IsFollowed f w
  pub tells : told ≡ Some f
  pub honest : IsHonestFor w.stream told present
  pub at_pace : paced
  pub moment : w.end ≤ since
  pub following : AreFollowing f w es
  pub fits : gate + expected_of f w es ≤ limit

-- the entries of the book still follow the feed, what is expected behind them fits in, and the least start is not below that of these entries
pub record IsCarrying {J O : Type 0} (seen : J → Option (List ℕ)) (text : O → Option (List ℕ)) (f : Feed) (w : Window) (b : BookState J O) (es : List Entry) : Type 0 where
  pub now : List Entry
  pub entries : AreEntriesOf seen text b now
  pub following : AreFollowing f w now
  pub fits : b.journal.gate + expected_of f w now ≤ limit
  pub least : low w (rows_of w.start es) ≤ low w (rows_of w.start now)
