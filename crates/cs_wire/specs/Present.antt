-- The present READ of a link.
use Rattle.std.specs.Prelude.{Option}
use Rattle.std.specs.Option.{option_map}
use Rattle.cs_link.specs.Reading.{Read}
use Rattle.cs_connection.specs.declared.conn.Conn.{Ghosts as ConnGhosts}
use Rattle.cs_connection.specs.declared.dial.Dial.{Ghosts as DialGhosts}
use Rattle.cs_wire.specs.declared.feed_dial.FeedDial.{Ghosts as FeedGhosts}
use Rattle.cs_wire.specs.declared.link.WireLink.{WireLink}
use Rattle.cs_wire.specs.Seen.{so_far}
use Rattle.cs_wire.specs.Told.{present_told}

-- the present READ of a link, where it tells it
abbrev pub present_of : {D C : Type 0} {F : FeedGhosts D C} {K : DialGhosts D C} {L : ConnGhosts C} → WireLink D C F K L → Option (Option Read)
present_of {D} {C} {F} {K} {L} w =
    present_told (F.tells w.dial) (F.moment w.dial) (option_map (λ a. record { args = a.args.value; opened = a.opened.value }) w.asked) (option_map so_far w.lines) (option_map (λ s. s.value) w.stopped)
