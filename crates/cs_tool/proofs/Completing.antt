-- From a follower that only ends to what a replay answers.
use Rattle.std.proofs.Common.{◌≡◌, ◌⊎◌, inl, inr, ⊎_elim, ℕ, ◌+◌, ◌-◌, ◌≤◌, List, [], ◌∷◌, length, map, Option, Some, None, Ok, Err, refl, sym, ap, ◌∙◌, subst, arith}
use Rattle.std.specs.Prelude.{IfSome, ⊤}
use Rattle.cs_types.specs.declared.names.Window.{Window}
use Rattle.cs_link.specs.Causes.{Rose}
use Rattle.cs_link.specs.declared.feed.Feed.{Feed}
use Rattle.cs_link.specs.Honest.{IsHonestFor}
use Rattle.cs_link.specs.Pace.{IsPacedPresent}
use Rattle.cs_link.specs.Reading.{Read}
use Rattle.cs_journal.specs.Rows.{limit}
use Rattle.cs_schedule.specs.declared.entry.Entry.{Entry}
use Rattle.cs_schedule.specs.declared.row.Row.{Row}
use Rattle.cs_schedule.specs.Board.{Shown}
use Rattle.cs_schedule.specs.Follows.{IsFollowed, IsBoardOf}
use Rattle.cs_schedule.specs.Rows.{rows_of}
use Rattle.cs_room.specs.Laws.{RoomIsEnough, LowIsOfEntries}
use Rattle.cs_room.specs.Room.{room, low, expected_of}
use Rattle.cs_script.specs.Database.{Database}
use Rattle.cs_server.specs.State.{LinkState, present_of}
use Rattle.cs_server.specs.Typed.{feed_told}
use Rattle.cs_follow.specs.Carry.{CanCarry}
use Rattle.cs_follow.specs.Complete.{CanEnd, OnlyEnds}
use Rattle.cs_follow.specs.declared.outcome.Outcome.{Outcome}
use Rattle.cs_follow.specs.Own.{AreFollowing}
use Rattle.cs_tool.specs.Complete.{CanGoOn, OnlyEndsBy}
use Rattle.cs_tool.specs.Following.{IsSaidOf}
use Rattle.cs_tool.specs.declared.status.Status.{Status}
use Rattle.cs_tool.proofs.Followed.{present_moment, not_rose}

-- ---- a follower

-- how an outcome that only ends is said
pub ends_by : (rosej roseo : Type 0) (o : Outcome) (status : Status) → IsSaidOf o status → OnlyEnds (Rose 0 0) rosej roseo o → OnlyEndsBy rosej roseo status
ends_by rosej roseo Outcome.Ended status e h = subst (OnlyEndsBy rosej roseo) (sym e) tt
ends_by rosej roseo Outcome.Paused status e h = absurd h
ends_by rosej roseo (Outcome.RetentionPassed earliest) status e h = absurd h
ends_by rosej roseo (Outcome.Refused refusal) status e h = absurd h
ends_by rosej roseo Outcome.LinkFault status e h = absurd (not_rose h)
ends_by rosej roseo (Outcome.Breach breach) status e h = absurd h
ends_by rosej roseo (Outcome.Stalled token count) status e h = absurd h
ends_by rosej roseo Outcome.JournalFault status e h = subst (OnlyEndsBy rosej roseo) (sym e) h
ends_by rosej roseo Outcome.OutputFault status e h = subst (OnlyEndsBy rosej roseo) (sym e) h
ends_by rosej roseo (Outcome.Full length) status e h = absurd h
ends_by rosej roseo Outcome.Memory status e h = subst (OnlyEndsBy rosej roseo) (sym e) tt

-- a follower over a new link at the moment, whose link is the second one as it stops
pub can_end : (f : Feed) (b : Shown) (moment gate : ℕ) (es : List Entry) (first last : LinkState)
    → IsFollowed f b.window → feed_told first.database b.window.stream ≡ Some f → IsHonestFor b.window.stream (feed_told first.database b.window.stream) (Some (present_of first)) → IsPacedPresent (Some (present_of first))
    → first.moment ≡ moment → last.moment ≡ moment → RoomIsEnough → LowIsOfEntries → IsBoardOf es b → CanGoOn f b.window moment gate es
    → CanEnd f b.window first.moment (feed_told first.database b.window.stream) (Some (present_of first)) (Some (present_of last)) (IsPacedPresent (Some (present_of first))) gate b.rows es
can_end f b moment gate es first last followed tells honest paced at at_last enough of board C =
    let most : expected_of f b.window es ≤ room f b.window = enough f b.window es followed C.following.consistent in
    let fits : gate + room f b.window ≤ limit = C.fits in
    let late : b.window.end ≤ moment = C.late in
    let same : low b.window b.rows ≡ low b.window (rows_of b.window.start es) = of es b board in
    record {
      carries = record { followed = followed; tells = tells; honest = honest; at_pace = paced; moment = subst (λ n. b.window.end ≤ n) (sym at) late; following = C.following; fits = omega (arith, most, fits) };
      timely = λ read now. let m : read.moment ≡ last.moment = present_moment last read now in omega (arith, m, at, at_last);
      kept = λ read now.
          let m : read.moment ≡ moment = present_moment last read now ∙ at_last in
          subst (λ n. read.moment - f.retention_us ≤ n) (sym same) (subst (λ n. n - f.retention_us ≤ low b.window (rows_of b.window.start es)) (sym m) C.kept);
    }
