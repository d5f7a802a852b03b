-- The turns of a follower, one after another.
use Rattle.std.proofs.Common.{◌≡◌, ◌≢◌, ℕ, suc, ◌≤◌, ◌-◌, Bool, true, false, true≢false, List, Option, Some, refl, sym, ap, ◌∙◌, arith}
use Rattle.cs_types.specs.declared.names.Window.{Window}
use Rattle.cs_link.specs.declared.feed.Feed.{Feed}
use Rattle.cs_link.specs.declared.batch.Limits.{Limits}
use Rattle.cs_link.specs.Causes.{one_more}
use Rattle.cs_link.specs.Reading.{Read}
use Rattle.cs_schedule.specs.declared.entry.Entry.{Entry}
use Rattle.cs_schedule.specs.Board.{Shown}
use Rattle.cs_follow.specs.declared.outcome.Outcome.{Outcome}
use Rattle.cs_follow.specs.declared.turn.Turn.{Turn}
use Rattle.cs_follow.specs.declared.turn.Turn.TheVariants as turns
use Rattle.cs_follow.specs.Cause.{raised}
use Rattle.cs_follow.specs.Turn.{StaysTold, IsStopped, GoesOn}
use Rattle.cs_follow.proofs.Causes.{caught_from}

pub raised_next : (turns left count now next : ℕ) → 1 ≤ left → left ≤ turns → now ≡ raised (turns - left) count → next ≡ one_more now → next ≡ raised (turns - (left - 1)) count
raised_next turns left count now next some most is one =
    let step : turns - (left - 1) ≡ suc (turns - left) = omega (arith, some, most) in
    one ∙ ap one_more is ∙ sym (ap (λ n. raised n count) step)

pub raised_last : (turns left count now next : ℕ) → 1 ≤ left → left ≤ 1 → left ≤ turns → now ≡ raised (turns - left) count → next ≡ one_more now → next ≡ raised turns count
raised_last turns left count now next some last most is one =
    let step : turns ≡ suc (turns - left) = omega (arith, some, last, most) in
    one ∙ ap one_more is ∙ sym (ap (λ n. raised n count) step)

-- nothing was turned so far
pub raised_none : (turns count : ℕ) → count ≡ raised (turns - turns) count
raised_none turns count = let none : turns - turns ≡ 0 = omega arith in ap (λ n. raised n count) (sym none)

-- a follower that pauses
pub pauses : (w : Window) (limits : Limits) (since later : ℕ) (a b now : Option (Option Read)) (turns left count before_now count_now : ℕ) (rose : Type 0) (board after : Shown) (es : List Entry) → since ≤ later → StaysTold a b → 1 ≤ left → left ≤ 1 → left ≤ turns → before_now ≡ raised (turns - left) count
    → GoesOn w limits later b now before_now count_now board es after true → IsStopped w limits since a now turns count count_now rose es Outcome.Paused
pauses w limits since later a b now turns left count before_now count_now rose board after es early told some last most is G = record {
  board = after;
  window = G.afoot.window;
  of = G.afoot.board;
  ordered = G.afoot.ordered;
  free = G.afoot.free;
  cause = (raised_last turns left count before_now count_now some last most is (G.one refl), caught_from since later a b now early told w limits (G.caught refl));
}

pub same_feed : (f g : Feed) (told told_now : Option Feed) → told ≡ Some f → told_now ≡ told → told_now ≡ Some g → g ≡ f
same_feed f g told told_now tells same now = let e : Some g ≡ Some f = sym now ∙ same ∙ tells in cc

-- a turn that does not stop
abbrev stops : Turn → Bool
stops (turns.Stops outcome) = true
stops turns.CaughtUp = false
stops turns.On = false

pub caught_differs : (t : Turn) → t ≡ turns.CaughtUp → t ≢ turns.Stops Outcome.LinkFault
caught_differs t is e = true≢false (sym (ap stops e) ∙ ap stops is)

pub on_differs : (t : Turn) → t ≡ turns.On → t ≢ turns.Stops Outcome.LinkFault
on_differs t is e = true≢false (sym (ap stops e) ∙ ap stops is)
