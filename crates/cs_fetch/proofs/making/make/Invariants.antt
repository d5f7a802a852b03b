use Rattle.std.proofs.Common.{◌≡◌, ℕ, List, ◌≤◌, true}
use Rattle.cs_link.specs.Honest.{IsHonestFor}
use Rattle.cs_fetch.specs.Made.{HasAsked}
use Rattle.cs_fetch.proofs.Looping.{IsKept}
use Rattle.cs_fetch.proofs.making.make.Given as goal

abbrev pub invariant-steps : goal.invariant-steps
invariant-steps g l = record {
  kept : IsKept l.args l.known l.limits (g.K.Link.moment l.fn.link) (g.K.Link.present l.fn.link) (g.K.Link.present l.link) l.so_far l.tally l.counter;
  reads : HasAsked (g.K.Link.reads l.fn.link) (g.K.Link.reads l.link) l.args;
  reading : g.K.Link.is_reading l.link ≡ true;
  faults : g.K.Link.faults l.link ≡ g.K.Link.faults l.fn.link;
  caught_up : g.K.Link.caught_up l.link ≡ g.K.Link.caught_up l.fn.link;
  moment : g.K.Link.moment l.fn.link ≤ g.K.Link.moment l.link;
  feed : (stream : List ℕ) → g.K.Link.feed l.link stream ≡ g.K.Link.feed l.fn.link stream;
  object : g.K.Link.same l.fn.link l.link;
  honest : (stream : List ℕ) → IsHonestFor stream (g.K.Link.feed l.fn.link stream) (g.K.Link.present l.fn.link) → IsHonestFor stream (g.K.Link.feed l.link stream) (g.K.Link.present l.link);
  paced : g.K.Link.paced l.fn.link → g.K.Link.paced l.link;
}
