use Rattle.std.proofs.Common.{◌≡◌, ◌≤◌, ◌-◌}
use Rattle.cs_serve.specs.Accepted.{moment_at, GivesAll}
use Rattle.cs_serve.specs.Served.{StaysSilent}
use Rattle.cs_serve.proofs.accepting.serve_some.Given as goal

abbrev pub invariant-connections : goal.invariant-connections
invariant-connections g l = record {
  all : ((x y : g.row.A-C.Denot) → g.A.C.Conn.same x y → StaysSilent (g.A.C.Conn.gone x) (g.A.C.Conn.gone y) × StaysSilent (g.A.C.Conn.written x) (g.A.C.Conn.written y)) → GivesAll l.fn.state l.fn.moment l.fn.step_us l.number (g.A.Accept.back l.fn.accept) (g.A.Accept.back l.accept);
  at_is : l.at ≡ moment_at l.fn.moment l.fn.step_us l.number;
  few : l.number ≤ l.fn.count;
  out : g.A.Accept.out l.accept ≡ g.A.Accept.out l.fn.accept;
  object : g.A.Accept.same l.fn.accept l.accept;
  kept : g.A.Accept.faults l.accept ≡ g.A.Accept.faults l.fn.accept;
}

abbrev pub decreases-connections : goal.decreases-connections
decreases-connections g l = l.fn.count - l.number
