use Rattle.std.proofs.Common.{◌≡◌, ◌+◌, ap, refl, not, rules}
use Rattle.std.specs.Option.{option_map}
use Rattle.cs_wire.specs.Seen.{so_far}
use Rattle.cs_wire.proofs.Present.{step_took, step_stayed, quiet_on}
use Rattle.cs_wire.proofs.link.WireLink.step.Goals as goal

pub invariant_of-self : goal.invariant_of-self
invariant_of-self g c =
    let more : c.in-Some.number ≡ c.args.self.now.given + 1 = search rules in
    record {
      quiet = quiet_on c.args.self.now.lines c.in-Some-lines.lines c.step.new.self c.in-Some-lines.is (λ l. l.conn) g.D.C.Conn.same g.D.C.Conn.faults g.met.D.C.Conn.same_then _ c.step.ensures.object c.args.self.now.quiet;
      connected = λ r. refl;
      going = step_took (g.D.FeedDial.tells c.args.self.now.dial) c.args.self.now.reading (not c.is_closing.result) (g.D.FeedDial.answer c.args.self.now.dial) _ _ _ _ _ c.args.self.now.given c.in-Some.number c.in-Ok.step
          (ap (option_map so_far) c.in-Some-lines.is)
          c.in-Ok.ensures.answer c.in-Ok.ensures.head c.requires (ap not c.is_closing.ensures) more c.args.self.now.going;
    }

pub invariant_of-self-in-Err-1 : goal.invariant_of-self-in-Err-1
invariant_of-self-in-Err-1 g c =
    record {
      quiet = quiet_on c.args.self.now.lines c.in-Some-lines.lines c.step.new.self c.in-Some-lines.is (λ l. l.conn) g.D.C.Conn.same g.D.C.Conn.faults g.met.D.C.Conn.same_then _ c.step.ensures.object c.args.self.now.quiet;
      connected = λ r. refl;
      going = step_stayed (g.D.FeedDial.tells c.args.self.now.dial) c.args.self.now.reading (g.D.FeedDial.answer c.args.self.now.dial) _ _ _ _ _ c.args.self.now.given _ _ _ c.in-Err.answer
          (ap (option_map so_far) c.in-Some-lines.is)
          c.in-Err.ensures.answer c.in-Err.ensures.head c.args.self.now.going;
    }
