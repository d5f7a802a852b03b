use Rattle.std.proofs.Common.{◌≡◌, length}
use Rattle.std.specs.Io.KnownBytes.{Keeps}
use Rattle.cs_serve.specs.Sending.{Sends}
use Rattle.cs_serve.proofs.sending.send_lines.Given as goal

abbrev pub invariant-steps : goal.invariant-steps
invariant-steps g l = record {
  sends : Sends (g.C.Conn.written l.fn.conn) (g.C.Conn.written l.conn) l.held.items l.fn.taken l.taken;
  gone : Keeps (g.C.Conn.gone l.fn.conn) (g.C.Conn.gone l.conn);
  object : g.C.Conn.same l.fn.conn l.conn;
  kept : g.C.Conn.faults l.conn ≡ g.C.Conn.faults l.fn.conn;
}

abbrev pub decreases-steps : goal.decreases-steps
decreases-steps g l = length l.taken
