use Rattle.std.proofs.Common.{◌≡◌, ◌-◌, length}
use Rattle.std.specs.Io.KnownBytes.{Keeps}
use Rattle.cs_serve.specs.Reading.{ReadsMore}
use Rattle.cs_serve.proofs.incoming.Incoming.read.Given as goal

-- what was read so far is held
abbrev pub invariant-pieces : goal.invariant-pieces
invariant-pieces g l =
    record {
      added : ReadsMore (g.C.Conn.gone l.fn.conn) (g.C.Conn.gone l.conn) l.fn.self.bytes.items l.self.bytes.items;
      written : Keeps (g.C.Conn.written l.fn.conn) (g.C.Conn.written l.conn);
      object : g.C.Conn.same l.fn.conn l.conn;
      kept : g.C.Conn.faults l.conn ≡ g.C.Conn.faults l.fn.conn;
    }

abbrev pub decreases-pieces : goal.decreases-pieces
decreases-pieces g l = 65536 - length l.self.bytes.items
