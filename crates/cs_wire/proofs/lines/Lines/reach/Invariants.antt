use Rattle.std.proofs.Common.{◌≡◌, ◌≤◌, ◌-◌, length, take}
use Rattle.std.specs.Io.KnownBytes.{Keeps}
use Rattle.cs_wire.specs.Held.{ReadsMore}
use Rattle.cs_types.specs.Texts.{HasNoEnd}
use Rattle.cs_wire.proofs.lines.Lines.reach.Given as goal

-- no line ends among the bytes seen, and what was read so far is held
abbrev pub invariant-pieces : goal.invariant-pieces
invariant-pieces g l =
    record {
      within : l.seen ≤ length l.self.held.items;
      none : HasNoEnd (take l.seen l.self.held.items);
      added : ReadsMore (g.C.Conn.gone l.fn.self.conn) (g.C.Conn.gone l.self.conn) (g.C.Conn.left l.fn.self.conn) (g.C.Conn.left l.self.conn) l.fn.self.held.items l.self.held.items;
      head : l.self.head ≡ l.fn.self.head;
      written : Keeps (g.C.Conn.written l.fn.self.conn) (g.C.Conn.written l.self.conn);
      object : g.C.Conn.same l.fn.self.conn l.self.conn;
      kept : g.C.Conn.faults l.self.conn ≡ g.C.Conn.faults l.fn.self.conn;
    }

abbrev pub decreases-pieces : goal.decreases-pieces
decreases-pieces g l = 8392704 - length l.self.held.items
