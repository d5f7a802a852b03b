use Rattle.std.proofs.Common.{rules}
use Rattle.std.specs.Io.KnownBytes.{Appends, Keeps}
use Rattle.cs_http.specs.Request.{request_text}
use Rattle.cs_wire.proofs.Asking.{fresh_of}
use Rattle.cs_wire.proofs.begin.ask.Goals as goal

pub returns-clause-fresh : goal.returns-clause-fresh
returns-clause-fresh g c =
    λ t.
    let sent : Appends (g.D.C.Conn.written c.in-Ok.conn) (g.D.C.Conn.written c.new.result.conn) (request_text c.args.args.now) = search rules in
    let kept : Keeps (g.D.C.Conn.gone c.in-Ok.conn) (g.D.C.Conn.gone c.new.result.conn) = search rules in
    let same : g.D.C.Conn.same c.in-Ok.conn c.new.result.conn = search rules in
    fresh_of (g.D.FeedDial.answer c.dial.new.self) _ _ (g.D.C.Conn.left c.in-Ok.conn) _ _ _ (request_text c.args.args.now) c.in-Ok.ensures.untouched (g.met.D.FeedDial.answers c.dial.new.self c.in-Ok.conn c.in-Ok.conn t c.in-Ok.ensures.given (g.met.D.C.Conn.same_now c.in-Ok.conn)) kept sent (g.met.D.FeedDial.answers c.dial.new.self c.in-Ok.conn c.new.result.conn t c.in-Ok.ensures.given same)
