use Rattle.cs_connection.specs.Given.{GivenBack}
use Rattle.cs_serve.proofs.Many.{keeps_grows}
use Rattle.cs_serve.proofs.accepting.serve_next.Goals as goal

pub returns-clause-one : goal.returns-clause-one
returns-clause-one g c = λ silent.
    let conn = c.serve_one-served.new.conn in
    let given : GivenBack = record { gone = g.A.C.Conn.gone conn; left = g.A.C.Conn.left conn; written = g.A.C.Conn.written conn; faults = g.A.C.Conn.faults conn; served = c.serve_one-served.result } in
    let still = silent c.in_ok-conn.conn conn c.serve_one-served.ensures.object in
    record {
      given = given;
      grows = keeps_grows _ _ _ given c.accept.ensures.back c.done.ensures.back;
      right = c.serve_one-served.ensures.right c.in_ok-conn.ensures.untouched still.0 still.1;
    }
