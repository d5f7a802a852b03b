use Rattle.std.proofs.Common.{arith}
use Rattle.cs_connection.specs.Accepting.{IsNew}
use Rattle.cs_connection.proofs.Queues.{first-has, others-have, one-fewer}
use Rattle.cs_connection.proofs.mem_accept.MemAcceptAccept.accept.Goals as goal

pub invariant_of-self-2 : goal.invariant_of-self-2
invariant_of-self-2 c =
    let fewer = one-fewer _ _ _ c.in_ok-conn.ensures.given in
    (others-have IsNew _ _ _ c.in_ok-conn.ensures.given c.self.invariant.0, omega (arith, fewer, c.self.invariant.1))

pub returns-clause-untouched : goal.returns-clause-untouched
returns-clause-untouched c = first-has IsNew _ _ _ c.in_ok-conn.ensures.given c.self.invariant.0
