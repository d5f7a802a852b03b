use Rattle.std.proofs.Common.{ℕ, List, subst}
use Rattle.std.specs.Io.KnownBytes.{Appends}
use Rattle.cs_http.specs.declared.fault.WireFault.{WireFault}
use Rattle.cs_serve.specs.Answer.{fault_answer}
use Rattle.cs_serve.specs.declared.unasked.Unasked.{Unasked}
use Rattle.cs_serve.specs.Reading.{IsUnasked}
use Rattle.cs_serve.proofs.Rightly.{body_answered, fault_answered}
use Rattle.cs_serve.proofs.serving.serve_request.Goals as goal

pub returns-in-Ok-answer_body-clause-serving : goal.returns-in-Ok-answer_body-clause-serving
returns-in-Ok-answer_body-clause-serving g c =
    body_answered c.args.state.now c.args.moment _ _ _ _ _ _ c.in-Ok.request.body c.in-Ok.ensures.asked c.in-Ok.ensures.written c.answer_body.ensures.gone c.in-Ok-answer_body.ensures.written

pub returns-in-Ok-refuse_bytes-clause-serving : goal.returns-in-Ok-refuse_bytes-clause-serving
returns-in-Ok-refuse_bytes-clause-serving g c =
    let asked = subst (λ (e : Unasked). (bytes : List ℕ) × Appends (g.C.Conn.gone c.args.conn.now) (g.C.Conn.gone c.read_request.new.conn) bytes × IsUnasked bytes (g.C.Conn.left c.read_request.new.conn) e) c.in-Err-Refused.field-0-is c.in-Err-Refused.ensures.asked in
    fault_answered c.args.state.now c.args.moment _ _ _ _ _ _ c.in-Err-Refused.fault asked c.in-Err-Refused.ensures.written c.refuse_bytes.ensures.gone
    (subst (λ (f : WireFault). Appends (g.C.Conn.written c.read_request.new.conn) (g.C.Conn.written c.refuse_bytes.new.conn) (fault_answer f)) c.in-Err-Refused.fault-is c.in-Ok-refuse_bytes.ensures.written)
