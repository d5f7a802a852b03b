use Rattle.std.proofs.Common.{◌≡◌, ℕ, List, Err, subst, ◌∙◌}
use Rattle.cs_ddl.specs.declared.fault.SyntaxFault.{SyntaxFault}
use Rattle.cs_ddl.specs.Grammars.{queries}
use Rattle.cs_ddl.specs.Text.{Answers, IsFaultAt, IsTextOf}
use Rattle.std.specs.Prelude.{OnOk}
use Rattle.std.specs.Io.KnownBytes.{Appends}
use Rattle.cs_link.specs.declared.refusal.ReadRefusal.{ReadRefusal}
use Rattle.cs_serve.specs.Answer.{Misspelled, Queried, refusal_answer}
use Rattle.cs_serve.proofs.Bodies.{asked_body}
use Rattle.cs_serve.proofs.answering.answer_body.Goals as goal

pub returns-in-Ok-clause-written : goal.returns-in-Ok-clause-written
returns-in-Ok-clause-written g c =
    let text : c.as_bytes.result.now ≡ c.args.body.now = c.as_bytes.ensures.value ∙ c.as_str.ensures in
    asked_body c.answer_query.result c.args.state.now c.args.moment c.args.body.now _ _ (Queried c.in-Ok.query)
    (subst (λ (t : List ℕ). IsTextOf queries t c.in-Ok.query) text c.in-Ok.ensures.answers) c.answer_query.ensures.written

pub returns-in-Err-At-clause-written : goal.returns-in-Err-At-clause-written
returns-in-Err-At-clause-written g c =
    let text : c.as_bytes.result.now ≡ c.args.body.now = c.as_bytes.ensures.value ∙ c.as_str.ensures in
    let at : IsFaultAt queries c.as_bytes.result.now c.in-Err-At.place = subst (λ (f : SyntaxFault). Answers queries c.as_bytes.result.now (Err f)) c.in-Err-At.field-0-is c.in-Err-At.ensures.answers in
    asked_body c.refuse_read.result c.args.state.now c.args.moment c.args.body.now _ _ (Misspelled c.in-Err-At.place)
    (subst (λ (t : List ℕ). IsFaultAt queries t c.in-Err-At.place) text at)
    (subst (λ (n : ℕ). OnOk c.refuse_read.result (Appends (g.C.Conn.written c.args.conn.now) (g.C.Conn.written c.refuse_read.new.conn) (refusal_answer (ReadRefusal.Syntax n)))) c.in-Err-At.place-is c.refuse_read.ensures.written)
