use Rattle.std.proofs.Common.{ap, sym, ◌∙◌, Some}
use Rattle.cs_http.proofs.Names.{told_text, told_no_text}
use Rattle.cs_http.proofs.refusal.text_of.Goals as goal

pub returns-in_ok-of-in-Ok : goal.returns-in_ok-of-in-Ok
returns-in_ok-of-in-Ok c = ap Some (c.in_ok-of-in-Ok.ensures ∙ c.in-Ok.ensures.cases.0) ∙ sym (told_text c.args.bytes.now c.in-Ok.ensures.cases.1)

pub returns-in-Err : goal.returns-in-Err
returns-in-Err c = sym (told_no_text c.args.bytes.now c.in-Err.ensures.cases.0)
