use Rattle.std.proofs.Common.{ap, sym, subst, Some, None, List, ℕ, IfOk, codes, ◌≡◌}
use Rattle.std.specs.declared.option.Option.{Option}
use Rattle.cs_http.specs.Line.{and_then}
use Rattle.cs_http.specs.RefusalLine.{text_of}
use Rattle.cs_http.proofs.Between.{between_is}
use Rattle.cs_http.proofs.refusal.name_of.Goals as goal

pub returns-in-None : goal.returns-in-None
returns-in-None c = sym (ap (and_then text_of) (between_is (codes "{\"name\":\"") c.args.back.now c.args.line.now None c.in-None.ensures))

pub returns-in-Some : goal.returns-in-Some
returns-in-Some c =
    subst (λ (z : Option (List ℕ)). IfOk c.text_of.result (λ o. o ≡ z)) (sym (ap (and_then text_of) (between_is (codes "{\"name\":\"") c.args.back.now c.args.line.now (Some c.in-Some.name.now) c.in-Some.ensures))) c.text_of.ensures
