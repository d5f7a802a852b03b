use Rattle.std.proofs.Common.{rules, sym}
use Rattle.cs_http.proofs.Closings.{no_closing}
use Rattle.cs_http.proofs.line.closing_of.Goals as goal

pub returns-in-None : goal.returns-in-None
returns-in-None c =
    no_closing c.args.line.now (λ e. absurd (search (rules, c.is_same.ensures.1 e, c.if-is_same.false))) (λ e. absurd (search (rules, c.is_same-2.ensures.1 e, c.if-is_same-2.false))) (sym c.in-None.ensures)
