use Rattle.std.proofs.Common.{sym, ◌∙◌, ◌-◌, length, arith}
use Rattle.cs_http.proofs.Between.{is_between}
use Rattle.cs_http.proofs.Ends.{rest_is}
use Rattle.cs_http.proofs.line.between.Goals as goal

pub returns : goal.returns
returns c =
    is_between c.args.front.now c.args.back.now c.args.line.now (omega (arith, c.if-line-front.false)) (c.is_same.ensures.0 c.if-not-is_same.false) (sym (rest_is c.args.line.now (length c.args.line.now - length c.args.back.now)) ∙ c.is_same-2.ensures.0 c.if-not-is_same-2.false)
