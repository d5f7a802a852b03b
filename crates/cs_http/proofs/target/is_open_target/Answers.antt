use Rattle.std.proofs.Common.{◌∙◌, ap, sym, true≢false, ◌+◌}
use Rattle.std.specs.List.{list_all}
use Rattle.httparse.specs.Grammar.{is_uri_byte}
use Rattle.cs_http.proofs.Ends.{rest_is}
use Rattle.cs_http.proofs.Targets.{no_open, opens, opened_method, opened_target}
use Rattle.cs_http.proofs.target.is_open_target.Goals as goal

pub returns-in_default : goal.returns-in_default
returns-in_default c = ((λ t. absurd (true≢false (sym t))), (λ t. absurd (no_open c.args.bytes.now c.in_default.ensures t)))

pub returns-then-not-is_token : goal.returns-then-not-is_token
returns-then-not-is_token c =
    ((λ t. absurd (true≢false (sym t))), (λ t. absurd (true≢false (sym (opened_method c.args.bytes.now c.in-Some.place c.in-Some.ensures t) ∙ sym c.is_token.ensures ∙ c.if-not-is_token.true))))

pub returns : goal.returns
returns c =
    let rest = ap (list_all is_uri_byte) (rest_is c.args.bytes.now (c.in-Some.place + 1)) in (
      (λ t. opens c.args.bytes.now c.in-Some.place c.in-Some.ensures (sym c.is_token.ensures ∙ c.if-not-is_token.false) (sym rest ∙ sym c.are_target_bytes.ensures ∙ t)),
      (λ t. c.are_target_bytes.ensures ∙ rest ∙ opened_target c.args.bytes.now c.in-Some.place c.in-Some.ensures t),
    )
