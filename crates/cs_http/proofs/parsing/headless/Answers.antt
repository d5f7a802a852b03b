use Rattle.std.proofs.Common.{◌∙◌, sym, true≢false}
use Rattle.cs_http.proofs.OneReading.{open_target, no_target}
use Rattle.cs_http.proofs.parsing.headless.Goals as goal

pub returns-then-ends_in_target : goal.returns-then-ends_in_target
returns-then-ends_in_target c = open_target c.args.bytes.now c.unfinished.result c.requires (c.ends_in_target.ensures.0 c.if-ends_in_target.true) c.unfinished.ensures

pub returns : goal.returns
returns c = no_target c.args.bytes.now c.requires (λ e. true≢false (sym (c.ends_in_target.ensures.1 e) ∙ c.if-ends_in_target.false))
