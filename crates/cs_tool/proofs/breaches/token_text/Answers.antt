use Rattle.std.proofs.Common.{◌∙◌}
use Rattle.cs_tool.proofs.Tokens.{token_is_utf8}
use Rattle.cs_tool.proofs.breaches.token_text.Goals as goal

pub returns : goal.returns
returns c = c.in_ok-text.ensures.ok (rw c.bytes.ensures.value (token_is_utf8 c.args.token.now c.bytes.ensures.token)) ∙ c.bytes.ensures.value
