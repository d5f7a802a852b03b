use Rattle.std.proofs.Common.{◌∙◌}
use Rattle.cs_json.proofs.Put.{token_text}
use Rattle.cs_json.proofs.writing.token_text.Goals as goal

pub returns-clause-text : goal.returns-clause-text
returns-clause-text c = c.in_ok-text.ensures.ok (rw c.bytes.ensures.value (token_text c.args.token.now c.bytes.ensures.token)) ∙ c.bytes.ensures.value
