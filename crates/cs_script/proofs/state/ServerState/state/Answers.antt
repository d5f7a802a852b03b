use Rattle.cs_script.proofs.Naming.{names_read}
use Rattle.cs_script.proofs.state.ServerState.state.Goals as goal

pub apply-requires-clause-names : goal.apply-requires-clause-names
apply-requires-clause-names c = names_read c.names_make_tokens.ensures c.in-Ok.statement c.as_bytes.result.now c.in-Ok.ensures.answers
