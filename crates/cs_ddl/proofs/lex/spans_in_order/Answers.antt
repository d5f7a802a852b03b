use Rattle.cs_ddl.proofs.Spans.{tokens_are_spans}
use Rattle.cs_ddl.proofs.lex.spans_in_order.Goals as goal

pub returns : goal.returns
returns c = tokens_are_spans
