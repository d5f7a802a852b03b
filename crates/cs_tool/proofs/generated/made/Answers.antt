use Rattle.std.proofs.Common.{ap, ◌∙◌}
use Rattle.cs_tool.proofs.Generating.{all_made, none_made}
use Rattle.cs_tool.proofs.generated.made.Goals as goal

pub returns-clause-refused : goal.returns-clause-refused
returns-clause-refused c = none_made c.args.commits c.in_ok-source.source (c.in_ok-source.ensures ∙ c.from_vec.ensures ∙ ap (λ v. v.items) c.into_bytes.ensures.value ∙ c.in_ok-text.ensures.text) c.database_of.result c.database_of.ensures.refused

pub returns-clause-made : goal.returns-clause-made
returns-clause-made c = all_made c.args.commits c.in_ok-source.source (c.in_ok-source.ensures ∙ c.from_vec.ensures ∙ ap (λ v. v.items) c.into_bytes.ensures.value ∙ c.in_ok-text.ensures.text) c.database_of.result c.database_of.ensures.made
