use Rattle.std.proofs.Common.{List, Contains, sym, subst, ◌∙◌}
use Rattle.cs_schema.specs.declared.types.Stream.{Stream}
use Rattle.cs_tool.proofs.database.stream_of.Goals as goal

pub returns-in-None : goal.returns-in-None
returns-in-None c = λ s there e. c.in-None.ensures s (subst (λ (l : List Stream). Contains l s) (sym (c.streams.ensures.value ∙ c.catalog.ensures.streams)) there) e
