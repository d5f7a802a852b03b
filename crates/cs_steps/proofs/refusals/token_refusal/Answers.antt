use Rattle.std.proofs.Common.{◌∙◌, ap, List}
use Rattle.std.specs.Prelude.{slice_index_or}
use Rattle.cs_place.specs.declared.part.Part.{Part}
use Rattle.cs_steps.specs.Refusals.{part_refusal}
use Rattle.cs_steps.proofs.Named.{unknown_token, known_token}
use Rattle.cs_steps.proofs.refusals.token_refusal.Goals as goal

pub returns-in-None-index_of : goal.returns-in-None-index_of
returns-in-None-index_of c = unknown_token c.args.layout.now.parts c.args.token.now _ c.args.start c.in-Some.is c.in-None-index_of.ensures.index

pub returns-in-Some-index_of : goal.returns-in-Some-index_of
returns-in-Some-index_of c =
    c.part_refusal.ensures
    ∙ ap (λ (p : Part). part_refusal p c.args.start) c.index-parts-index.is
    ∙ ap (λ (l : List Part). part_refusal (slice_index_or l c.in-Some-index_of.index c.index-parts-index.result) c.args.start) c.parts.ensures.value
    ∙ known_token c.args.layout.now.parts c.args.token.now _ c.args.start c.in-Some-index_of.index c.index-parts-index.result c.in-Some.is c.in-Some-index_of.ensures.index
