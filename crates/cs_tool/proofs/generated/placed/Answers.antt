use Rattle.std.proofs.Common.{◌≡◌, ◌<◌, List, length, Contains, refl, sym, ap, ◌∙◌, subst, true≢false}
use Rattle.std.proofs.lemmas.Option.{slice_get_within, slice_get_read}
use Rattle.cs_schema.specs.declared.types.Stream.{Stream}
use Rattle.cs_partitions.specs.Layout.{StreamParts}
use Rattle.cs_script.specs.Kept.{IsKept}
use Rattle.cs_tool.proofs.Generating.{same_length, is_placed}
use Rattle.cs_tool.proofs.generated.placed.Goals as goal

pub returns-in_default : goal.returns-in_default
returns-in_default c = λ s i. c.in_default.ensures s (subst (λ (z : List Stream). Contains z s) (sym (c.streams-streams.ensures.value ∙ c.catalog.ensures.streams)) i)

pub unreachable-requires : goal.unreachable-requires
unreachable-requires c = true≢false (sym (c.in_default-get.ensures.lookup.2 (slice_get_within c.streams-streams.result.now c.in-Some.place c.in-Some.ensures.0 c.in-Some.ensures.1)))

pub unreachable-requires-in_default-get-2 : goal.unreachable-requires-in_default-get-2
unreachable-requires-in_default-get-2 c =
    let within : c.in-Some.place < length c.streams-streams.result.now = slice_get_within c.streams-streams.result.now c.in-Some.place c.in-Some.ensures.0 c.in-Some.ensures.1 in
    let same : length c.streams-streams.result.now ≡ length c.layouts.result.now = ap (λ (z : List Stream). length z) (c.streams-streams.ensures.value ∙ c.catalog.ensures.streams) ∙ sym (same_length c.args.state.now.streams c.args.state.now.layouts c.layouts.ensures.kept.layouts) ∙ ap (λ (z : List StreamParts). length z) (sym c.layouts.ensures.value) in
    true≢false (sym (c.in_default-get-2.ensures.lookup.2 (subst (λ n. c.in-Some.place < n) same within)))

pub returns : goal.returns
returns c =
    let streams = c.streams-streams.result.now in
    let layouts = c.layouts.result.now in
    is_placed c.args.state.now c.args.name.now streams layouts c.in-Some.place c.in-Some.ensures.0 c.in-Some-get.stream.now c.in-Some-get-2.layout.now (c.streams-streams.ensures.value ∙ c.catalog.ensures.streams) c.layouts.ensures.value
    c.in-Some.ensures.1 c.in-Some.ensures.2
    (slice_get_read streams (length streams) c.in-Some.place c.in-Some-get.stream.now refl c.in-Some-get.ensures.lookup.3.0 c.in-Some-get.ensures.lookup.1)
    (slice_get_read layouts (length layouts) c.in-Some.place c.in-Some-get-2.layout.now refl c.in-Some-get-2.ensures.lookup.3.0 c.in-Some-get-2.ensures.lookup.1)
