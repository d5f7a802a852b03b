use Rattle.std.proofs.Common.{◌≡◌, ◌∙◌, ◌<◌, List, length, get_or, sym, ap, subst, arith}
use Rattle.std.proofs.lemmas.Result.{IfOk-weaker}
use Rattle.cs_schema.specs.declared.types.Stream.{Stream}
use Rattle.cs_partitions.specs.Layout.{StreamParts}
use Rattle.cs_link.specs.declared.reading.Step.{Step}
use Rattle.cs_steps.specs.Captures.{captured_items}
use Rattle.cs_steps.specs.Cursor.{IsAt, IsStep}
use Rattle.cs_steps.specs.declared.cursor.StepPlace.{StepPlace}
use Rattle.cs_read.specs.declared.laying.LaidStep.{LaidStep}
use Rattle.cs_read.specs.Content.{Content, source_read}
use Rattle.cs_read.specs.Laid.{place_of}
use Rattle.cs_read.specs.Whole.{content_of}
use Rattle.cs_read.proofs.Laid.{as_many, step_there}
use Rattle.cs_read.proofs.Members.{some_at, one_at}
use Rattle.cs_read.proofs.answer.Answer.step.Goals as goal

pub place_at-place-requires : goal.place_at-place-requires
place_at-place-requires c =
    let h = c.requires.1 in
    omega (arith, c.requires.2, ap (λ (l : List LaidStep). length l) c.as_slice.ensures, as_many (source_read (content_of c.args.state.now h.read h.layout) c.args.self.now.reading) c.args.self.now.laid c.requires.0 h.steps)

pub step_at-requires-clause-there : goal.step_at-requires-clause-there
step_at-requires-clause-there c =
    let db = c.args.state.now in
    let h = c.requires.1 in
    let streams : c.streams.result.now ≡ db.streams = c.streams.ensures.value ∙ c.catalog-2.ensures.streams in
    let s : c.index-streams-self.result ≡ h.read = one_at db.streams c.args.self.now.stream c.index-streams-self.result h.read (h.stream_at.0, sym (c.index-streams-self.is ∙ ap (λ (x : List Stream). get_or x c.args.self.now.stream c.index-streams-self.result) streams)) h.stream_at in
    let l : c.index-layouts-self.result ≡ h.layout = one_at db.layouts c.args.self.now.stream c.index-layouts-self.result h.layout (h.layout_at.0, sym (c.index-layouts-self.is ∙ ap (λ (x : List StreamParts). get_or x c.args.self.now.stream c.index-layouts-self.result) c.layouts.ensures.value)) h.layout_at in
    let history : c.modifications.result.now ≡ db.modifications = c.modifications.ensures.value ∙ c.history.ensures.value in
    let content : c.of-of.result ≡ content_of db h.read h.layout =
    (λ i. record { parts = c.of-of.ensures.parts i; items = c.of-of.ensures.items i; created = c.of-of.ensures.created i; retention_us = c.of-of.ensures.retention i })
    ∙ (λ i. record { parts = (l i).parts; items = captured_items (c.catalog.ensures.tables i) (s i) (history i); created = (s i).created; retention_us = (s i).retention_us }) in
    let lt : c.args.index < length c.args.self.now.laid = omega (arith, c.requires.2, as_many (source_read (content_of db h.read h.layout) c.args.self.now.reading) c.args.self.now.laid c.requires.0 h.steps) in
    let p = some_at c.args.self.now.laid c.args.index lt in
    let there = step_there (source_read (content_of db h.read h.layout) c.args.self.now.reading) c.args.self.now.laid c.requires.0 c.args.index p.0 h.steps p.1 in
    let place : c.place_at-place.result ≡ place_of p.0 = c.place_at-place.ensures p.0 (subst (λ (x : List LaidStep). IsAt x c.args.index p.0) (sym c.as_slice.ensures) p.1) in
    (there.0, subst (λ (x : Content). IsStep (source_read x c.args.self.now.reading) c.place_at-place.result there.0) (sym content) (subst (λ (q : StepPlace). IsStep (source_read (content_of db h.read h.layout) c.args.self.now.reading) q there.0) (sym place) there.2))

pub returns : goal.returns
returns c = λ all h.
    let db = c.args.state.now in
    let streams : c.streams.result.now ≡ db.streams = c.streams.ensures.value ∙ c.catalog-2.ensures.streams in
    let s : c.index-streams-self.result ≡ h.read = one_at db.streams c.args.self.now.stream c.index-streams-self.result h.read (h.stream_at.0, sym (c.index-streams-self.is ∙ ap (λ (x : List Stream). get_or x c.args.self.now.stream c.index-streams-self.result) streams)) h.stream_at in
    let l : c.index-layouts-self.result ≡ h.layout = one_at db.layouts c.args.self.now.stream c.index-layouts-self.result h.layout (h.layout_at.0, sym (c.index-layouts-self.is ∙ ap (λ (x : List StreamParts). get_or x c.args.self.now.stream c.index-layouts-self.result) c.layouts.ensures.value)) h.layout_at in
    let history : c.modifications.result.now ≡ db.modifications = c.modifications.ensures.value ∙ c.history.ensures.value in
    let content : c.of-of.result ≡ content_of db h.read h.layout =
    (λ i. record { parts = c.of-of.ensures.parts i; items = c.of-of.ensures.items i; created = c.of-of.ensures.created i; retention_us = c.of-of.ensures.retention i })
    ∙ (λ i. record { parts = (l i).parts; items = captured_items (c.catalog.ensures.tables i) (s i) (history i); created = (s i).created; retention_us = (s i).retention_us }) in
    let k = c.requires.1 in
    let many = as_many (source_read (content_of db k.read k.layout) c.args.self.now.reading) c.args.self.now.laid c.requires.0 k.steps in
    let lt : c.args.index < length c.args.self.now.laid = omega (arith, c.requires.2, many) in
    let p = some_at c.args.self.now.laid c.args.index lt in
    let there = step_there (source_read (content_of db h.read h.layout) c.args.self.now.reading) c.args.self.now.laid all c.args.index p.0 h.steps p.1 in
    let place : c.place_at-place.result ≡ place_of p.0 = c.place_at-place.ensures p.0 (subst (λ (x : List LaidStep). IsAt x c.args.index p.0) (sym c.as_slice.ensures) p.1) in
    let is : IsStep (source_read c.of-of.result c.args.self.now.reading) c.place_at-place.result there.0 = subst (λ (x : Content). IsStep (source_read x c.args.self.now.reading) c.place_at-place.result there.0) (sym content) (subst (λ (q : StepPlace). IsStep (source_read (content_of db h.read h.layout) c.args.self.now.reading) q there.0) (sym place) there.2) in
    IfOk-weaker c.step_at.result (λ (y : Step). y ≡ there.0) (λ (y : Step). IsAt all c.args.index y) (λ y e. subst (λ (x : Step). IsAt all c.args.index x) (sym e) there.1) (c.step_at.ensures there.0 is)
