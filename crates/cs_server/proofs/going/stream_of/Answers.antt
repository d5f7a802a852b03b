use Rattle.std.proofs.Common.{◌≡◌, ◌∙◌, sym}
use Rattle.cs_schema.specs.declared.types.Stream.{Stream}
use Rattle.cs_partitions.specs.Layout.{StreamParts}
use Rattle.cs_steps.specs.Captures.{captured_items}
use Rattle.cs_server.proofs.Asks.{content_is}
use Rattle.cs_server.proofs.Layouts.{one_stream, one_layout, same_index}
use Rattle.cs_server.proofs.going.stream_of.Goals as goal

pub of-requires : goal.of-requires
of-requires c =
    let db = c.args.state.now in
    let k = c.args.kept.now in
    let s : c.stream_at.result.now ≡ c.requires.stream = one_stream db.streams k.place c.stream_at.result.now c.requires.stream c.stream_at.ensures c.requires.stream_at in
    let l : c.layout_at.result.now ≡ c.requires.layout = one_layout db.layouts k.place c.layout_at.result.now c.requires.layout c.layout_at.ensures.layout c.requires.layout_at in
    same_index db.tables c.catalog.result.now.tables c.requires.stream c.stream_at.result.now c.requires.layout c.layout_at.result.now db.modifications c.modifications.result.now k.index c.catalog.ensures.tables s l
    (c.modifications.ensures.value ∙ c.history.ensures.value) c.requires.index

pub returns : goal.returns
returns c =
    let db = c.args.state.now in
    let s : Stream = c.stream_at.result.now in
    let l : StreamParts = c.layout_at.result.now in
    let history : c.modifications.result.now ≡ db.modifications = c.modifications.ensures.value ∙ c.history.ensures.value in
    (λ i. record { parts = c.of.ensures.parts i; items = c.of.ensures.items i; created = c.of.ensures.created i; retention_us = c.of.ensures.retention i })
    ∙ (λ i. record { parts = l.parts; items = captured_items (c.catalog.ensures.tables i) s (history i); created = s.created; retention_us = s.retention_us })
    ∙ sym (content_is db c.args.kept.now.place s l c.stream_at.ensures c.layout_at.ensures.layout)
