use Rattle.std.proofs.Common.{◌<◌, ◌∙◌, List, Option, Some, ℕ, length, get_or, IfSome, sym, ap, subst, arith}
use Rattle.cs_index.specs.declared.types.PartIndex.{PartIndex}
use Rattle.cs_steps.specs.Captures.{captured_items}
use Rattle.cs_steps.specs.Cursor.{IsAt}
use Rattle.cs_read.specs.Content.{Content, AreRecords, records_in, part_at}
use Rattle.cs_read.proofs.Sources.{lines_are}
use Rattle.cs_read.proofs.content.IndexedStream.lines.Goals as goal

pub returns : goal.returns
returns c =
    let inside : IfSome (Some c.in-Some.place) (λ place. place < length c.args.self.now.parts) = subst (λ (o : Option ℕ). IfSome o (λ place. place < length c.args.self.now.parts)) c.in-Some.is c.requires in
    let lt : c.in-Some.place < length c.self.inside.layout.now.parts = subst (λ (x : Content). c.in-Some.place < length x.parts) (sym c.self.view_is) inside in
    let line : PartIndex = c.index-as_slice-place.result in
    let at : IsAt c.self.inside.index.now.parts c.in-Some.place line = (omega (arith, lt, c.self.invariant.count), sym (c.index-as_slice-place.is ∙ ap (λ (ls : List PartIndex). get_or ls c.in-Some.place line) c.as_slice.ensures)) in
    let view : Content = record { parts = c.self.inside.layout.now.parts; items = captured_items c.self.inside.catalog.now.tables c.self.inside.stream.now c.self.inside.history.now; created = c.self.inside.stream.now.created; retention_us = c.self.inside.stream.now.retention_us } in
    let there : AreRecords view.items (records_in view (part_at view.parts (Some c.in-Some.place))) line.changes line.records =
    lines_are c.self.inside.catalog.now.tables c.self.inside.stream.now c.self.inside.layout.now.parts c.self.inside.history.now c.self.inside.index.now c.self.inside.stream.now.created c.self.inside.stream.now.retention_us c.self.invariant c.in-Some.place line lt at in
    let here : AreRecords view.items (records_in view (part_at view.parts (Some c.in-Some.place))) c.as_slice-2.result.now c.as_slice-3.result.now =
    subst (λ ks. AreRecords view.items (records_in view (part_at view.parts (Some c.in-Some.place))) ks c.as_slice-3.result.now) (sym c.as_slice-2.ensures)
    (subst (λ ps. AreRecords view.items (records_in view (part_at view.parts (Some c.in-Some.place))) line.changes ps) (sym c.as_slice-3.ensures) there) in
    subst (λ (o : Option ℕ). AreRecords c.args.self.now.items (records_in c.args.self.now (part_at c.args.self.now.parts o)) c.as_slice-2.result.now c.as_slice-3.result.now) (sym c.in-Some.is)
    (subst (λ (x : Content). AreRecords x.items (records_in x (part_at x.parts (Some c.in-Some.place))) c.as_slice-2.result.now c.as_slice-3.result.now) c.self.view_is here)
