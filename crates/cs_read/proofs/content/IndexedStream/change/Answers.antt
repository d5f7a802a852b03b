use Rattle.std.proofs.Common.{◌≡◌, ◌<◌, ◌∙◌, ℕ, List, Some, None, length, get_or, sym, ap, subst}
use Rattle.cs_records.specs.declared.captured.Captured.{Captured}
use Rattle.cs_capture.specs.Captured.{captured}
use Rattle.cs_steps.specs.Captures.{captured_items}
use Rattle.cs_steps.specs.Cursor.{IsAt}
use Rattle.cs_index.specs.Index.{captured_at}
use Rattle.cs_read.specs.Content.{Content}
use Rattle.cs_read.proofs.Members.{some_at}
use Rattle.cs_read.proofs.Sources.{source_at, modification_at}
use Rattle.cs_read.proofs.content.IndexedStream.change.Goals as goal

pub bounds-self-inside-source : goal.bounds-self-inside-source
bounds-self-inside-source c =
    let s = c.self.inside in
    let items : List Captured = captured_items s.catalog.now.tables s.stream.now s.history.now in
    let lt : c.args.place < length items = subst (λ (x : Content). c.args.place < length x.items) (sym c.self.view_is) c.requires in
    let item = some_at items c.args.place lt in
    let source = ap (λ (l : List ℕ). captured_at s.catalog.now.tables s.stream.now s.history.now (get_or l c.args.place 0)) c.as_slice.ensures ∙ source_at s.catalog.now.tables s.stream.now s.history.now s.index.now.sources items c.self.invariant.captured c.args.place 0 item.0 item.1 in
    (modification_at s.catalog.now.tables s.stream.now s.history.now s.index.now.sources items c.self.invariant.captured (get_or c.as_slice.result.now c.args.place 0) item.0 source).0

pub unreachable-requires : goal.unreachable-requires
unreachable-requires c =
    let s = c.self.inside in
    let items : List Captured = captured_items s.catalog.now.tables s.stream.now s.history.now in
    let lt : c.args.place < length items = subst (λ (x : Content). c.args.place < length x.items) (sym c.self.view_is) c.requires in
    let item = some_at items c.args.place lt in
    let source = ap (λ (l : List ℕ). captured_at s.catalog.now.tables s.stream.now s.history.now (get_or l c.args.place 0)) c.as_slice.ensures ∙ source_at s.catalog.now.tables s.stream.now s.history.now s.index.now.sources items c.self.invariant.captured c.args.place 0 item.0 item.1 in
    let there = (modification_at s.catalog.now.tables s.stream.now s.history.now s.index.now.sources items c.self.invariant.captured (get_or c.as_slice.result.now c.args.place 0) item.0 source).1 c.index-self-source.result c.index-self-source.is in
    no item.0 (sym c.in-None.is ∙ c.in_ok-change.ensures ∙ ap (captured s.catalog.now.tables s.stream.now) (sym c.index-self-source.is) ∙ there)
  where
    no : (x : Captured) → None ≡ Some x → ⊥
    no x e = cc

pub returns : goal.returns
returns c =
    let s = c.self.inside in
    let items : List Captured = captured_items s.catalog.now.tables s.stream.now s.history.now in
    let lt : c.args.place < length items = subst (λ (x : Content). c.args.place < length x.items) (sym c.self.view_is) c.requires in
    let item = some_at items c.args.place lt in
    let source = ap (λ (l : List ℕ). captured_at s.catalog.now.tables s.stream.now s.history.now (get_or l c.args.place 0)) c.as_slice.ensures ∙ source_at s.catalog.now.tables s.stream.now s.history.now s.index.now.sources items c.self.invariant.captured c.args.place 0 item.0 item.1 in
    let there = (modification_at s.catalog.now.tables s.stream.now s.history.now s.index.now.sources items c.self.invariant.captured (get_or c.as_slice.result.now c.args.place 0) item.0 source).1 c.index-self-source.result c.index-self-source.is in
    let same : item.0 ≡ c.in-Some.change = one item.0 c.in-Some.change (sym there ∙ ap (captured s.catalog.now.tables s.stream.now) c.index-self-source.is ∙ sym c.in_ok-change.ensures ∙ c.in-Some.is) in
    subst (λ (x : Content). IsAt x.items c.args.place c.in-Some.change) c.self.view_is (subst (IsAt items c.args.place) same item.1)
  where
    one : (x y : Captured) → Some x ≡ Some y → x ≡ y
    one x y e = cc
