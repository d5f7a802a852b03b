use Rattle.std.proofs.Common.{◌≡◌, ◌+◌, ◌++◌, ◌∷◌, [], List, length, take, replicate, sym, ap, ◌∙◌, subst}
use Rattle.std.proofs.lemmas.List.{take_more, take_all}
use Rattle.cs_place.specs.declared.part.Part.{Part}
use Rattle.cs_txn.specs.declared.txn.Modification.{Modification}
use Rattle.cs_txn.specs.History.{IsHistory}
use Rattle.cs_steps.specs.Lines.{no_line}
use Rattle.cs_index.specs.declared.types.StreamIndex.{StreamIndex}
use Rattle.cs_index.specs.Index.{IsStreamIndex}
use Rattle.cs_index.specs.Walk.{IsAtPlace, IsWalk, HasRules}
use Rattle.cs_index.proofs.Rules.{rules_of, got, if_ok}
use Rattle.cs_index.proofs.Walking.{started}
use Rattle.cs_index.proofs.Whole.{finished}
use Rattle.cs_index.proofs.making.stream_index.Goals as goal

pub loop-place-init : goal.loop-place-init
loop-place-init c =
    let e = c.in_ok-walk.ensures in
    let lines : c.in_ok-walk.walk.lines.items ≡ replicate (length c.in_ok-walk.walk.parts.now) no_line = e.2 ∙ ap (λ (ps : List Part). replicate (length ps) no_line) (sym e.0) in
    record {
      walk = started c.index_is_the_definition-index.ensures.starts c.args.catalog.now.tables c.args.stream.now c.modifications-items.result.now c.in_ok-walk.walk e.1 lines e.3 e.4;
      parts = e.0 ∙ c.parts.ensures.value;
    }

pub loop-place-preserved : goal.loop-place-preserved
loop-place-preserved c =
    let ms : List Modification = c.modifications-items.result.now in
    let n = c.loop-place.place in
    let m : Modification = c.index-items-place.result in
    let H : IsHistory ms = subst IsHistory (sym c.modifications-items.ensures.value) c.modifications-items.ensures.rules in
    let R = rules_of c.holders_are_one-holders.ensures c.a_transaction_has_one_stamp_and_tag-stamps.ensures c.args.layout.now c.args.stream.now.created ms c.parts.ensures.layout c.requires.created H in
    let here = got ms n m c.loop-place-test.true in
    let at = subst (λ (x : Modification). IsAtPlace ms n x) (sym c.index-items-place.is) here in
    let W = c.in_ok-step.ensures.walk ms (take n ms) R at c.loop-place.invariant.walk in
    let more : take n ms ++ m ∷ [] ≡ take (n + 1) ms = ap (λ (x : Modification). take n ms ++ x ∷ []) c.index-items-place.is ∙ sym (take_more ms n m c.loop-place-test.true) in
    record {
      walk = subst (λ (front : List Modification). IsWalk c.args.catalog.now.tables c.args.stream.now ms front c.step.new.walk) more W;
      parts = c.in_ok-step.ensures.parts ∙ c.loop-place.invariant.parts;
    }

pub returns : goal.returns
returns c =
    let ms : List Modification = c.modifications-items.result.now in
    let H : IsHistory ms = subst IsHistory (sym c.modifications-items.ensures.value) c.modifications-items.ensures.rules in
    let R = rules_of c.holders_are_one-holders.ensures c.a_transaction_has_one_stamp_and_tag-stamps.ensures c.args.layout.now c.args.stream.now.created ms c.parts.ensures.layout c.requires.created H in
    let R' = subst (λ (ps : List Part). HasRules c.args.stream.now.created ps ms) (sym c.loop-place.invariant.parts) R in
    let W = subst (λ (front : List Modification). IsWalk c.args.catalog.now.tables c.args.stream.now ms front c.loop-place.walk) (take_all c.loop-place.place ms c.loop-place-test.false) c.loop-place.invariant.walk in
    let laws = c.index_is_the_definition-index.ensures in
    if_ok c.into_index.result
    (λ (index : StreamIndex) h.
    subst (λ (ps : List Part). IsStreamIndex c.args.catalog.now.tables c.args.stream.now ps c.args.history.now index) c.loop-place.invariant.parts
    (subst (λ (xs : List Modification). IsStreamIndex c.args.catalog.now.tables c.args.stream.now c.loop-place.walk.parts.now xs index) c.modifications-items.ensures.value
    (finished laws.index laws.ends c.args.catalog.now.tables c.args.stream.now ms c.loop-place.walk c.end.new.self index H R' W c.in_ok-end.ensures h.0 h.1)))
    c.into_index.ensures
