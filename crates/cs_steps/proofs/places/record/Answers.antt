use Rattle.std.proofs.Common.{◌≡◌, ◌∷◌, ◌<◌, [], ◌∙◌, sym, ap, subst, ℕ, List, length, take, drop, arith, All}
use Rattle.std.proofs.lemmas.List.Elements.{All-take, All-drop}
use Rattle.cs_steps.specs.Places.{taken_at, places_of}
use Rattle.cs_steps.specs.Records.{told_as}
use Rattle.cs_steps.proofs.Taken.{taken_first, one_record}
use Rattle.cs_steps.proofs.places.record.Goals as goal

pub returns : goal.returns
returns c =
    let behind : c.split_at.result.1.now ≡ drop c.args.place.now.first c.args.changes.now = c.split_at.ensures.back in
    let own : c.split_at-2.result.0.now ≡ places_of c.args.changes.now c.args.place.now = c.split_at-2.ensures.front ∙ ap (take c.args.place.now.count) behind in
    let size : length c.split_at-2.result.0.now ≡ c.args.place.now.count = c.split_at-2.ensures.front_len in
    let inside : All (λ k. k < length c.args.captured.now) c.split_at-2.result.0.now =
    subst (All (λ k. k < length c.args.captured.now)) (sym own) (All-take (λ k. k < length c.args.captured.now) c.args.place.now.count (drop c.args.place.now.first c.args.changes.now) (All-drop (λ k. k < length c.args.captured.now) c.args.place.now.first c.args.changes.now c.requires.there)) in
    let some : 0 < length c.split_at-2.result.0.now = omega (arith, size, c.requires.some) in
    let first = taken_first c.args.captured.now c.split_at-2.result.0.now c.index-captured-own.result some (inside 0 0 some) c.index-captured-own.is in
    let is = one_record (record { records = c.args.place.now.records_in_tx; parts = c.args.place.now.parts_in_tx }) c.args.place.now.sequence c.args.place.now.is_last (taken_at c.args.captured.now c.split_at-2.result.0.now) c.index-captured-own.result first.0 first.1 in
    ap (λ (ks : List ℕ). told_as (record { records = c.args.place.now.records_in_tx; parts = c.args.place.now.parts_in_tx }) c.args.place.now.sequence c.args.place.now.is_last (taken_at c.args.captured.now ks)) (sym own)
    ∙ is
    ∙ (λ i. record {
      stamp = c.index-captured-own.result.change.stamp;
      sequence = c.args.place.now.sequence;
      tx = sym c.in_ok-copy.ensures i;
      is_last = c.args.place.now.is_last;
      table = sym c.in_ok-copy-2.ensures i;
      columns = sym c.in_ok-copy-3.ensures i;
      mods = sym c.in_ok-mods.ensures i;
      kind = c.index-captured-own.result.change.kind;
      capture = c.index-captured-own.result.capture;
      records_in_tx = c.args.place.now.records_in_tx;
      parts_in_tx = c.args.place.now.parts_in_tx;
      tag = sym c.in_ok-copy-4.ensures i;
      system = c.index-captured-own.result.system;
    } ∷ [])
