use Rattle.std.proofs.Common.{◌≡◌, ◌<◌, length, refl, sym, ap, subst, ◌∙◌, rules, Some, Ok, arith, false, slice_get, slice_set}
use Rattle.cs_partitions.specs.Layout.{StreamParts}
use Rattle.cs_script.specs.Borders.{stream_place}
use Rattle.cs_script.specs.Database.{Database, writes_at}
use Rattle.cs_script.specs.Kept.{IsKept}
use Rattle.cs_script.specs.Line.{is_back}
use Rattle.cs_script.specs.Takes.{reshaped_in}
use Rattle.cs_script.proofs.Keeping.{kept_reshape}
use Rattle.cs_script.proofs.Doing.{reshaped_is, got_at}
use Rattle.cs_script.proofs.state.ServerState.reshape.Goals as goal

pub invariant_of-self-2 : goal.invariant_of-self-2
invariant_of-self-2 c =
    let order : is_back c.self.inside.last c.args.at ≡ false = ap (λ (d : Database). is_back d.last c.args.at) c.self.view_is ∙ c.requires in
    let same : writes_at c.args.at c.self.inside.history ≡ writes_at c.args.at c.args.self.now.modifications = ap (λ (d : Database). writes_at c.args.at d.modifications) c.self.view_is in
    let done = (c.in_ok-reshape_of-in-Some-get_mut).ensures.done in
    let there : slice_get c.self.inside.layouts.items c.in-Some.place ≡ Some c.in-Some-get_mut.layout.now =
    let within : c.in-Some.place < length c.self.inside.layouts.items = omega (arith, c.in-Some-get_mut.ensures.variant.0 refl, c.self.inside.layouts.ok) in
    got_at c.self.inside.layouts.items c.in-Some.place c.in-Some-get_mut.layout.now within c.in-Some-get_mut.ensures.value in
    let kept = kept_reshape (record { tables = c.self.inside.catalog.tables; streams = c.self.inside.catalog.streams; modifications = c.self.inside.history; layouts = c.self.inside.layouts.items; last = c.self.inside.last })
    c.args.at c.in-Some.place c.in-Some-get_mut.layout.now c.args.reshape.now.parts c.args.reshape.now.borders c.self.invariant.0 order there in (
      subst (λ (l : StreamParts). IsKept (record { tables = c.self.inside.catalog.tables; streams = c.self.inside.catalog.streams; modifications = c.self.inside.history; layouts = slice_set c.self.inside.layouts.items c.in-Some.place l; last = Some c.args.at })) (sym done.1) kept,
      c.writes_at-writes.ensures.writes ∙ sym same,
    )

pub returns-clause-done : goal.returns-clause-done
returns-clause-done c =
    let done = (c.in_ok-reshape_of-in-Some-get_mut).ensures.done in
    let there : slice_get c.self.inside.layouts.items c.in-Some.place ≡ Some c.in-Some-get_mut.layout.now =
    let within : c.in-Some.place < length c.self.inside.layouts.items = omega (arith, c.in-Some-get_mut.ensures.variant.0 refl, c.self.inside.layouts.ok) in
    got_at c.self.inside.layouts.items c.in-Some.place c.in-Some-get_mut.layout.now within c.in-Some-get_mut.ensures.value in
    let place : stream_place c.args.reshape.now.stream c.self.inside.catalog.streams ≡ Some c.in-Some.place = search rules in
    let is = reshaped_is (record { tables = c.self.inside.catalog.tables; streams = c.self.inside.catalog.streams; modifications = c.self.inside.history; layouts = c.self.inside.layouts.items; last = c.self.inside.last })
    c.args.at c.args.reshape.now c.in-Some.place c.in-Some-get_mut.layout.now place there done.0 in
    let put = ap (λ (l : StreamParts). Ok (record { tables = c.self.inside.catalog.tables; streams = c.self.inside.catalog.streams; modifications = c.self.inside.history; layouts = slice_set c.self.inside.layouts.items c.in-Some.place l; last = Some c.args.at })) (sym done.1) in
    ap (λ (d : Database). reshaped_in d c.args.at c.args.reshape.now (stream_place c.args.reshape.now.stream d.streams)) (sym c.self.view_is) ∙ is ∙ put
