use Rattle.std.proofs.Common.{◌≡◌, ◌∙◌, ◌<◌, List, Option, None, IfOk, MatchResult, length, get_or, sym, ap, subst, arith}
use Rattle.cs_schema.specs.declared.types.Stream.{Stream}
use Rattle.cs_partitions.specs.Layout.{StreamParts}
use Rattle.cs_link.specs.declared.reading.Step.{Step}
use Rattle.cs_link.specs.declared.refusal.ReadRefusal.{ReadRefusal}
use Rattle.cs_steps.specs.Cursor.{IsAt}
use Rattle.cs_steps.specs.Query.{Tells, args_of}
use Rattle.cs_read.specs.Whole.{IsAnswer}
use Rattle.cs_read.proofs.States.{layout_count, refusal_is, steps_are}
use Rattle.cs_read.proofs.answer.read.Goals as goal

pub bounds-layouts-place : goal.bounds-layouts-place
bounds-layouts-place c =
    let db = c.args.state.now in
    let streams : c.streams.result.now ≡ db.streams = c.streams.ensures.value ∙ c.catalog.ensures.streams in
    omega (arith, c.in_ok-place.ensures.stream.1, ap (λ (l : List Stream). length l) streams, layout_count db.streams db.layouts c.catalog.ensures.kept.layouts, ap (λ (l : List StreamParts). length l) c.layouts.ensures.value)

pub answer_over-requires-clause-layout : goal.answer_over-requires-clause-layout
answer_over-requires-clause-layout c =
    let db = c.args.state.now in
    let streams : c.streams.result.now ≡ db.streams = c.streams.ensures.value ∙ c.catalog.ensures.streams in
    let lt : c.in_ok-place.place < length db.layouts = omega (arith, c.in_ok-place.ensures.stream.1, ap (λ (l : List Stream). length l) streams, layout_count db.streams db.layouts c.catalog.ensures.kept.layouts) in
    (lt, sym (c.index-layouts-place.is ∙ ap (λ (l : List StreamParts). get_or l c.in_ok-place.place c.index-layouts-place.result) c.layouts.ensures.value))

pub returns-clause-refused : goal.returns-clause-refused
returns-clause-refused c =
    let db = c.args.state.now in
    let place = c.in_ok-place.place in
    let s : Stream = c.index-streams-place.result in
    let l : StreamParts = c.index-layouts-place.result in
    let streams : c.streams.result.now ≡ db.streams = c.streams.ensures.value ∙ c.catalog.ensures.streams in
    let others : c.streams-2.result.now ≡ db.streams = c.streams-2.ensures.value ∙ c.catalog-2.ensures.streams in
    let in_streams : place < length db.streams = omega (arith, c.in_ok-place.ensures.stream.1, ap (λ (x : List Stream). length x) streams) in
    let at_s : IsAt db.streams place s = (in_streams, sym (c.index-streams-place.is ∙ ap (λ (x : List Stream). get_or x place s) others)) in
    let at_l : IsAt db.layouts place l = (omega (arith, in_streams, layout_count db.streams db.layouts c.catalog.ensures.kept.layouts), sym (c.index-layouts-place.is ∙ ap (λ (x : List StreamParts). get_or x place l) c.layouts.ensures.value)) in
    let args : c.in_ok-place.args ≡ args_of s.name c.args.query.now.arguments = c.in_ok-place.ensures.args s ∙ ap (λ (x : List Stream). args_of (get_or x place s).name c.args.query.now.arguments) streams ∙ ap (λ (x : Stream). args_of x.name c.args.query.now.arguments) at_s.1 in
    let same = refusal_is db c.args.query.now c.args.moment c.streams.result.now place s l c.in_ok-place.args streams c.in_ok-place.ensures.refused c.in_ok-place.ensures.stream.0 at_s at_l args in
    subst (λ (o : Option ReadRefusal). MatchResult c.answer_over.result (λ x. o ≡ None) (λ e. Tells o e)) (sym same) c.answer_over.ensures.refused

pub returns-clause-answer : goal.returns-clause-answer
returns-clause-answer c =
    let db = c.args.state.now in
    let place = c.in_ok-place.place in
    let s : Stream = c.index-streams-place.result in
    let l : StreamParts = c.index-layouts-place.result in
    let streams : c.streams.result.now ≡ db.streams = c.streams.ensures.value ∙ c.catalog.ensures.streams in
    let others : c.streams-2.result.now ≡ db.streams = c.streams-2.ensures.value ∙ c.catalog-2.ensures.streams in
    let in_streams : place < length db.streams = omega (arith, c.in_ok-place.ensures.stream.1, ap (λ (x : List Stream). length x) streams) in
    let at_s : IsAt db.streams place s = (in_streams, sym (c.index-streams-place.is ∙ ap (λ (x : List Stream). get_or x place s) others)) in
    let at_l : IsAt db.layouts place l = (omega (arith, in_streams, layout_count db.streams db.layouts c.catalog.ensures.kept.layouts), sym (c.index-layouts-place.is ∙ ap (λ (x : List StreamParts). get_or x place l) c.layouts.ensures.value)) in
    let args : c.in_ok-place.args ≡ args_of s.name c.args.query.now.arguments = c.in_ok-place.ensures.args s ∙ ap (λ (x : List Stream). args_of (get_or x place s).name c.args.query.now.arguments) streams ∙ ap (λ (x : Stream). args_of x.name c.args.query.now.arguments) at_s.1 in
    let same = steps_are db c.args.query.now c.args.moment c.streams.result.now place s l c.in_ok-place.args streams c.in_ok-place.ensures.refused c.in_ok-place.ensures.stream.0 at_s at_l args in
    subst (λ (all : List Step). IfOk c.answer_over.result (λ a. IsAnswer db all a)) (sym same) c.answer_over.ensures.answer
