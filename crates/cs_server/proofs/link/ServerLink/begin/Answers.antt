use Rattle.std.proofs.Common.{◌≡◌, None, Some, true, false, subst}
use Rattle.cs_server.specs.declared.kept.Opening.{Opening}
use Rattle.cs_server.specs.Going.{IsOpening, link_of}
use Rattle.cs_server.specs.State.{LinkState, after_open}
use Rattle.cs_server.specs.Typed.{place_named, refusal_of}
use Rattle.cs_server.proofs.Views.{again_link, again_view, anew_link, anew_view, refused_view}
use Rattle.cs_server.proofs.link.ServerLink.begin.Goals as goal

pub invariant_of-self-in-Again : goal.invariant_of-self-in-Again
invariant_of-self-in-Again c =
    let s = c.self.inside in
    let made = subst (λ (o : Opening). IsOpening s.state.now (place_named c.args.args.now.stream s.state.now.streams) c.args.args.now s.moment s.kept o) c.in-Again.is c.in_ok-opening.ensures in
    again_link s.state.now s.moment s.caught_up s.asked c.list.new.asked c.args.args.now c.in_ok-list.ensures.ok s.kept c.in-Again.reading made c.self.invariant.state c.self.invariant.stamp c.self.invariant.index

pub invariant_of-self-in-Anew : goal.invariant_of-self-in-Anew
invariant_of-self-in-Anew c =
    let s = c.self.inside in
    let made = subst (λ (o : Opening). IsOpening s.state.now (place_named c.args.args.now.stream s.state.now.streams) c.args.args.now s.moment s.kept o) c.in-Anew.is c.in_ok-opening.ensures in
    anew_link s.state.now s.moment s.caught_up s.asked c.list.new.asked c.args.args.now c.in_ok-list.ensures.ok s.kept c.in-Anew.kept c.in-Anew.reading made c.self.invariant.state c.self.invariant.stamp

pub returns-in-Refused-clause-served : goal.returns-in-Refused-clause-served
returns-in-Refused-clause-served c =
    let s = c.self.inside in
    let made = subst (λ (o : Opening). IsOpening s.state.now (place_named c.args.args.now.stream s.state.now.streams) c.args.args.now s.moment s.kept o) c.in-Refused.is c.in_ok-opening.ensures in
    subst (λ (m : LinkState). (refusal_of m.database c.args.args.now m.moment ≡ Some c.in-Refused.refusal) × (link_of s.state.now s.moment s.caught_up c.list.new.asked s.kept s.going false ≡ after_open m c.args.args.now)) c.self.view_is
    (made, refused_view s.state.now s.moment s.caught_up s.asked c.list.new.asked c.args.args.now c.in_ok-list.ensures.ok c.in-Refused.refusal s.kept s.going s.reading made)

pub returns-in-Again-clause-served : goal.returns-in-Again-clause-served
returns-in-Again-clause-served c =
    let s = c.self.inside in
    let made = subst (λ (o : Opening). IsOpening s.state.now (place_named c.args.args.now.stream s.state.now.streams) c.args.args.now s.moment s.kept o) c.in-Again.is c.in_ok-opening.ensures in
    subst (λ (m : LinkState). (refusal_of m.database c.args.args.now m.moment ≡ None) × (link_of s.state.now s.moment s.caught_up c.list.new.asked s.kept (Some c.in-Again.reading) true ≡ after_open m c.args.args.now)) c.self.view_is
    (again_view s.state.now s.moment s.caught_up s.asked c.list.new.asked c.args.args.now c.in_ok-list.ensures.ok s.kept c.in-Again.reading made s.going s.reading)

pub returns-in-Anew-clause-served : goal.returns-in-Anew-clause-served
returns-in-Anew-clause-served c =
    let s = c.self.inside in
    let made = subst (λ (o : Opening). IsOpening s.state.now (place_named c.args.args.now.stream s.state.now.streams) c.args.args.now s.moment s.kept o) c.in-Anew.is c.in_ok-opening.ensures in
    subst (λ (m : LinkState). (refusal_of m.database c.args.args.now m.moment ≡ None) × (link_of s.state.now s.moment s.caught_up c.list.new.asked (Some c.in-Anew.kept) (Some c.in-Anew.reading) true ≡ after_open m c.args.args.now)) c.self.view_is
    (anew_view s.state.now s.moment s.caught_up s.asked c.list.new.asked c.args.args.now c.in_ok-list.ensures.ok s.kept c.in-Anew.kept c.in-Anew.reading made s.going s.reading)
