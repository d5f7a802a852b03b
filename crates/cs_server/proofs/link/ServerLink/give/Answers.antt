use Rattle.std.proofs.Common.{◌≡◌, ◌∙◌, not, Some, ap, subst}
use Rattle.cs_server.specs.Going.{HasGiven, HasMore, link_of}
use Rattle.cs_server.specs.State.{LinkState, last_of, answer_to, next_step, after_step}
use Rattle.cs_server.proofs.Views.{given_next, given_view, given_link}
use Rattle.cs_server.proofs.link.ServerLink.give.Goals as goal

pub invariant_of-self-2 : goal.invariant_of-self-2
invariant_of-self-2 c =
    let s = c.self.inside in
    let all = answer_to s.state.now s.moment (last_of s.asked) in
    let more : HasMore s.state.now all s.kept s.going = c.self.invariant.goes (ap (λ (m : LinkState). m.reading) c.self.view_is ∙ c.requires) in
    let gave : HasGiven s.state.now all s.kept s.going c.next_of.new.going c.in_ok-step.step = c.in_ok-step.ensures.gives all more.is in
    given_link s.state.now s.moment s.caught_up s.asked s.kept s.going c.next_of.new.going c.in_ok-step.step more gave (not c.is_closing.result) (ap not c.is_closing.ensures) c.self.invariant.state c.self.invariant.stamp c.self.invariant.index

pub returns-clause-served : goal.returns-clause-served
returns-clause-served c =
    let s = c.self.inside in
    let all = answer_to s.state.now s.moment (last_of s.asked) in
    let more : HasMore s.state.now all s.kept s.going = c.self.invariant.goes (ap (λ (m : LinkState). m.reading) c.self.view_is ∙ c.requires) in
    let gave : HasGiven s.state.now all s.kept s.going c.next_of.new.going c.in_ok-step.step = c.in_ok-step.ensures.gives all more.is in
    subst (λ (m : LinkState). (next_step m ≡ Some c.in_ok-step.step) × (link_of s.state.now s.moment c.counted-self-inside.result s.asked s.kept c.next_of.new.going (not c.is_closing.result) ≡ after_step m c.in_ok-step.step)) c.self.view_is (
      given_next s.state.now s.moment s.caught_up s.asked s.kept s.going c.next_of.new.going c.in_ok-step.step more gave s.reading,
      given_view s.state.now s.moment s.caught_up s.asked s.kept s.going c.next_of.new.going c.in_ok-step.step more gave c.counted-self-inside.result (not c.is_closing.result) s.reading c.counted-self-inside.ensures (ap not c.is_closing.ensures),
    )
