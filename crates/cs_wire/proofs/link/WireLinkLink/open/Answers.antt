use Rattle.std.proofs.Common.{◌∙◌}
use Rattle.cs_wire.proofs.Present.{opens_present, opens_honest, opens_going}
use Rattle.cs_wire.proofs.link.WireLinkLink.open.Goals as goal

pub returns-in-Ok-clause-present : goal.returns-in-Ok-clause-present
returns-in-Ok-clause-present g c =
    opens_present (g.D.FeedDial.answer c.begin-begun.new.dial) (g.D.FeedDial.tells c.args.self.now.dial) (g.D.FeedDial.tells c.begin-begun.new.dial) _ _ _ _ _ _ c.args.args.now c.of.result.value c.of-2.result.value c.begin-begun.result.opened _ c.of.ensures c.of-2.ensures c.in-Ok.is (g.met.D.FeedDial.tells_stays c.args.self.now.dial c.begin-begun.new.dial c.begin-begun.ensures.object) c.begin-begun.ensures.begun

pub returns-in-Ok-clause-honest : goal.returns-in-Ok-clause-honest
returns-in-Ok-clause-honest g c =
    opens_honest (g.D.FeedDial.answer c.begin-begun.new.dial) (g.D.FeedDial.tells c.args.self.now.dial) (g.D.FeedDial.tells c.begin-begun.new.dial) _ _ _ _ _ _ c.args.args.now c.of.result.value c.of-2.result.value c.begin-begun.result.opened (g.D.FeedDial.feed c.args.self.now.dial) (g.D.FeedDial.feed c.begin-begun.new.dial) (g.D.FeedDial.honest c.begin-begun.new.dial) c.of.ensures c.of-2.ensures (g.met.D.FeedDial.tells_stays c.args.self.now.dial c.begin-begun.new.dial c.begin-begun.ensures.object) c.begin-begun.ensures.begun (g.met.D.FeedDial.feed_stays c.args.self.now.dial c.begin-begun.new.dial c.begin-begun.ensures.object)

pub returns-in-Err-clause-present : goal.returns-in-Err-clause-present
returns-in-Err-clause-present g c =
    opens_present (g.D.FeedDial.answer c.begin-begun.new.dial) (g.D.FeedDial.tells c.args.self.now.dial) (g.D.FeedDial.tells c.begin-begun.new.dial) _ _ _ _ _ _ c.args.args.now c.of.result.value c.of-2.result.value c.begin-begun.result.opened _ c.of.ensures c.of-2.ensures c.in-Err.is (g.met.D.FeedDial.tells_stays c.args.self.now.dial c.begin-begun.new.dial c.begin-begun.ensures.object) c.begin-begun.ensures.begun

pub returns-in-Err-clause-honest : goal.returns-in-Err-clause-honest
returns-in-Err-clause-honest g c =
    opens_honest (g.D.FeedDial.answer c.begin-begun.new.dial) (g.D.FeedDial.tells c.args.self.now.dial) (g.D.FeedDial.tells c.begin-begun.new.dial) _ _ _ _ _ _ c.args.args.now c.of.result.value c.of-2.result.value c.begin-begun.result.opened (g.D.FeedDial.feed c.args.self.now.dial) (g.D.FeedDial.feed c.begin-begun.new.dial) (g.D.FeedDial.honest c.begin-begun.new.dial) c.of.ensures c.of-2.ensures (g.met.D.FeedDial.tells_stays c.args.self.now.dial c.begin-begun.new.dial c.begin-begun.ensures.object) c.begin-begun.ensures.begun (g.met.D.FeedDial.feed_stays c.args.self.now.dial c.begin-begun.new.dial c.begin-begun.ensures.object)

pub invariant_of-self-clause-going : goal.invariant_of-self-clause-going
invariant_of-self-clause-going g c =
    opens_going (g.D.FeedDial.answer c.begin-begun.new.dial) (g.D.FeedDial.tells c.begin-begun.new.dial) _ _ c.args.args.now c.of.result.value c.in-Ok.field-0 c.of-2.result.value c.begin-begun.result.opened c.of.ensures c.of-2.ensures c.in-Ok.is c.begin-begun.ensures.begun

pub returns-in-Err-clause-never_fails : goal.returns-in-Err-clause-never_fails
returns-in-Err-clause-never_fails g c =
    λ t u f h e.
    let same = c.begin-begun.ensures.object in
    c.begin-begun.ensures.never_fails (g.met.D.FeedDial.faultless_stays _ _ same ∙ t) (g.met.D.FeedDial.tells_stays _ _ same ∙ u) f (g.met.D.FeedDial.feed_stays _ _ same _ ∙ h) (c.in-Err.is ∙ e)
