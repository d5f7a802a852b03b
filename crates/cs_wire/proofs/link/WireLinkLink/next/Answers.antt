use Rattle.std.proofs.Common.{ap, ◌∙◌, Some, Ok}
use Rattle.std.specs.Option.{option_map}
use Rattle.cs_wire.specs.Seen.{so_far}
use Rattle.cs_wire.proofs.Present.{next_present, next_honest}
use Rattle.cs_wire.proofs.Unfailing.{step_never_fails, quiet_read, numbered}
use Rattle.std.proofs.Math.Logic.{∥∥₁_map}
use Rattle.cs_wire.proofs.link.WireLinkLink.next.Goals as goal

pub returns-in-Ok-Record-clause-present : goal.returns-in-Ok-Record-clause-present
returns-in-Ok-Record-clause-present g c =
    next_present (g.D.FeedDial.answer c.args.self.now.dial) (g.D.FeedDial.tells c.args.self.now.dial) (g.D.FeedDial.tells c.step.new.self.dial) c.args.self.now.reading (g.D.FeedDial.moment c.args.self.now.dial) (g.D.FeedDial.moment c.step.new.self.dial) _ _ _ _ _ _ _ c.step.result _ (ap g.D.FeedDial.tells c.step.ensures.dial) (ap g.D.FeedDial.moment c.step.ensures.dial) (ap (option_map (λ a. record { args = a.args.value; opened = a.opened.value })) c.step.ensures.asked) (ap (option_map (λ s. s.value)) c.step.ensures.stopped) (c.in-Ok-Record.is ∙ ap Ok c.in-Ok-Record.field-0-is) c.step.ensures.lines c.requires c.args.self.now.going

pub returns-in-Ok-Record-clause-honest : goal.returns-in-Ok-Record-clause-honest
returns-in-Ok-Record-clause-honest g c =
    next_honest (g.D.FeedDial.answer c.args.self.now.dial) (g.D.FeedDial.tells c.args.self.now.dial) (g.D.FeedDial.tells c.step.new.self.dial) c.args.self.now.reading (g.D.FeedDial.moment c.args.self.now.dial) (g.D.FeedDial.moment c.step.new.self.dial) _ _ _ _ _ _ _ c.step.result _ (g.D.FeedDial.feed c.args.self.now.dial) (g.D.FeedDial.feed c.step.new.self.dial) (g.D.FeedDial.honest c.args.self.now.dial) (ap g.D.FeedDial.tells c.step.ensures.dial) (ap g.D.FeedDial.moment c.step.ensures.dial) (ap (option_map (λ a. record { args = a.args.value; opened = a.opened.value })) c.step.ensures.asked) (ap (option_map (λ s. s.value)) c.step.ensures.stopped) (c.in-Ok-Record.is ∙ ap Ok c.in-Ok-Record.field-0-is) c.step.ensures.lines c.requires c.args.self.now.going (λ stream. ap (λ d. g.D.FeedDial.feed d stream) c.step.ensures.dial)

pub returns-in-Ok-Closing-clause-present : goal.returns-in-Ok-Closing-clause-present
returns-in-Ok-Closing-clause-present g c =
    next_present (g.D.FeedDial.answer c.args.self.now.dial) (g.D.FeedDial.tells c.args.self.now.dial) (g.D.FeedDial.tells c.step.new.self.dial) c.args.self.now.reading (g.D.FeedDial.moment c.args.self.now.dial) (g.D.FeedDial.moment c.step.new.self.dial) _ _ _ _ _ _ _ c.step.result _ (ap g.D.FeedDial.tells c.step.ensures.dial) (ap g.D.FeedDial.moment c.step.ensures.dial) (ap (option_map (λ a. record { args = a.args.value; opened = a.opened.value })) c.step.ensures.asked) (ap (option_map (λ s. s.value)) c.step.ensures.stopped) (c.in-Ok-Closing.is ∙ ap Ok c.in-Ok-Closing.field-0-is) c.step.ensures.lines c.requires c.args.self.now.going

pub returns-in-Ok-Closing-clause-honest : goal.returns-in-Ok-Closing-clause-honest
returns-in-Ok-Closing-clause-honest g c =
    next_honest (g.D.FeedDial.answer c.args.self.now.dial) (g.D.FeedDial.tells c.args.self.now.dial) (g.D.FeedDial.tells c.step.new.self.dial) c.args.self.now.reading (g.D.FeedDial.moment c.args.self.now.dial) (g.D.FeedDial.moment c.step.new.self.dial) _ _ _ _ _ _ _ c.step.result _ (g.D.FeedDial.feed c.args.self.now.dial) (g.D.FeedDial.feed c.step.new.self.dial) (g.D.FeedDial.honest c.args.self.now.dial) (ap g.D.FeedDial.tells c.step.ensures.dial) (ap g.D.FeedDial.moment c.step.ensures.dial) (ap (option_map (λ a. record { args = a.args.value; opened = a.opened.value })) c.step.ensures.asked) (ap (option_map (λ s. s.value)) c.step.ensures.stopped) (c.in-Ok-Closing.is ∙ ap Ok c.in-Ok-Closing.field-0-is) c.step.ensures.lines c.requires c.args.self.now.going (λ stream. ap (λ d. g.D.FeedDial.feed d stream) c.step.ensures.dial)

pub returns-in-Err-clause-present : goal.returns-in-Err-clause-present
returns-in-Err-clause-present g c =
    next_present (g.D.FeedDial.answer c.args.self.now.dial) (g.D.FeedDial.tells c.args.self.now.dial) (g.D.FeedDial.tells c.step.new.self.dial) c.args.self.now.reading (g.D.FeedDial.moment c.args.self.now.dial) (g.D.FeedDial.moment c.step.new.self.dial) _ _ _ _ _ _ _ c.step.result _ (ap g.D.FeedDial.tells c.step.ensures.dial) (ap g.D.FeedDial.moment c.step.ensures.dial) (ap (option_map (λ a. record { args = a.args.value; opened = a.opened.value })) c.step.ensures.asked) (ap Some c.of.ensures) c.in-Err.is c.step.ensures.lines c.requires c.args.self.now.going

pub returns-in-Err-clause-honest : goal.returns-in-Err-clause-honest
returns-in-Err-clause-honest g c =
    next_honest (g.D.FeedDial.answer c.args.self.now.dial) (g.D.FeedDial.tells c.args.self.now.dial) (g.D.FeedDial.tells c.step.new.self.dial) c.args.self.now.reading (g.D.FeedDial.moment c.args.self.now.dial) (g.D.FeedDial.moment c.step.new.self.dial) _ _ _ _ _ _ _ c.step.result _ (g.D.FeedDial.feed c.args.self.now.dial) (g.D.FeedDial.feed c.step.new.self.dial) (g.D.FeedDial.honest c.args.self.now.dial) (ap g.D.FeedDial.tells c.step.ensures.dial) (ap g.D.FeedDial.moment c.step.ensures.dial) (ap (option_map (λ a. record { args = a.args.value; opened = a.opened.value })) c.step.ensures.asked) (ap Some c.of.ensures) c.in-Err.is c.step.ensures.lines c.requires c.args.self.now.going (λ stream. ap (λ d. g.D.FeedDial.feed d stream) c.step.ensures.dial)

pub returns-in-Err-clause-never_fails : goal.returns-in-Err-clause-never_fails
returns-in-Err-clause-never_fails g c =
    λ t read f p h e.
    let quiet = quiet_read so_far _ (λ l k. k l.conn (g.met.D.C.Conn.same_now l.conn)) c.step.new.self.lines (∥∥₁_map c.step.new.self.quiet (λ k. k (ap g.D.FeedDial.faultless c.step.ensures.dial ∙ t))) in
    step_never_fails (g.D.FeedDial.answer c.args.self.now.dial) (g.D.FeedDial.tells c.args.self.now.dial) c.args.self.now.reading (g.D.FeedDial.moment c.args.self.now.dial) _ _ _ _ _ (g.D.FeedDial.feed c.args.self.now.dial) (g.D.FeedDial.honest c.args.self.now.dial) c.step.result c.step.ensures.lines (c.in-Err.is ∙ e) quiet c.requires c.args.self.now.going read f p h

pub returns-in-Err-clause-number_told : goal.returns-in-Err-clause-number_told
returns-in-Err-clause-number_told g c =
    λ read p. numbered (g.D.FeedDial.answer c.args.self.now.dial) (g.D.FeedDial.tells c.args.self.now.dial) c.args.self.now.reading (g.D.FeedDial.moment c.args.self.now.dial) _ _ _ _ _ c.requires c.args.self.now.going read p c.in-Err.ensures.number
