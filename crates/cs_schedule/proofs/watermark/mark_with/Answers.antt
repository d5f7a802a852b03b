use Rattle.std.proofs.Common.{◌∙◌, ap, sym}
use Rattle.cs_schedule.specs.Open.{least_among}
use Rattle.cs_schedule.specs.Update.{updated}
use Rattle.cs_schedule.proofs.Unfinished.{some_mark, none_updated, least_updated}
use Rattle.cs_schedule.proofs.watermark.mark_with.Goals as goal

pub returns : goal.returns
returns c =
    sym (some_mark c.args.end c.least_with.result (updated c.args.moved.now c.args.new.now c.args.rows.now)
    (none_updated c.args.moved.now c.args.new.now c.args.rows.now ∙ sym c.have_none.ensures ∙ c.if-have_none.false)
    (least_updated c.args.end c.least_with.result c.args.moved.now c.args.new.now c.args.rows.now (c.least_with.ensures ∙ ap (λ k. least_among k c.args.new.now) c.least_behind-least.ensures)))
