use Rattle.std.proofs.Common.{◌∙◌, ap, sym}
use Rattle.cs_schedule.specs.Open.{least}
use Rattle.cs_schedule.proofs.Turns.{keys_opens, keys_rise}
use Rattle.cs_schedule.proofs.Unfinished.{some_mark}
use Rattle.cs_schedule.proofs.watermark.mark_of.Goals as goal

pub least_of-requires : goal.least_of-requires
least_of-requires c = keys_rise c.args.opens.now c.args.rows.now c.requires

pub returns : goal.returns
returns c = sym (some_mark c.args.end c.least_of.result c.args.rows.now (sym c.has_no_row.ensures ∙ c.if-has_no_row.false) (c.least_of.ensures ∙ ap (least c.args.end) (keys_opens c.args.opens.now c.args.rows.now c.requires)))
