use Rattle.std.proofs.Common.{◌<◌, ◌∙◌, ap, sym, subst, length}
use Rattle.cs_schedule.specs.Open.{put_open, take_open, open_of, least}
use Rattle.cs_schedule.specs.Update.{moved, with_moved, IsThere}
use Rattle.cs_schedule.proofs.Turns.{keys_opens, keys_rise}
use Rattle.cs_schedule.proofs.Unfinished.{open_changed}
use Rattle.cs_schedule.proofs.watermark.least_behind.Goals as goal

pub least_moved-requires : goal.least_moved-requires
least_moved-requires c = keys_rise c.args.opens.now c.args.rows.now c.requires.opens

pub least_of-requires : goal.least_of-requires
least_of-requires c = keys_rise c.args.opens.now c.args.rows.now c.requires.opens

pub returns-in-Some : goal.returns-in-Some
returns-in-Some c =
    let there : c.in-Some.moved.place < length c.args.rows.now = subst (λ o. IsThere o c.args.rows.now) c.in-Some.is c.requires.there in
    c.least_moved.ensures
    ∙ ap (λ l. least c.args.end (put_open (moved c.in-Some.moved c.index-rows-moved.result) (take_open c.index-rows-moved.result l))) (keys_opens c.args.opens.now c.args.rows.now c.requires.opens)
    ∙ ap (least c.args.end) (sym (open_changed (moved c.in-Some.moved) c.args.rows.now c.in-Some.moved.place c.index-rows-moved.result there c.index-rows-moved.is))
    ∙ ap (λ o. least c.args.end (open_of (with_moved o c.args.rows.now))) (sym c.in-Some.is)

pub returns-in-None : goal.returns-in-None
returns-in-None c =
    c.least_of.ensures
    ∙ ap (least c.args.end) (keys_opens c.args.opens.now c.args.rows.now c.requires.opens)
    ∙ ap (λ o. least c.args.end (open_of (with_moved o c.args.rows.now))) (sym c.in-None.is)
