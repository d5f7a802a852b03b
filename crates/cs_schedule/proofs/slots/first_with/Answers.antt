use Rattle.std.proofs.Common.{rules, ◌<◌, length}
use Rattle.cs_schedule.proofs.Sorted.{first_none, first_some, first_other}
use Rattle.cs_schedule.proofs.slots.first_with.Goals as goal

pub returns-then-index-slots : goal.returns-then-index-slots
returns-then-index-slots c = first_none c.args.slots.now c.args.key c.args.from c.place_of-index.result c.requires (search rules) c.place_of-index.ensures.below

pub returns-then-slot-key : goal.returns-then-slot-key
returns-then-slot-key c =
    let inside : c.place_of-index.result < length c.args.slots.now = search rules in
    first_some c.args.slots.now c.args.key c.args.from c.place_of-index.result _ c.requires inside c.place_of-index.ensures.below (search rules) (search rules)

pub returns : goal.returns
returns c =
    let inside : c.place_of-index.result < length c.args.slots.now = search rules in
    first_other c.args.slots.now c.args.key c.args.from c.place_of-index.result _ c.requires inside c.place_of-index.ensures.below c.place_of-index.ensures.over c.if-slot-key.false
