use Rattle.std.proofs.Common.{rules, ◌≡◌, ◌∙◌, sym}
use Rattle.std.specs.List.{remove}
use Rattle.cs_schedule.proofs.Sorted.{out_at}
use Rattle.cs_schedule.proofs.slots.take_slot.Goals as goal

pub remove-requires : goal.remove-requires
remove-requires c =
    let u = out_at c.args.slot c.args.slots.now.items c.place_of-place.result c.requires.sorted c.requires.there (search rules) (search rules) (search rules) in
    let inside = u.0 in
    search rules

pub returns-clause-slots : goal.returns-clause-slots
returns-clause-slots c =
    let u = out_at c.args.slot c.args.slots.now.items c.place_of-place.result c.requires.sorted c.requires.there (search rules) (search rules) (search rules) in
    let made : c.remove.new.self.items ≡ remove c.args.slots.now.items c.place_of-place.result = search rules in
    made ∙ sym u.1
