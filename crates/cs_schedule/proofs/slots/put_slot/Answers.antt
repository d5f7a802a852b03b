use Rattle.std.proofs.Common.{rules, ◌≡◌, ◌∙◌, sym}
use Rattle.std.specs.List.{insert}
use Rattle.cs_schedule.proofs.Sorted.{slot_at}
use Rattle.cs_schedule.proofs.slots.put_slot.Goals as goal

pub returns-clause-slots : goal.returns-clause-slots
returns-clause-slots c =
    let made : c.insert.new.self.items ≡ insert c.args.slots.now.items c.place_of-place.result c.args.slot = search rules in
    let placed = slot_at c.args.slot c.args.slots.now.items c.place_of-place.result (search rules) (search rules) (search rules) in
    made ∙ sym placed
