use Rattle.std.proofs.Common.{◌<◌, ◌∙◌, sym, subst, length, get_or, arith}
use Rattle.cs_schedule.specs.declared.row.Row.{Row}
use Rattle.cs_schedule.specs.declared.slots.Slot.{Slot}
use Rattle.cs_schedule.specs.Board.{IsLowestPair}
use Rattle.cs_schedule.proofs.Sorted.{at_any}
use Rattle.cs_schedule.proofs.Turns.{all_finished, lowest_is, none_of}
use Rattle.cs_schedule.proofs.watermark.lowest.Goals as goal

pub returns-in-empty : goal.returns-in-empty
returns-in-empty c = all_finished c.args.rows.now (sym c.requires.opens ∙ none_of c.args.opens.now (omega (arith, c.in-empty.len_below)))

pub returns-in-len1-up : goal.returns-in-len1-up
returns-in-len1-up c =
    let d : Slot = record { key = 0; place = 0 } in
    let s = get_or c.args.opens.now 0 d in
    let some : 0 < length c.args.opens.now = omega (arith, c.in-len1-up.len_at_least) in
    subst (λ (z : Row). IsLowestPair c.args.rows.now s.key z.token) c.index-rows-first.is
    (lowest_is c.args.rows.now c.args.opens.now s c.index-rows-first.result c.requires.ordered c.requires.opens some (at_any c.args.opens.now 0 d s some) c.index-rows-first.is)
