use Rattle.std.proofs.Common.{◌≡◌, ◌∙◌, ap, take, drop, ◌*◌}
use Rattle.cs_steps.proofs.Chunks.{take_least}
use Rattle.cs_steps.proofs.steps.child_record.Goals as goal

pub returns : goal.returns
returns c =
    let list : c.in_ok-copied.field-0 ≡ take 1024 (drop (1024 * c.args.place) c.args.children.now) =
    c.in_ok-copied.ensures
    ∙ c.split_at-2.ensures.front
    ∙ take_least c.split_at.result.1.now c.min-count.result 1024 c.min-count.ensures
    ∙ ap (take 1024) c.split_at.ensures.back in
    λ i. record { start = c.args.start; sequence = c.args.place; children = list i }
