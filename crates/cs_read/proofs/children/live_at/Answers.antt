use Rattle.std.proofs.Common.{◌≡◌, ◌∙◌, List, map, filter, ap}
use Rattle.std.proofs.lemmas.Result.{IfOk-weaker}
use Rattle.cs_place.specs.declared.part.Part.{Part}
use Rattle.cs_place.specs.Part.{is_live}
use Rattle.cs_records.specs.declared.records.Child.{Child}
use Rattle.cs_steps.specs.Steps.{by_low, first_of, live_at}
use Rattle.cs_read.proofs.ByLow.{live_low}
use Rattle.cs_read.proofs.children.live_at.Goals as goal

pub returns-clause-children : goal.returns-clause-children
returns-clause-children c =
    let found : List Part = c.in_ok-parts.parts in
    let parts : List Part = c.args.layout.now.parts in
    let low = live_low c.args.layout.now.created parts c.parts-parts.ensures.layout.sound c.args.moment found c.in_ok-parts.ensures in
    let same : found ≡ by_low (filter (λ q. is_live q c.args.moment) parts) = c.live_lists_are_one-one.ensures parts c.args.moment found (by_low (filter (λ q. is_live q c.args.moment) parts)) c.in_ok-parts.ensures low in
    IfOk-weaker c.without_parents.result (λ (l : List Child). l ≡ map first_of found) (λ (l : List Child). l ≡ live_at parts c.args.moment) (λ l e. e ∙ ap (map first_of) same) c.without_parents.ensures
