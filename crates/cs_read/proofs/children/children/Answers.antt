use Rattle.std.proofs.Common.{◌≡◌, ◌∙◌, ◌≤◌, List, length, map, sym, ap, arith, slice_index_or, []}
use Rattle.std.proofs.lemmas.List.{length-map}
use Rattle.std.proofs.lemmas.Result.{IfOk-weaker}
use Rattle.cs_place.specs.declared.part.Part.{Part}
use Rattle.cs_records.specs.declared.records.Child.{Child}
use Rattle.cs_types.specs.Names.{is_among}
use Rattle.cs_types.specs.Members.{filter_shorter}
use Rattle.cs_partitions.specs.Layout.{first_part}
use Rattle.cs_steps.specs.Steps.{by_low, child_of, children_of}
use Rattle.cs_read.proofs.ByLow.{rising_stay}
use Rattle.cs_read.proofs.children.children.Goals as goal

pub returns-clause-children : goal.returns-clause-children
returns-clause-children c = λ d.
    let found : List Part = c.in_ok-parts.parts in
    IfOk-weaker c.with_parents.result (λ (l : List Child). l ≡ map child_of found) (λ (l : List Child). l ≡ children_of c.args.layout.now.parts (slice_index_or c.args.layout.now.parts c.args.place d))
    (λ l e. e ∙ ap (map child_of) (sym (rising_stay found c.in_ok-parts.ensures.rising)) ∙ ap (λ (ps : List Part). map child_of (by_low ps)) (c.in_ok-parts.ensures.children d))
    c.with_parents.ensures

pub returns-clause-few : goal.returns-clause-few
returns-clause-few c =
    let found : List Part = c.in_ok-parts.parts in
    let any : Part = first_part [] 0 in
    let token = (slice_index_or c.args.layout.now.parts c.args.place any).token in
    IfOk-weaker c.with_parents.result (λ (l : List Child). l ≡ map child_of found) (λ (l : List Child). length l ≤ 65536)
    (λ l e. omega (arith, ap length e, length-map found child_of, ap length (c.in_ok-parts.ensures.children any), filter_shorter (λ (p : Part). is_among token p.parents) c.args.layout.now.parts, c.parts-parts.ensures.layout.count))
    c.with_parents.ensures
