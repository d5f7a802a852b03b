use Rattle.std.proofs.Common.{◌≡◌, ◌∙◌, ◌<◌, List, length, None, Some, sym, ap, subst, Option, arith}
use Rattle.std.proofs.lemmas.Result.{IfOk-weaker}
use Rattle.cs_place.specs.declared.part.Part.{Part}
use Rattle.cs_partitions.specs.Reshape.{index_named}
use Rattle.cs_steps.specs.Cursor.{IsAt}
use Rattle.cs_steps.specs.Honest.{IsAccepted}
use Rattle.cs_steps.specs.Steps.{steps_of_part}
use Rattle.cs_read.specs.Asked.{asked_of, steps_asked, steps_by_token, steps_of_named}
use Rattle.cs_read.specs.Content.{steps_ahead}
use Rattle.cs_read.proofs.Accepted.{part_found, accepted}
use Rattle.cs_read.proofs.Members.{one_at}
use Rattle.cs_read.proofs.Named.{index_some, index_none}
use Rattle.cs_read.proofs.reading.of_token.Goals as goal

pub unreachable-requires : goal.unreachable-requires
unreachable-requires c =
    let index : index_named c.args.token.now c.args.of.now.parts ≡ None = ap (index_named c.args.token.now) (sym c.layout.ensures) ∙ sym c.index_of.ensures.index ∙ c.in_default.is in
    let none = index_none c.args.token.now c.args.of.now.parts index in
    let found = part_found c.args.of.now.parts c.args.of.now.created c.args.of.now.retention_us c.args.args.now c.args.moment c.requires.accepted c.args.token.now c.requires.token in
    no found.0 (sym none ∙ found.1)
  where
    no : (p : Part) → None ≡ Some p → ⊥
    no p e = cc

pub of_part-requires-clause-accepted : goal.of_part-requires-clause-accepted
of_part-requires-clause-accepted c =
    let parts : List Part = c.args.of.now.parts in
    let index : index_named c.args.token.now parts ≡ Some c.in-Some.place = ap (index_named c.args.token.now) (sym c.layout.ensures) ∙ sym c.index_of.ensures.index ∙ c.in-Some.is in
    let at = index_some c.args.token.now parts c.in-Some.place index in
    let found = part_found parts c.args.of.now.created c.args.of.now.retention_us c.args.args.now c.args.moment c.requires.accepted c.args.token.now c.requires.token in
    let here : IsAt parts c.in-Some.place c.index-parts-place.result = subst (λ (ps : List Part). IsAt ps c.in-Some.place c.index-parts-place.result) (c.parts.ensures.value ∙ c.layout-2.ensures) (subst (λ n. c.in-Some.place < n) (ap length (sym (c.parts.ensures.value ∙ c.layout-2.ensures))) at.1.0, sym c.index-parts-place.is) in
    let same : at.0 ≡ c.index-parts-place.result = one_at parts c.in-Some.place at.0 c.index-parts-place.result at.1 here in
    let one : found.0 ≡ at.0 = some_same found.0 at.0 (sym found.1 ∙ at.2) in
    subst (λ p. IsAccepted parts (asked_of c.args.args.now c.args.moment p)) (one ∙ same) (accepted parts c.args.of.now.created c.args.of.now.retention_us c.args.args.now c.args.moment c.requires.accepted c.args.token.now found.0 (omega (arith, c.us-us.ensures.value, c.us-us.ensures.range)) found.1 found.2)
  where
    some_same : (a b : Part) → Some a ≡ Some b → a ≡ b
    some_same a b e = cc

pub returns-clause-steps : goal.returns-clause-steps
returns-clause-steps c =
    let parts : List Part = c.args.of.now.parts in
    let index : index_named c.args.token.now parts ≡ Some c.in-Some.place = ap (index_named c.args.token.now) (sym c.layout.ensures) ∙ sym c.index_of.ensures.index ∙ c.in-Some.is in
    let at = index_some c.args.token.now parts c.in-Some.place index in
    let here : IsAt parts c.in-Some.place c.index-parts-place.result = subst (λ (ps : List Part). IsAt ps c.in-Some.place c.index-parts-place.result) (c.parts.ensures.value ∙ c.layout-2.ensures) (subst (λ n. c.in-Some.place < n) (ap length (sym (c.parts.ensures.value ∙ c.layout-2.ensures))) at.1.0, sym c.index-parts-place.is) in
    let same : at.0 ≡ c.index-parts-place.result = one_at parts c.in-Some.place at.0 c.index-parts-place.result at.1 here in
    let steps : steps_of_part parts c.args.of.now.items (asked_of c.args.args.now c.args.moment c.index-parts-place.result) ≡ steps_asked parts c.args.of.now.items c.args.args.now c.args.moment =
    ap (λ p. steps_of_part parts c.args.of.now.items (asked_of c.args.args.now c.args.moment p)) (sym same)
    ∙ ap (λ (o : Option Part). steps_of_named parts c.args.of.now.items c.args.args.now c.args.moment o) (sym at.2)
    ∙ ap (λ o. steps_by_token parts c.args.of.now.items c.args.args.now c.args.moment o) (sym c.requires.token) in
    IfOk-weaker c.of_part.result (λ r. steps_ahead c.args.of.now r ≡ steps_of_part parts c.args.of.now.items (asked_of c.args.args.now c.args.moment c.index-parts-place.result)) (λ r. steps_ahead c.args.of.now r ≡ steps_asked parts c.args.of.now.items c.args.args.now c.args.moment)
    (λ r e. e ∙ steps) c.of_part.ensures.steps
