use Rattle.std.proofs.Common.{rules, ◌≡◌, ◌∙◌, sym, ap, true, false, take, Some}
use Rattle.cs_types.specs.Names.{is_among}
use Rattle.cs_schema.proofs.Again.{names_step, again_step, again_here}
use Rattle.cs_schema.proofs.names.again.Goals as goal

pub returns-then-contains_key : goal.returns-then-contains_key
returns-then-contains_key c =
    let named : is_among c.name-item.result (take c.loop-name.name-index c.args.names.now) ≡ true = sym (c.loop-name.invariant.names c.name-item.result) ∙ search rules in
    let is : c.in_ok-copy.field-0 ≡ c.name-item.result = search rules in
    ap Some is ∙ sym (sym c.loop-name.invariant.rest ∙ again_here c.args.names.now c.loop-name.name-index c.name-item.result (search rules) (search rules) named)

pub loop-name-preserved : goal.loop-name-preserved
loop-name-preserved c =
    let unnamed : is_among c.name-item.result (take c.loop-name.name-index c.args.names.now) ≡ false = sym (c.loop-name.invariant.names c.name-item.result) ∙ search rules in
    record {
      names = names_step c.loop-name.seen c.insert.new.self c.args.names.now c.loop-name.name-index c.name-item.result (search rules) (search rules) c.loop-name.invariant.names (λ q. search rules);
      rest = again_step c.args.names.now c.loop-name.name-index c.name-item.result (search rules) (search rules) unnamed ∙ c.loop-name.invariant.rest;
    }
