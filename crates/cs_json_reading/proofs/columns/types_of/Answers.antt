use Rattle.std.proofs.Common.{rules, ◌≡◌, ◌∙◌, sym, ap, false, true, take, is_some, refl}
use Rattle.cs_json_reading.specs.Columns.{column_type}
use Rattle.cs_json_reading.proofs.Again.{types_step, again_step, again_here}
use Rattle.cs_json_reading.proofs.columns.types_of.Goals as goal

pub returns-then-contains_key : goal.returns-then-contains_key
returns-then-contains_key c =
    let named : is_some (column_type c.column-item.result.name (take c.loop-column.column-index c.args.columns.now)) ≡ true = ap is_some (sym (c.loop-column.invariant.holds c.column-item.result.name)) ∙ search rules in
    let again = sym c.loop-column.invariant.rest ∙ again_here c.args.columns.now c.loop-column.column-index c.column-item.result (search rules) (search rules) named in
    record { holds = tt; apart = λ e. rw (again, c.bad.ensures e, c.as_str.ensures) refl }

pub loop-column-preserved : goal.loop-column-preserved
loop-column-preserved c =
    let unnamed : is_some (column_type c.column-item.result.name (take c.loop-column.column-index c.args.columns.now)) ≡ false = ap is_some (sym (c.loop-column.invariant.holds c.column-item.result.name)) ∙ search rules in
    record {
      holds = types_step c.loop-column.types c.insert.new.self c.args.columns.now c.loop-column.column-index c.column-item.result (search rules) (search rules) c.loop-column.invariant.holds (λ q. search rules);
      rest = again_step c.args.columns.now c.loop-column.column-index c.column-item.result (search rules) (search rules) unnamed ∙ c.loop-column.invariant.rest;
    }
