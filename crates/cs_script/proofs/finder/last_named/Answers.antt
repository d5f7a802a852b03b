use Rattle.std.proofs.Common.{◌≡◌, ◌-◌, ◌+◌, ◌<◌, length, take, Some, cond, sym, ap, ◌∙◌, arith}
use Rattle.cs_schema.specs.Tables.{table_named}
use Rattle.cs_script.proofs.Named.{last_step}
use Rattle.cs_script.proofs.finder.last_named.Goals as goal

pub returns-then-is_text : goal.returns-then-is_text
returns-then-is_text c =
    let place = c.loop-place.place in
    let table = c.index-tables-place.result in
    let next : place ≡ (place - 1) + 1 = omega arith in
    let within : place - 1 < length c.args.tables.now = omega arith in
    ap (λ b. cond b (Some table) (table_named c.args.name.now (take (place - 1) c.args.tables.now))) c.if-is_text.ensures.same
    ∙ sym (last_step c.args.name.now c.args.tables.now (place - 1) place table next within c.index-tables-place.is) ∙ c.loop-place.invariant.named

pub loop-place-preserved : goal.loop-place-preserved
loop-place-preserved c =
    let place = c.loop-place.place in
    let table = c.index-tables-place.result in
    let next : place ≡ (place - 1) + 1 = omega arith in
    let within : place - 1 < length c.args.tables.now = omega arith in
    record {
      within = omega arith;
      named = ap (λ b. cond b (Some table) (table_named c.args.name.now (take (place - 1) c.args.tables.now))) c.if-is_text.ensures.same
          ∙ sym (last_step c.args.name.now c.args.tables.now (place - 1) place table next within c.index-tables-place.is) ∙ c.loop-place.invariant.named;
    }
