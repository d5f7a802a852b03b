use Rattle.std.proofs.Common.{rules, arith, ◌≡◌, ◌-◌, ◌+◌, ◌<◌, length}
use Rattle.cs_script.proofs.Columns.{leads_step}
use Rattle.cs_script.proofs.finder.places_of.Goals as goal

pub loop-place-preserved : goal.loop-place-preserved
loop-place-preserved c =
    let last : c.loop-place.place ≡ (c.loop-place.place - 1) + 1 = omega arith in
    let within : c.loop-place.place - 1 < length c.args.columns.now = omega arith in
    record {
      within = omega arith;
      leads = leads_step c.loop-place.places c.insert.new.self c.args.columns.now (c.loop-place.place - 1) c.loop-place.place c.index-columns-place.result last within c.index-columns-place.is c.loop-place.invariant.leads (λ q. search rules);
    }
