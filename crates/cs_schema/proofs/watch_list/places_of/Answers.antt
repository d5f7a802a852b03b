use Rattle.std.proofs.Common.{rules}
use Rattle.cs_schema.proofs.WatchPlaces.{items_step}
use Rattle.cs_schema.proofs.watch_list.places_of.Goals as goal

pub loop-item-preserved : goal.loop-item-preserved
loop-item-preserved c = record {
  places = items_step c.loop-item.places c.insert.new.self c.args.items.now c.loop-item.item-index c.loop-item.place c.item-item.result (search rules) (search rules) c.loop-item.invariant.at c.loop-item.invariant.places (λ q. search rules);
  at = search rules;
}
