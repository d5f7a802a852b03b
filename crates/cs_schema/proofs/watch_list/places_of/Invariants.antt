use Rattle.std.proofs.Common.{◌≡◌, take}
use Rattle.cs_schema.specs.WatchList.{ItemPlaces}
use Rattle.cs_schema.proofs.watch_list.places_of.Given as goal

abbrev pub invariant-loop-item : goal.invariant-loop-item
invariant-loop-item l = record {
  places : ItemPlaces (take l.item-index l.items) l.places;
  at : l.place ≡ l.item-index;
}
