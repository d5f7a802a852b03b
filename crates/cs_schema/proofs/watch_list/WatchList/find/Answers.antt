use Rattle.std.proofs.Common.{rules, ◌≡◌, ◌∙◌, sym, ap, Some, None}
use Rattle.std.specs.Ordering.{nat_cmp}
use Rattle.std.specs.Cmp.Lexicographic.{slice_cmp}
use Rattle.std.specs.BTreeMap.{get}
use Rattle.std.specs.List.{slice_get}
use Rattle.cs_schema.specs.WatchList.{item_of}
use Rattle.cs_schema.proofs.WatchPlaces.{item_stands, item_standing}
use Rattle.cs_schema.proofs.watch_list.WatchList.find.Goals as goal

pub returns-in-Some : goal.returns-in-Some
returns-in-Some c =
    let there : get (slice_cmp nat_cmp) c.self.inside.places c.args.table.now ≡ Some c.in-Some.place.now = search rules in
    let listed : c.self.inside.items ≡ c.args.self.now = search rules in
    let sliced : c.as_slice.result.now ≡ c.self.inside.items = search rules in
    let found : item_standing c.self.inside.items (Some c.in-Some.place.now) ≡ item_of c.args.table.now c.self.inside.items = ap (item_standing c.self.inside.items) (sym there ∙ c.self.invariant c.args.table.now) ∙ (item_stands c.args.table.now c.self.inside.items).0 in
    c.item_at.ensures ∙ ap (λ l. slice_get l c.in-Some.place.now) sliced ∙ found ∙ ap (item_of c.args.table.now) listed

pub returns-in-None : goal.returns-in-None
returns-in-None c =
    let there : get (slice_cmp nat_cmp) c.self.inside.places c.args.table.now ≡ None = search rules in
    let listed : c.self.inside.items ≡ c.args.self.now = search rules in
    let found : item_standing c.self.inside.items None ≡ item_of c.args.table.now c.self.inside.items = ap (item_standing c.self.inside.items) (sym there ∙ c.self.invariant c.args.table.now) ∙ (item_stands c.args.table.now c.self.inside.items).0 in
    found ∙ ap (item_of c.args.table.now) listed
