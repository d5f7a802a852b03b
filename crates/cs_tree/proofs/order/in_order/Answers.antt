use Rattle.std.proofs.Common.{◌≡◌, List, true, ap, ◌∙◌, sym, subst}
use Rattle.cs_tree.specs.Order.{Name, names, climbs, IsRising}
use Rattle.cs_tree.specs.declared.entries.Entry.{Entry}
use Rattle.cs_tree.proofs.Names.{climbing}
use Rattle.cs_tree.proofs.Putting.{rising_stay, put_all-rising}
use Rattle.cs_tree.proofs.order.in_order.Goals as goal

pub rising-requires : goal.rising-requires
rising-requires g c =
    let rises : climbs (names c.args.found.items) ≡ true = ap (λ (es : List (Entry Name g.row.T.Denot)). climbs (names es)) (sym c.as_slice.ensures.value) ∙ sym c.if-rises.ensures in
    climbing (names c.args.found.items) rises

pub returns-then-rises : goal.returns-then-rises
returns-then-rises g c =
    let rises : climbs (names c.args.found.items) ≡ true = ap (λ (es : List (Entry Name g.row.T.Denot)). climbs (names es)) (sym c.as_slice.ensures.value) ∙ sym c.if-rises.ensures in
    c.rising.ensures ∙ rising_stay c.args.found.items (climbing (names c.args.found.items) rises)

pub rising-requires-2 : goal.rising-requires-2
rising-requires-2 g c = subst IsRising (sym c.in_ok-placed.ensures) (put_all-rising c.args.found.items)
