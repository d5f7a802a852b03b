use Rattle.std.proofs.Common.{◌≡◌, List, Ok, Err, ap, ◌∙◌, sym, arith}
use Rattle.cs_tree.specs.Order.{Name, names, seek}
use Rattle.cs_tree.specs.declared.entries.Entry.{Entry}
use Rattle.cs_tree.proofs.Putting.{put_at, put_before, put_now, seek_within}
use Rattle.cs_tree.proofs.order.put_in.Goals as goal

pub index_mut-requires : goal.index_mut-requires
index_mut-requires g c =
    let k = c.args.entry.name.now in
    let found : seek k (names c.args.placed.now.items) ≡ Ok c.in-Ok.at = ap (λ (es : List (Entry Name g.row.T.Denot)). seek k (names es)) (sym c.as_slice.ensures.value) ∙ sym c.in-Ok.ensures in
    omega (arith, seek_within k c.args.placed.now.items c.in-Ok.at found, c.args.placed.now.ok.0)

pub insert-requires : goal.insert-requires
insert-requires g c =
    let k = c.args.entry.name.now in
    let found : seek k (names c.args.placed.now.items) ≡ Err c.in-Err.at = ap (λ (es : List (Entry Name g.row.T.Denot)). seek k (names es)) (sym c.as_slice.ensures.value) ∙ sym c.in-Err.ensures in
    omega (arith, (put_before c.args.entry c.args.placed.now.items c.in-Err.at found).0, c.args.placed.now.ok.0)

pub returns-in-Ok : goal.returns-in-Ok
returns-in-Ok g c =
    let k = c.args.entry.name.now in
    let found : seek k (names c.args.placed.now.items) ≡ Ok c.in-Ok.at = ap (λ (es : List (Entry Name g.row.T.Denot)). seek k (names es)) (sym c.as_slice.ensures.value) ∙ sym c.in-Ok.ensures in
    (put_at c.args.entry c.args.placed.now.items c.index_mut.result.now c.in-Ok.at found c.index_mut.ensures.value).1

pub returns-in_ok-insert-in-Err : goal.returns-in_ok-insert-in-Err
returns-in_ok-insert-in-Err g c =
    let k = c.args.entry.name.now in
    let found : seek k (names c.args.placed.now.items) ≡ Err c.in-Err.at = ap (λ (es : List (Entry Name g.row.T.Denot)). seek k (names es)) (sym c.as_slice.ensures.value) ∙ sym c.in-Err.ensures in
    put_now c.args.entry c.args.placed.now.items c.insert.new.self.items c.in-Err.at found c.in_ok-insert-in-Err.ensures.items
