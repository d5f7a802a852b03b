use Rattle.std.proofs.Common.{◌≡◌, ◌<◌, List, Some, length, slice_get, ap, arith}
use Rattle.cs_partitions.specs.Layout.{StreamParts}
use Rattle.cs_server.proofs.Layouts.{read_at, layout_count, layout_of}
use Rattle.cs_server.proofs.places.layout_at.Goals as goal

pub bounds-layouts-place : goal.bounds-layouts-place
bounds-layouts-place c =
    let db = c.args.state.now in
    omega (arith, c.requires, layout_count db.streams db.layouts c.layouts.ensures.kept.layouts, ap (λ (l : List StreamParts). length l) c.layouts.ensures.value)

pub returns-clause-layout : goal.returns-clause-layout
returns-clause-layout c =
    let db = c.args.state.now in
    let lt : c.args.place < length db.layouts = omega (arith, c.requires, layout_count db.streams db.layouts c.layouts.ensures.kept.layouts) in
    read_at c.layouts.result.now db.layouts c.args.place c.index-layouts-place.result c.layouts.ensures.value lt c.index-layouts-place.is

pub returns-clause-created : goal.returns-clause-created
returns-clause-created c = λ s e.
    let db = c.args.state.now in
    let lt : c.args.place < length db.layouts = omega (arith, c.requires, layout_count db.streams db.layouts c.layouts.ensures.kept.layouts) in
    let there : slice_get db.layouts c.args.place ≡ Some c.index-layouts-place.result = read_at c.layouts.result.now db.layouts c.args.place c.index-layouts-place.result c.layouts.ensures.value lt c.index-layouts-place.is in
    (layout_of db.streams db.layouts c.args.place s c.index-layouts-place.result c.layouts.ensures.kept.layouts e there).created

pub offset_bounds-layouts-place : goal.offset_bounds-layouts-place
offset_bounds-layouts-place c =
    let db = c.args.state.now in
    let lt : c.args.place < length c.layouts.result.now = omega (arith, c.requires, layout_count db.streams db.layouts c.layouts.ensures.kept.layouts, ap (λ (l : List StreamParts). length l) c.layouts.ensures.value) in
    omega (arith, lt, c.layouts.type_inv.1)
