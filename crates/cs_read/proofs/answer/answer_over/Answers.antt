use Rattle.std.proofs.Common.{arith}
use Rattle.cs_read.proofs.States.{got, layout_of}
use Rattle.cs_read.proofs.answer.answer_over.Goals as goal

pub stream_index-requires : goal.stream_index-requires
stream_index-requires c =
    let db = c.args.state.now in
    let found = layout_of db.streams db.layouts c.args.place c.args.stream.now c.args.layout.now c.catalog.ensures.kept.layouts (got db.streams c.args.place c.args.stream.now c.requires.stream) (got db.layouts c.args.place c.args.layout.now c.requires.layout) in
    record { created = omega (arith, found.created) }
