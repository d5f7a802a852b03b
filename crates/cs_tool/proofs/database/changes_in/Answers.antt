use Rattle.std.proofs.Common.{subst}
use Rattle.cs_types.specs.Stamp.{IsStamp}
use Rattle.cs_tool.proofs.database.changes_in.Goals as goal

pub returns-clause-own_lines : goal.returns-clause-own_lines
returns-clause-own_lines c =
    let sound = rw (c.catalog.ensures.tables, c.catalog.ensures.streams) at c.streams-sound.ensures.sound in
    c.changes_of_one_database_have_own_lines.ensures _ (c.changes_are_of_one_database.ensures.changes c.args.state.now.tables c.args.state.now.streams c.args.stream.now c.args.state.now.modifications c.args.start c.args.end sound
    c.catalog.ensures.kept.names c.catalog.ensures.kept.fits (subst IsStamp c.us-first.ensures.value c.us-first.ensures.range) (subst IsStamp c.us-last.ensures.value c.us-last.ensures.range))
