use Rattle.cs_steps.specs.Cursor.{Source, Gives}
use Rattle.cs_read.specs.Content.{source_read}
use Rattle.cs_read.proofs.reading.Reading.next.Goals as goal

pub step_at-requires-clause-there : goal.step_at-requires-clause-there
step_at-requires-clause-there c =
    let s : Source = source_read c.args.of.now c.args.self.now in
    let g : Gives s c.args.self.now.cursor c.in-Some.place c.advance.new.self = c.in-Some.ensures.gives s c.requires.cursor c.lines.ensures.stamps in
    (g.step, g.is)

pub returns-clause-reading : goal.returns-clause-reading
returns-clause-reading c =
    let s : Source = source_read c.args.of.now c.args.self.now in
    let g : Gives s c.args.self.now.cursor c.in-Some.place c.advance.new.self = c.in-Some.ensures.gives s c.requires.cursor c.lines.ensures.stamps in
    record { part = c.requires.part; children = c.requires.children; cursor = g.cursor }
