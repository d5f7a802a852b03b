use Rattle.cs_http.proofs.RecordLines.{reads_as_closing}
use Rattle.cs_http.proofs.Rooms.{closing_fits}
use Rattle.cs_http.proofs.writing.line_of_closing.Goals as goal

pub returns-clause-reads : goal.returns-clause-reads
returns-clause-reads c = reads_as_closing c.closing_line.result c.args.closing.now c.closing_line.ensures.read

pub returns-clause-room : goal.returns-clause-room
returns-clause-room c = closing_fits c.closing_line.result c.args.closing.now c.closing_line.ensures.text
