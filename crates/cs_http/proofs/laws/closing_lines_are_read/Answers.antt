use Rattle.cs_http.proofs.Graphs.{closings_are_read}
use Rattle.cs_http.proofs.laws.closing_lines_are_read.Goals as goal

pub returns : goal.returns
returns c = closings_are_read c.stamp_readings_are_spellings.ensures
