use Rattle.cs_json_reading.proofs.Spelled.{spelled, read_as}
use Rattle.cs_json_reading.proofs.laws.line_readings_are_spellings.Goals as goal

pub returns : goal.returns
returns c = λ line r. (spelled r line, read_as r line)
