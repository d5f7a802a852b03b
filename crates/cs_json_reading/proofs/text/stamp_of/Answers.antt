use Rattle.std.proofs.Common.{◌∙◌, ap}
use Rattle.cs_types.specs.Stamp.{stamp_reading}
use Rattle.cs_json_reading.proofs.text.stamp_of.Goals as goal

pub returns-in-Ok : goal.returns-in-Ok
returns-in-Ok c = c.in-Ok.ensures.reading ∙ ap stamp_reading c.as_bytes.ensures.value

pub returns-in-Err : goal.returns-in-Err
returns-in-Err c = c.in-Err.ensures.reading ∙ ap stamp_reading c.as_bytes.ensures.value
