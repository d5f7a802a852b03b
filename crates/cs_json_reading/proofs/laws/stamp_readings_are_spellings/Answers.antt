use Rattle.cs_json_reading.proofs.Stamps.{stamp_told, stamp_read}
use Rattle.cs_json_reading.proofs.laws.stamp_readings_are_spellings.Goals as goal

pub returns : goal.returns
returns c = λ text us. (stamp_told c.readings_are_spellings.ensures.timestamp text us, stamp_read c.readings_are_spellings.ensures.timestamp text us)
