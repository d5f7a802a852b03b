use Rattle.cs_types.proofs.MomentTexts.{stamp_only, stamp_spelled}
use Rattle.cs_types.proofs.StampReading.{stamp_written}
use Rattle.cs_types.proofs.laws.written_stamps_read_back.Goals as goal

pub returns : goal.returns
returns c = record { written = stamp_spelled; one = λ text us other a b. stamp_only text other us b a; read = stamp_written }
