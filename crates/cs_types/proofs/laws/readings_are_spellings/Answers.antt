use Rattle.cs_types.proofs.BytesTexts.{bytes_told}
use Rattle.cs_types.proofs.DateReading.{date_read, date_told}
use Rattle.cs_types.proofs.Integers.{integer_read, integer_told}
use Rattle.cs_types.proofs.TimestampReading.{moment_read, moment_told}
use Rattle.cs_types.proofs.laws.readings_are_spellings.Goals as goal

pub returns : goal.returns
returns c = record {
  int64 = λ text n. (integer_told text n, integer_read text n);
  date = λ text day. (date_told text day, date_read text day);
  timestamp = λ text us. (moment_told text us, moment_read text us);
  bytes = bytes_told;
}
