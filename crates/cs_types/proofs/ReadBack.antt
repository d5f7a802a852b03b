-- The JSON that is written for a value is a spelling of it.
use Rattle.std.proofs.Common.{refl, ap, rules}
use Rattle.base64.specs.Engines.{standard}
use Rattle.base64.proofs.EngineFacts.{decode_of-encode_of}
use Rattle.cs_types.specs.declared.value.Value.{Value}
use Rattle.cs_types.specs.declared.value.Value.TheVariants.{Null, Bool as Boolean, Int64, Numeric, Text, Bytes, Date, Timestamp}
use Rattle.cs_types.specs.declared.column_type.ColumnType.{ColumnType}
use Rattle.cs_types.specs.Civil.{date_text}
use Rattle.cs_types.specs.Moment.{moment_text}
use Rattle.cs_types.specs.Value.{IsInRange, of_decoded, held, value_data, Spells, IsOfType}
use Rattle.cs_types.proofs.DateReading.{date_read}
use Rattle.cs_types.proofs.DateTexts.{date_spelled}
use Rattle.cs_types.proofs.TimestampReading.{moment_read}
use Rattle.cs_types.proofs.MomentTexts.{moment_spelled}
use Rattle.cs_types.proofs.Integers.{integer_written}
use Rattle.cs_types.proofs.NumericBack.{numeric_written}

pub reads_back : (ty : ColumnType) (v : Value) → IsOfType ty v → IsInRange v → Spells ty (value_data v) v
reads_back ty Null of range = refl
reads_back ty (Boolean b) of range = rw of refl
reads_back ty (Int64 n) of range = rw of (ap (held Int64) (integer_written n range))
reads_back ty (Numeric n) of range = rw of (ap (held Numeric) (numeric_written n range))
reads_back ty (Text t) of range = rw of refl
reads_back ty (Bytes b) of range = rw of (ap of_decoded (decode_of-encode_of standard b (search rules) range))
reads_back ty (Date d) of range = rw of (ap (held Date) (date_read (date_text d) d (date_spelled d range)))
reads_back ty (Timestamp t) of range = rw of (ap (held Timestamp) (moment_read (moment_text t) t (moment_spelled t range)))
