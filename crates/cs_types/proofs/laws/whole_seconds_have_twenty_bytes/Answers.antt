use Rattle.cs_types.proofs.WholeSeconds.{whole_text, whole_length}
use Rattle.cs_types.proofs.laws.whole_seconds_have_twenty_bytes.Goals as goal

pub returns : goal.returns
returns c = record { read = whole_text; written = whole_length }
