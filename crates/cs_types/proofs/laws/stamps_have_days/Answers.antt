use Rattle.cs_types.proofs.StampDays.{day_is, past_is}
use Rattle.cs_types.proofs.laws.stamps_have_days.Goals as goal

pub returns : goal.returns
returns c = record { day = day_is; past = past_is }
