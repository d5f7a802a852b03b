use Rattle.cs_http.proofs.Heads.{answer_front, refusal_front}
use Rattle.cs_http.proofs.Faults.{text_400}
use Rattle.cs_http.proofs.laws.heads_stand_alone.Goals as goal

pub returns : goal.returns
returns c = record { answers = answer_front; refusals = refusal_front; refused = text_400 }
