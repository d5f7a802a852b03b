use Rattle.cs_http.proofs.Behind.{stays_read}
use Rattle.cs_http.proofs.laws.requests_end.Goals as goal

pub returns : goal.returns
returns c = stays_read
