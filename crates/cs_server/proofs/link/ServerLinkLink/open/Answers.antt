use Rattle.cs_server.proofs.Calls.{open_is_same}
use Rattle.cs_server.proofs.Truth.{honest_kept, paced_present}
use Rattle.cs_server.proofs.link.ServerLinkLink.open.Goals as goal

pub returns-clause-honest : goal.returns-clause-honest
returns-clause-honest c = honest_kept c.typed_reads_are_honest-honest.ensures c.begin.new.self c.begin.ensures.well c.args.self.now (open_is_same c.args.self.now c.begin.new.self c.args.args.now c.begin.result c.begin.ensures.served)

pub returns-clause-paced : goal.returns-clause-paced
returns-clause-paced c = λ h. paced_present c.begin.new.self
