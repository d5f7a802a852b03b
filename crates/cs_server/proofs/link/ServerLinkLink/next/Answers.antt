use Rattle.cs_server.proofs.Calls.{goes, next_is_same}
use Rattle.cs_server.proofs.Truth.{honest_kept, paced_present}
use Rattle.cs_server.proofs.link.ServerLinkLink.next.Goals as goal

pub returns-clause-present : goal.returns-clause-present
returns-clause-present c = goes c.args.self.now c.give.new.self c.give.result c.give.ensures.served

pub returns-clause-honest : goal.returns-clause-honest
returns-clause-honest c = honest_kept c.typed_reads_are_honest-honest.ensures c.give.new.self c.give.ensures.well c.args.self.now (next_is_same c.args.self.now c.give.new.self c.give.result c.give.ensures.served)

pub returns-clause-paced : goal.returns-clause-paced
returns-clause-paced c = λ h. paced_present c.give.new.self
