use Rattle.cs_http.proofs.Asking.{asked_is}
use Rattle.cs_http.proofs.parsing.read_head.Goals as goal

pub returns : goal.returns
returns c = asked_is c.args.bytes.now c.args.headers.now c.args.head.now c.requires.of c.asked.result c.asked.ensures
