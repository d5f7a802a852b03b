use Rattle.std.proofs.Common.{arith}
use Rattle.cs_http.proofs.Lengths.{number_fits, number_fails}
use Rattle.cs_http.proofs.number.parsed.Goals as goal

pub returns-in-Ok : goal.returns-in-Ok
returns-in-Ok c = number_fits c.args.text.now c.in-Ok.n c.requires (omega arith) c.in-Ok.ensures.value.0.1

pub returns-in-Err : goal.returns-in-Err
returns-in-Err c = number_fails c.args.text.now c.requires c.in-Err.ensures.value.0
