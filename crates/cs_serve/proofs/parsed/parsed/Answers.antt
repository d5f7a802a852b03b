use Rattle.std.proofs.Common.{arith, rules}
use Rattle.std.specs.Prelude.{Err}
use Rattle.cs_http.specs.declared.fault.WireFault.{WireFault}
use Rattle.cs_http.specs.Reading.{IsReading}
use Rattle.cs_serve.proofs.Requests.{too_long_is_long}
use Rattle.cs_serve.proofs.parsed.parsed.Goals as goal

pub returns-in-Err-TooLong : goal.returns-in-Err-TooLong
returns-in-Err-TooLong c =
    let is : IsReading c.args.bytes.now (Err WireFault.TooLong) = search rules in
    let long = too_long_is_long c.args.bytes.now is in
    (omega arith, is)
