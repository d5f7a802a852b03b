use Rattle.std.proofs.Common.{◌<◌, length, Option, Err, Ok, ap, List, ℕ, subst, arith}
use Rattle.cs_http.specs.declared.fault.WireFault.{WireFault}
use Rattle.cs_http.specs.declared.reading.Request.{Request}
use Rattle.cs_http.specs.Reading.{IsReading}
use Rattle.cs_serve.specs.Reading.{IsParsed}
use Rattle.cs_serve.proofs.Requests.{partial_is_short}
use Rattle.cs_serve.proofs.incoming.Incoming.read.Goals as goal

pub unreachable-requires : goal.unreachable-requires
unreachable-requires g c =
    let bytes = c.deref.result.now in
    let is : IsReading bytes (Err WireFault.Partial) = subst (λ (o : Option Request). IsParsed bytes (Ok o)) c.in-Ok-None-parsed.field-0-is c.in-Ok-None-parsed.ensures in
    let short : length bytes < 65536 = partial_is_short bytes is in
    omega (arith, short, c.pieces-test.false, ap (λ (xs : List ℕ). length xs) c.deref.ensures.value)
