use Rattle.std.proofs.Common.{arith}
use Rattle.cs_wire.specs.Opened.{HasRead}
use Rattle.cs_wire.proofs.Opening.{some_has, refuses}
use Rattle.cs_wire.proofs.begin.opened.Goals as goal

pub returns-in-Ok-Some-eq400-clause-answer : goal.returns-in-Ok-Some-eq400-clause-answer
returns-in-Ok-Some-eq400-clause-answer g c =
    let s = some_has (HasRead _ _ _ _ _ _ _) _ _ c.in-Ok-Some-eq400.field-0-is c.in-Ok-Some-eq400.ensures.status in
    refuses _ _ _ _ _ _ _ _ _ _ _ _ s (omega (arith, c.in-Ok-Some-eq400.field-0-0-test)) c.refused.ensures.added c.refused.ensures.head _ _ _ c.in-Ok-Some-eq400.ensures.later c.refused.result c.refused.ensures.answer
