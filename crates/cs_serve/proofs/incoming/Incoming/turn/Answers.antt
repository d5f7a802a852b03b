use Rattle.std.specs.Prelude.{ℕ, Err}
use Rattle.cs_serve.proofs.Causes.{answered, calm_cause}
use Rattle.cs_serve.proofs.incoming.Incoming.turn.Goals as goal

pub returns-in-Err-clause-cause : goal.returns-in-Err-clause-cause
returns-in-Err-clause-cause g c =
    calm_cause {T = ℕ} (Err c.in-Err.fault) _ _ (answered c.more.result c.in-Ok-eq0.field-0 _ _ c.more.ensures.cause c.in-Ok-eq0.is) c.in-Err.ensures.calm

pub returns-in-Ok-clause-cause : goal.returns-in-Ok-clause-cause
returns-in-Ok-clause-cause g c =
    calm_cause c.looked.result _ _ (answered c.more.result c.in-Ok.field-0 _ _ c.more.ensures.cause c.in-Ok.is) c.looked.ensures.calm
