use Rattle.std.proofs.Common.{List, ℕ, [], take, refl, sym, subst}
use Rattle.cs_schedule.specs.Consistent.{born}
use Rattle.cs_schedule.specs.Update.{AreUnfinished}
use Rattle.cs_schedule.proofs.Carried.{map_unfinished}
use Rattle.cs_schedule.proofs.update.born_at.Goals as goal

pub returns-clause-unfinished : goal.returns-clause-unfinished
returns-clause-unfinished c =
    subst AreUnfinished (sym c.loop-token.invariant)
    (map_unfinished (λ (t : List ℕ). born (record { token = t; parents = []; start = c.args.start })) (take c.loop-token.token-index c.args.tokens.now) (λ t. refl))
