use Rattle.std.proofs.Common.{◌∙◌, sym, ap, subst, Err}
use Rattle.cs_script.specs.Readings.{Gives, not_memory}
use Rattle.cs_script.proofs.Causes.{both_refused}
use Rattle.cs_script.proofs.combine.both.Goals as goal

pub returns-clause-reading : goal.returns-clause-reading
returns-clause-reading g c = λ a b one other h.
    both_refused a b c.in-Err.cause c.in-Err-other-2.next (subst (λ r. Gives r a) c.in-Err.is one) (subst (λ r. Gives r b) c.in-Err-other-2.is other)
    (subst not_memory c.earlier.ensures h) ∙ ap Err (sym c.earlier.ensures)
