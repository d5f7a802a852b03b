use Rattle.std.proofs.Common.{◌≡◌, ◌∙◌, sym, ap, subst, Err, Some}
use Rattle.cs_script.specs.Readings.{Gives, not_memory, behind, and_more}
use Rattle.cs_script.proofs.Causes.{refused_again, another}
use Rattle.cs_script.proofs.combine.Gathered.with.Goals as goal

pub returns-in-Some-cause : goal.returns-in-Some-cause
returns-in-Some-cause g c = record {
  more = λ r rest given.
      let told : not_memory c.in-Err.next = another c.in-Err.next (sym c.if-is_memory.ensures) in
      let is : r ≡ Err c.in-Err.next = (subst (λ x. Gives x r) c.in-Err.is given) told in
      ap (λ e. behind (Some e) c.args.self.items rest) c.earlier.ensures ∙ refused_again c.args.self.items c.in-Some-cause.cause c.in-Err.next r rest is
      ∙ ap (λ o. behind o c.args.self.items (and_more r rest)) (sym c.in-Some-cause.is);
  err = tt;
  kept = λ e. cc;
}
