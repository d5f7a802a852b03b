use Rattle.std.proofs.Common.{List, ℕ, to_z-of_z, w32, FitsSigned, ap, sym, subst, rules}
use Rattle.cs_types.specs.declared.value.Value.TheVariants.{Date}
use Rattle.cs_types.specs.Civil.{SpellsDate, IsDateFault}
use Rattle.cs_types.specs.declared.civil.DateFault.TheVariants.{Shape, Range}
use Rattle.cs_types.specs.Value.{held}
use Rattle.cs_types.proofs.DateReading.{date_read, date_bad, date_outside}
use Rattle.cs_types.proofs.value.date_of_text.Goals as goal

pub returns-in-Ok-clause-reading : goal.returns-in-Ok-clause-reading
returns-in-Ok-clause-reading c =
    let spelled : SpellsDate c.args.text.now c.in-Ok.day = subst (λ (t : List ℕ). SpellsDate t c.in-Ok.day) c.as_bytes.ensures.value c.in-Ok.ensures.exact in
    let fits : FitsSigned w32 c.in-Ok.day = search rules in
    rw (to_z-of_z fits) (sym (ap (held Date) (date_read c.args.text.now c.in-Ok.day spelled)))

pub returns-in-Err-Shape-clause-reading : goal.returns-in-Err-Shape-clause-reading
returns-in-Err-Shape-clause-reading c =
    let none : IsDateFault Shape c.args.text.now = subst (λ (t : List ℕ). IsDateFault Shape t) c.as_bytes.ensures.value (rw c.in-Err-Shape.field-0-is at c.in-Err-Shape.ensures.exact) in
    sym (ap (held Date) (date_bad c.args.text.now none))

pub returns-in-Err-Range-clause-reading : goal.returns-in-Err-Range-clause-reading
returns-in-Err-Range-clause-reading c =
    let out : IsDateFault Range c.args.text.now = subst (λ (t : List ℕ). IsDateFault Range t) c.as_bytes.ensures.value (rw c.in-Err-Range.field-0-is at c.in-Err-Range.ensures.exact) in
    sym (ap (held Date) (date_outside c.args.text.now out.0 out.1))
