use Rattle.std.proofs.Common.{List, ℕ, to_z-of_z, w64, FitsSigned, ap, sym, subst, rules}
use Rattle.cs_types.specs.declared.value.Value.TheVariants.{Timestamp}
use Rattle.cs_types.specs.declared.moment.StampFault.TheVariants.{Range, TooFine}
use Rattle.cs_types.specs.Moment.{SpellsMoment, IsMomentShape, IsMomentFault}
use Rattle.cs_types.specs.Value.{held}
use Rattle.cs_types.proofs.TimestampReading.{moment_read, moment_bad, moment_outside, moment_too_fine, no_member}
use Rattle.cs_types.proofs.value.moment_of_text.Goals as goal

pub returns-in-Ok-clause-reading : goal.returns-in-Ok-clause-reading
returns-in-Ok-clause-reading c =
    let spelled : SpellsMoment c.args.text.now c.in-Ok.us = subst (λ (t : List ℕ). SpellsMoment t c.in-Ok.us) c.as_bytes.ensures.value c.in-Ok.ensures.exact in
    let fits : FitsSigned w64 c.in-Ok.us = search rules in
    rw (to_z-of_z fits) (sym (ap (held Timestamp) (moment_read c.args.text.now c.in-Ok.us spelled)))

pub returns-in-Err-Shape-clause-reading : goal.returns-in-Err-Shape-clause-reading
returns-in-Err-Shape-clause-reading c =
    let place = rw c.in-Err-Shape.field-0-is at c.in-Err-Shape.ensures.exact in
    let none : ¬ IsMomentShape c.args.text.now = subst (λ (t : List ℕ). ¬ IsMomentShape t) c.as_bytes.ensures.value (no_member IsMomentShape c.as_bytes.result.now c.in-Err-Shape.field-0-0 place) in
    sym (ap (held Timestamp) (moment_bad c.args.text.now none))

pub returns-in-Err-Range-clause-reading : goal.returns-in-Err-Range-clause-reading
returns-in-Err-Range-clause-reading c =
    let out : IsMomentFault Range c.args.text.now = subst (λ (t : List ℕ). IsMomentFault Range t) c.as_bytes.ensures.value (rw c.in-Err-Range.field-0-is at c.in-Err-Range.ensures.exact) in
    sym (ap (held Timestamp) (moment_outside c.args.text.now out.0 out.1))

pub returns-in-Err-TooFine-clause-reading : goal.returns-in-Err-TooFine-clause-reading
returns-in-Err-TooFine-clause-reading c =
    let fine : IsMomentFault TooFine c.args.text.now = subst (λ (t : List ℕ). IsMomentFault TooFine t) c.as_bytes.ensures.value (rw c.in-Err-TooFine.field-0-is at c.in-Err-TooFine.ensures.exact) in
    sym (ap (held Timestamp) (moment_too_fine c.args.text.now fine.0 fine.2))
