use Rattle.std.proofs.Common.{◌≡◌, true, rules, sym, subst, ap, ◌∙◌, ℤ, FitsSigned, w64}
use Rattle.std.specs.Str.Parse.{signed_digits_value}
use Rattle.std.proofs.Math.Facts.{to_z-of_z}
use Rattle.cs_types.specs.Integer.{is_integer_text}
use Rattle.cs_types.proofs.Integers.{integer_bad, integer_fits, integer_outside}
use Rattle.cs_types.proofs.integer.read_integer.Goals as goal

pub returns-then-not-is_integer_text : goal.returns-then-not-is_integer_text
returns-then-not-is_integer_text c = search (rules, sym, integer_bad)

pub returns-in-Ok : goal.returns-in-Ok
returns-in-Ok c =
    let test : is_integer_text c.args.text.now ≡ true = ap is_integer_text (sym c.as_bytes.ensures.value) ∙ sym c.if-not-is_integer_text.ensures in
    let is : c.in-Ok.n ≡ signed_digits_value 10 c.args.text.now = c.in-Ok.ensures.value.0.1 in
    let fits : FitsSigned w64 (signed_digits_value 10 c.args.text.now) = c.in-Ok.ensures.value.0.0.1 in
    rw (to_z-of_z (subst (λ (z : ℤ). FitsSigned w64 z) (sym is) fits)) (sym (integer_fits c.args.text.now c.in-Ok.n test fits is))

pub returns-in-Err : goal.returns-in-Err
returns-in-Err c =
    let test : is_integer_text c.args.text.now ≡ true = ap is_integer_text (sym c.as_bytes.ensures.value) ∙ sym c.if-not-is_integer_text.ensures in
    sym (integer_outside c.args.text.now test c.in-Err.ensures.value.0)
