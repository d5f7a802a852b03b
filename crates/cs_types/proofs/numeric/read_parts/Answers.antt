use Rattle.std.proofs.Common.{sym}
use Rattle.cs_types.proofs.NumericReading.{parts_too_fine, parts_read, parts_too_large}
use Rattle.cs_types.proofs.numeric.read_parts.Goals as goal

pub returns-then-not-fits_places-clause-value : goal.returns-then-not-fits_places-clause-value
returns-then-not-fits_places-clause-value c = parts_too_fine c.args.whole.now c.args.fraction.now (sym c.if-not-is_digits.ensures) (sym c.if-not-fits_places.ensures)

pub returns-in-Some-clause-value : goal.returns-in-Some-clause-value
returns-in-Some-clause-value c = parts_read c.in-Some.n c.args.whole.now c.args.fraction.now (sym c.if-not-is_digits.ensures) (sym c.if-not-fits_places.ensures) c.in-Some.ensures

pub returns-in-None-clause-value : goal.returns-in-None-clause-value
returns-in-None-clause-value c = parts_too_large c.args.whole.now c.args.fraction.now (sym c.if-not-is_digits.ensures) (sym c.if-not-fits_places.ensures) c.in-None.ensures
