use Rattle.std.proofs.Common.{sym}
use Rattle.cs_http.proofs.Lengths.{number_bad, digits_text}
use Rattle.cs_http.proofs.number.number_of.Goals as goal

pub returns-then-not-is_digits : goal.returns-then-not-is_digits
returns-then-not-is_digits c = number_bad c.args.text.now (sym c.if-not-is_digits.ensures)

pub unreachable-requires : goal.unreachable-requires
unreachable-requires c = c.in-Err.ensures.cases.0 (digits_text c.args.text.now (sym c.if-not-is_digits.ensures))
