use Rattle.std.proofs.Common.{◌≡◌, ◌∙◌, ap, subst, ℕ, length, Err}
use Rattle.httparse.specs.Spans.{RequestExceeds}
use Rattle.cs_http.proofs.Fronts.{never_exceeds}
use Rattle.cs_http.proofs.parsing.read_request.Goals as goal

pub unreachable-requires : goal.unreachable-requires
unreachable-requires c =
    let room : length c.deref_mut.result.now ≡ length c.args.bytes.now = ap length c.deref_mut.ensures.value ∙ c.in-Ok.ensures in
    never_exceeds c.args.bytes.now (subst (λ (n : ℕ). RequestExceeds n c.args.bytes.now) room (c.in-Err-TooManyHeaders.ensures.too_many (ap Err c.in-Err-TooManyHeaders.field-0-is)))
