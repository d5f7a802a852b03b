use Rattle.std.proofs.Common.{◌≡◌, ◌∙◌, ap, subst, inr, ℕ, length}
use Rattle.httparse.specs.Spans.{ResponseOverflows}
use Rattle.cs_http.proofs.Fronts.{none}
use Rattle.cs_http.proofs.head.front_of.Goals as goal

pub returns : goal.returns
returns c =
    let room : length c.deref_mut.result.now ≡ 8192 = ap length c.deref_mut.ensures.value ∙ c.in_ok-headers.ensures in
    inr (none c.args.bytes.now (subst (λ (n : ℕ). ResponseOverflows n c.args.bytes.now) room c.in-Err.ensures.no_room))
