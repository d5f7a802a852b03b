use Rattle.std.proofs.Common.{◌≡◌, ◌++◌, ◌%◌, ℕ, List, sym, ap, subst, ◌∙◌, pos}
use Rattle.cs_types.specs.Civil.{date_text}
use Rattle.cs_types.specs.Moment.{moment_text, clock_text, day_number, microsecond_of}
use Rattle.cs_types.specs.Stamp.{IsStamp}
use Rattle.cs_types.proofs.StampDays.{past_is}
use Rattle.cs_types.proofs.date_text.DateText.with_clock.Goals as goal

pub returns : goal.returns
unfolding moment_text
returns c =
    let day = day_number (pos c.args.stamp) in
    let date : c.as_str.result.now ≡ date_text day = c.as_str.ensures ∙ c.self.invariant ∙ ap date_text (c.self.view_is ∙ c.requires) in
    let past : c.us.result % 86400000000 ≡ microsecond_of (pos c.args.stamp) =
    ap (λ (n : ℕ). n % 86400000000) c.us.ensures.value ∙ sym (past_is c.args.stamp (subst IsStamp c.us.ensures.value c.us.ensures.range)) in
    c.in_ok-put_clock.ensures
    ∙ ap (λ (l : List ℕ). l ++ clock_text (c.us.result % 86400000000)) (c.in_ok-push_str.ensures.bytes ∙ ap (λ (l : List ℕ). l ++ c.as_str.result.now) c.in_ok-text.ensures.bytes ∙ date)
    ∙ ap (λ (n : ℕ). date_text day ++ clock_text n) past
