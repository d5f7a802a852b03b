use Rattle.std.proofs.Common.{ℕ, [], ◌∷◌, ◌++◌, suc, ◌+◌, ◌-◌, ◌<◌, ◌≤◌, ◌≡◌, Some, None, length, get_or, take, drop, sym, ap, subst, refl, ◌∙◌, arith}
use Rattle.cs_link.specs.declared.reading.Step.{Step}
use Rattle.cs_steps.specs.declared.places.RecordPlace.{RecordPlace}
use Rattle.cs_steps.specs.Steps.{cut_off, paced, child_steps}
use Rattle.cs_steps.proofs.Slices.{same_cut, same_length, in_order, span_is}
use Rattle.cs_steps.proofs.cursor.Cursor.over.Goals as goal

pub returns : goal.returns
returns c =
    let start : c.us.result ≡ c.args.start = c.us.ensures.value in
    let top : c.us-2.result + 1 ≡ suc c.args.top = omega (arith, c.us-2.ensures.value) in
    let below_next = λ (k : ℕ) (d : RecordPlace) (h : k < c.count_below-next.result). subst (λ t. (get_or c.args.records.now k d).stamp < t) start (c.count_below-next.ensures.below k d h) in
    let above_next = λ (k : ℕ) (d : RecordPlace) (h : c.count_below-next.result ≤ k) (l : k < length c.args.records.now). subst (λ t. t ≤ (get_or c.args.records.now k d).stamp) start (c.count_below-next.ensures.above k d h l) in
    let below_end = λ (k : ℕ) (d : RecordPlace) (h : k < c.count_below-end.result). subst (λ t. (get_or c.args.records.now k d).stamp < t) top (c.count_below-end.ensures.below k d h) in
    let above_end = λ (k : ℕ) (d : RecordPlace) (h : c.count_below-end.result ≤ k) (l : k < length c.args.records.now). subst (λ t. t ≤ (get_or c.args.records.now k d).stamp) top (c.count_below-end.ensures.above k d h l) in
    record {
      cursor = λ s stamps lists. record {
        within = (
          in_order c.args.records.now s.records stamps c.args.start c.args.top c.count_below-next.result c.count_below-end.result c.requires.window c.count_below-next.ensures.within below_next above_next c.count_below-end.ensures.within below_end above_end,
          omega (arith, c.count_below-end.ensures.within, same_length c.args.records.now s.records stamps),
        );
        lists = lists;
        listed = omega arith;
        gap = c.requires.gap;
        ended = λ e. absurd (nothing e);
      };
      steps = λ s stamps lists.
          same_cut 8192 (paced c.args.gap c.args.top c.args.start (take (c.count_below-end.result - c.count_below-next.result) (drop c.count_below-next.result s.records))) (child_steps s.start s.children ++ Step.Closing c.args.closing ∷ [])
          ∙ ap (λ l. cut_off 8192 (paced c.args.gap c.args.top c.args.start l) (child_steps s.start s.children ++ Step.Closing c.args.closing ∷ []))
          (sym (span_is c.args.records.now s.records stamps c.args.start c.args.top c.count_below-next.result c.count_below-end.result c.requires.window c.count_below-next.ensures.within below_next above_next c.count_below-end.ensures.within below_end above_end));
      within = c.count_below-end.ensures.within;
      gap = refl;
    }
  where
    nothing : Some c.args.closing ≡ None → ⊥
    nothing e = cc
