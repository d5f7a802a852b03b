-- What a link over a state tells of its calls is what every link has to.
use Rattle.std.proofs.Common.{◌≡◌, ℕ, ◌+◌, List, [], ◌∷◌, ◌++◌, take, Option, Some, None, slice_get, refl, ap, ◌∙◌, sym}
use Rattle.std.specs.Prelude.{Ok, Err, Result}
use Rattle.std.specs.Option.{option_map}
use Rattle.std.proofs.lemmas.List.{take_more}
use Rattle.std.proofs.lemmas.Option.{slice_get_within, get_or_from_slice_get}
use Rattle.cs_link.specs.declared.reading.ReadArgs.{ReadArgs}
use Rattle.cs_link.specs.declared.reading.Step.{Step}
use Rattle.cs_link.specs.declared.refusal.LinkAnswer.{LinkAnswer}
use Rattle.cs_link.specs.Calls.{after_next, Goes}
use Rattle.cs_read.specs.Honest.{opened_as}
use Rattle.cs_server.specs.State.{LinkState, last_of, answer_to, read_of, present_of, after_step, IsServedOpen, IsServedNext}
use Rattle.cs_server.specs.Typed.{refusal_of, steps_given}

-- ---- the present READ

take_next : (xs : List Step) (n : ℕ) (x : Step) → slice_get xs n ≡ Some x → take (n + 1) xs ≡ take n xs ++ x ∷ []
take_next xs n x e = take_more xs n x (slice_get_within xs n x e) ∙ ap (λ y. take n xs ++ y ∷ []) (get_or_from_slice_get xs n x x e)

module _ (before now : LinkState) where
  gave : (args : ReadArgs) (step : Step) → slice_get (steps_given before.database args before.moment) before.given ≡ Some step → read_of (after_step before step) args ≡ after_next (read_of before args) (Ok step)
  gave args step e =
      let t : take (before.given + 1) (steps_given before.database args before.moment) ≡ take before.given (steps_given before.database args before.moment) ++ step ∷ [] = take_next (steps_given before.database args before.moment) before.given step e in
      ap (λ z. record { args = args; moment = before.moment; opened = opened_as (refusal_of before.database args before.moment); steps = z; bad_line = None }) t

  pub goes : (result : Result Step LinkAnswer) → IsServedNext before now result → Goes (Some (present_of before)) (Some (present_of now)) result
  goes result S = by (last_of before.asked) refl result S
    where
      by : (o : Option ReadArgs) → last_of before.asked ≡ o → (result : Result Step LinkAnswer) → IsServedNext before now result → Goes (Some (option_map (read_of before) o)) (Some (present_of now)) result
      by None e result S = tt
      by (Some args) e (Ok step) S =
          let is : slice_get (steps_given before.database args before.moment) before.given ≡ Some step = ap (λ (o : Option ReadArgs). slice_get (answer_to before.database before.moment o) before.given) (sym e) ∙ S.0 in
          ap Some (ap present_of S.1 ∙ ap (option_map (read_of (after_step before step))) e ∙ ap Some (gave args step is))
      by (Some args) e (Err LinkAnswer.Failed) S = absurd S
      by (Some args) e (Err (LinkAnswer.Refused refusal)) S = absurd S
      by (Some args) e (Err (LinkAnswer.BadLine number fault)) S = absurd S
      by (Some args) e (Err LinkAnswer.Memory) S = ap Some (ap present_of S ∙ ap (option_map (read_of before)) e)

  -- ---- the state is the same

  pub next_is_same : (result : Result Step LinkAnswer) → IsServedNext before now result → before.database ≡ now.database
  next_is_same (Ok step) S = ap (λ (m : LinkState). m.database) (sym S.1)
  next_is_same (Err LinkAnswer.Failed) S = absurd S
  next_is_same (Err (LinkAnswer.Refused refusal)) S = absurd S
  next_is_same (Err (LinkAnswer.BadLine number fault)) S = absurd S
  next_is_same (Err LinkAnswer.Memory) S = ap (λ (m : LinkState). m.database) (sym S)

  pub open_is_same : (args : ReadArgs) (result : Result (Unit {0}) LinkAnswer) → IsServedOpen before now args result → before.database ≡ now.database
  open_is_same args (Ok u) S = ap (λ (m : LinkState). m.database) (sym S.1)
  open_is_same args (Err LinkAnswer.Failed) S = absurd S
  open_is_same args (Err (LinkAnswer.Refused refusal)) S = ap (λ (m : LinkState). m.database) (sym S.1)
  open_is_same args (Err (LinkAnswer.BadLine number fault)) S = absurd S
  open_is_same args (Err LinkAnswer.Memory) S = ap (λ (m : LinkState). m.database) (sym S)
