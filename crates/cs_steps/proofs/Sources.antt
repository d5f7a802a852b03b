-- What the answer of a READ speaks of gives the READ's steps.
use Rattle.std.proofs.Common.{◌≡◌, ℕ, Bool, true, false, cond, ◌||◌, ◌&&◌, nat_le, List, [], ◌∷◌, ◌++◌, Option, None, Some, refl, ap}
use Rattle.cs_records.specs.declared.records.Child.{Child}
use Rattle.cs_link.specs.declared.reading.Closing.{Closing}
use Rattle.cs_link.specs.declared.reading.Step.{Step}
use Rattle.cs_steps.specs.Cursor.{or_zero, closing_of, SourceHasSteps}
use Rattle.cs_steps.specs.Steps.{top_of, paced, records_for, children_of, child_steps, has_ended, ending, cut_off}

rest_is : (kids : List Child) (end moment : ℕ) (o : Option ℕ) → child_steps (or_zero o) (cond (has_ended end moment o) kids []) ++ Step.Closing (closing_of end moment o) ∷ [] ≡ ending kids end moment o
rest_is kids end moment None = by (nat_le end moment)
  where
    by : (b : Bool) → Step.Closing (cond b Closing.Finished (Closing.CaughtUp moment)) ∷ [] ≡ cond b (Step.Closing Closing.Finished ∷ []) (Step.Closing (Closing.CaughtUp moment) ∷ [])
    by true = refl
    by false = refl
rest_is kids end moment (Some u) = by (nat_le u end && nat_le u moment) (nat_le end moment)
  where
    by : (b c : Bool) → child_steps u (cond b kids []) ++ Step.Closing (cond (b || c) Closing.Finished (Closing.CaughtUp moment)) ∷ []
        ≡ cond b (child_steps u kids ++ Step.Closing Closing.Finished ∷ []) (cond c (Step.Closing Closing.Finished ∷ []) (Step.Closing (Closing.CaughtUp moment) ∷ []))
    by true c = refl
    by false true = refl
    by false false = refl

pub source_steps : SourceHasSteps
source_steps parts items a = ap (cut_off 8192 (paced a.gap (top_of a) a.start (records_for parts items a))) (rest_is (children_of parts a.part) a.end a.moment a.part.until)
