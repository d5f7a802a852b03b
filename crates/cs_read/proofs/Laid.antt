-- Steps that were laid out so far, with those that are left.
use Rattle.std.proofs.Common.{◌≡◌, ℕ, suc, zero, ◌<◌, List, [], ◌∷◌, ◌++◌, length, refl, sym, ap, ◌∙◌, subst, append-nil, append_assoc, arith}
use Rattle.cs_link.specs.declared.reading.Step.{Step}
use Rattle.cs_steps.specs.declared.cursor.Cursor.{Cursor}
use Rattle.cs_steps.specs.declared.cursor.StepPlace.{StepPlace}
use Rattle.cs_steps.specs.Cursor.{Source, IsAt, IsStep, IsCursor, Gives, steps_left}
use Rattle.cs_read.specs.declared.laying.LaidStep.{LaidStep}
use Rattle.cs_read.specs.Laid.{AreSteps, LaidOut, place_of}

one_more : (s : Source) (ps : List LaidStep) (xs : List Step) (p : LaidStep) (x : Step) → AreSteps s ps xs → IsStep s (place_of p) x → AreSteps s (ps ++ p ∷ []) (xs ++ x ∷ [])
one_more s [] [] p x h i = (i, tt)
one_more s [] (y ∷ xs) p x h i = absurd h
one_more s (q ∷ ps) [] p x h i = absurd h
one_more s (q ∷ ps) (y ∷ xs) p x h i = (h.0, one_more s ps xs p x h.1 i)

pub laid_none : (s : Source) (c : Cursor) → IsCursor s c → LaidOut s (steps_left s c) c []
laid_none s c h = record { given = []; are = tt; all_is = refl; cursor = h }

pub laid_more : (s : Source) (all : List Step) (c after : Cursor) (ps : List LaidStep) (p : LaidStep) (place : StepPlace) → place_of p ≡ place → LaidOut s all c ps → Gives s c place after → LaidOut s all after (ps ++ p ∷ [])
laid_more s all c after ps p place e h g = record {
  given = h.given ++ g.step ∷ [];
  are = one_more s ps h.given p g.step h.are (subst (λ q. IsStep s q g.step) (sym e) g.is);
  all_is = append_assoc h.given (g.step ∷ []) (steps_left s after) ∙ ap (λ l. h.given ++ l) (sym g.left) ∙ h.all_is;
  cursor = g.cursor;
}

pub laid_all : (s : Source) (all : List Step) (c : Cursor) (ps : List LaidStep) → LaidOut s all c ps → steps_left s c ≡ [] → AreSteps s ps all
laid_all s all c ps h e = subst (AreSteps s ps) (sym (append-nil h.given) ∙ ap (λ l. h.given ++ l) (sym e) ∙ h.all_is) h.are

-- as many places as steps
pub as_many : (s : Source) (ps : List LaidStep) (xs : List Step) → AreSteps s ps xs → length ps ≡ length xs
as_many s [] [] h = refl
as_many s [] (x ∷ xs) h = absurd h
as_many s (p ∷ ps) [] h = absurd h
as_many s (p ∷ ps) (x ∷ xs) h = ap suc (as_many s ps xs h.1)

-- the step at a place
pub step_there : (s : Source) (ps : List LaidStep) (xs : List Step) (k : ℕ) (p : LaidStep) → AreSteps s ps xs → IsAt ps k p → (x : Step) × IsAt xs k x × IsStep s (place_of p) x
step_there s [] xs k p h i = absurd (omega (arith, i.0))
step_there s (q ∷ ps) [] k p h i = absurd h
step_there s (q ∷ ps) (x ∷ xs) zero p h i = (x, (omega arith, refl), subst (λ z. IsStep s (place_of z) x) i.1 h.0)
step_there s (q ∷ ps) (x ∷ xs) (suc k) p h i = let r = step_there s ps xs k p h.1 (omega (arith, i.0), i.1) in (r.0, (omega (arith, r.1.0), r.1.1), r.2)
