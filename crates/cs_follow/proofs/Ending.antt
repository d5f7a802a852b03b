-- A READ whose batch caught up had such an end, and nothing was wrong with it.
use Rattle.std.proofs.Common.{◌≡◌, ℕ, ◌<◌, Bool, true, false, cond, List, [], ◌∷◌, ◌++◌, Option, Some, None, refl, ap, ◌∙◌, subst, nat_le}
use Rattle.std.specs.Prelude.{⊤}
use Rattle.std.specs.Option.{option_or, option_map}
use Rattle.cs_link.specs.declared.batch.Batch.{Batch}
use Rattle.cs_link.specs.declared.batch.Ending.{Ending}
use Rattle.cs_link.specs.declared.batch.Known.{Known}
use Rattle.cs_link.specs.declared.batch.Limits.{Limits}
use Rattle.cs_link.specs.declared.breach.Breach.{Breach}
use Rattle.cs_link.specs.declared.reading.Closing.{Closing}
use Rattle.cs_link.specs.declared.reading.ReadArgs.{ReadArgs}
use Rattle.cs_link.specs.declared.reading.Step.{Step}
use Rattle.cs_link.specs.Causes.{one_more}
use Rattle.cs_link.specs.Honest.{Follows}
use Rattle.cs_link.specs.Reading.{end_of}
use Rattle.cs_fetch.specs.Breach.{record_breach, end_breach, end_breach_of, moment_offends, only_if}
use Rattle.cs_fetch.specs.Fetch.{Gives, Stalls, or_breaks, outcome_behind, outcome_of, none_counted, counted_in, idled, is_full, filled, closed_by}
use Rattle.cs_fetch.specs.SoFar.{so_far, adds}
use Rattle.cs_follow.proofs.Small.{le_false}

module _ (args : ReadArgs) (known : Known) (limits : Limits) (P : List Step → Step → Type 0) (at : ℕ) (b : Batch) (ending : b.ending ≡ Ending.CaughtUp at) where
  abbrev Found : Type 0
  Found = (done : List Step) × P done (Step.Closing (Closing.CaughtUp at)) × (end_breach args known (so_far known done) (Closing.CaughtUp at) ≡ None)

  gave : (x y : Batch) → Gives x ≡ Gives y → x ≡ y
  gave x y e = cc

  closed : (done : List Step) (closing : Closing) → P done (Step.Closing closing) → (o : Option Breach) → end_breach args known (so_far known done) closing ≡ o → or_breaks o (Gives (closed_by args (so_far known done) closing)) ≡ Gives b → Found
  closed done closing p (Some breach) q h = absurd cc
  closed done Closing.Finished p None q h = let e : Ending.Finished ≡ Ending.CaughtUp at = ap (λ (x : Batch). x.ending) (gave _ b h) ∙ ending in absurd cc
  closed done (Closing.CaughtUp m) p None q h =
      let e : Ending.CaughtUp m ≡ Ending.CaughtUp at = ap (λ (x : Batch). x.ending) (gave _ b h) ∙ ending in
      let same : m ≡ at = cc in
      (done, subst (λ n. P done (Step.Closing (Closing.CaughtUp n))) same p, subst (λ n. end_breach args known (so_far known done) (Closing.CaughtUp n) ≡ None) same q)
  closed done Closing.Cut p None q h = let e : Ending.Cut ≡ Ending.CaughtUp at = ap (λ (x : Batch). x.ending) (gave _ b h) ∙ ending in absurd cc

  pub found : (done : List Step) (tally : _) (steps : List Step) → Follows P done steps → outcome_behind args known limits done tally steps ≡ Gives b → Found
  found done tally [] F h = absurd cc
  found done tally (Step.Closing closing ∷ steps) F h = closed done closing F.0 (end_breach args known (so_far known done) closing) refl h
  found done tally (Step.Record item ∷ steps) F h =
      by (record_breach args (so_far known done) item) (adds known (so_far known done) item) (is_full limits (counted_in tally item) item) (nat_le 8192 (one_more tally.idle)) h
      (found (done ++ Step.Record item ∷ []) (counted_in tally item) steps F.1) (found (done ++ Step.Record item ∷ []) (idled tally) steps F.1)
    where
      by : (o : Option Breach) (x y z : Bool) → or_breaks o (cond x (cond y (Gives (filled args (so_far known (done ++ Step.Record item ∷ [])))) (outcome_behind args known limits (done ++ Step.Record item ∷ []) (counted_in tally item) steps)) (cond z Stalls (outcome_behind args known limits (done ++ Step.Record item ∷ []) (idled tally) steps))) ≡ Gives b
          → (outcome_behind args known limits (done ++ Step.Record item ∷ []) (counted_in tally item) steps ≡ Gives b → Found) → (outcome_behind args known limits (done ++ Step.Record item ∷ []) (idled tally) steps ≡ Gives b → Found) → Found
      by (Some breach) x y z k f g = absurd cc
      by None true true z k f g = let e : Ending.Full ≡ Ending.CaughtUp at = ap (λ (x : Batch). x.ending) (gave _ b k) ∙ ending in absurd cc
      by None true false z k f g = f k
      by None false y true k f g = absurd cc
      by None false y false k f g = g k

no_some : {A : Type 0} (x : A) → Some x ≡ None → ⊥
no_some x e = cc

mapped_none : {A B : Type 0} (g : A → B) (o : Option A) → option_map g o ≡ None → o ≡ None
mapped_none g None e = refl
mapped_none g (Some x) e = absurd (no_some (g x) e)

first_none : {A : Type 0} (a b : Option A) → option_or a b ≡ None → a ≡ None
first_none None b e = refl
first_none (Some x) b e = absurd (no_some x e)

only_none : {A : Type 0} (test : Bool) (x : A) → only_if test x ≡ None → test ≡ false
only_none true x e = absurd (no_some x e)
only_none false x e = refl

all_follow : (done steps : List Step) → Follows (λ before step. ⊤) done steps
all_follow done [] = tt
all_follow done (x ∷ steps) = (tt, all_follow (done ++ x ∷ []) steps)

-- the moment is before the end
pub caught_below : (args : ReadArgs) (known : Known) (limits : Limits) (at : ℕ) (b : Batch) (steps : List Step) → b.ending ≡ Ending.CaughtUp at → outcome_of args known limits steps ≡ Gives b → at < end_of args
caught_below args known limits at b steps ending gives = by args.token refl
  where
    u : (done : List Step) × ⊤ × (end_breach args known (so_far known done) (Closing.CaughtUp at) ≡ None)
    u = found args known limits (λ before step. ⊤) at b ending [] none_counted steps (all_follow [] steps) gives

    by : (token : Option (List ℕ)) → args.token ≡ token → at < end_of args
    by None is = absurd (no_some _ (subst (λ t. end_breach_of args known (so_far known u.0) t (Closing.CaughtUp at) ≡ None) is u.2))
    by (Some t) is =
        let none = mapped_none (Breach.CaughtUpWrong at) (moment_offends args known (so_far known u.0).marks at) (subst (λ z. end_breach_of args known (so_far known u.0) z (Closing.CaughtUp at) ≡ None) is u.2) in
        le_false (end_of args) at (only_none (nat_le (end_of args) at) (end_of args) (first_none (only_if (nat_le (end_of args) at) (end_of args)) _ none))
