-- What holds of the batch of every list of steps, since it lasts from step to step.
use Rattle.std.proofs.Common.{◌≡◌, Bool, true, false, cond, List, [], ◌∷◌, ◌++◌, Option, Some, None, refl, sym, subst, leb, Contains}
use Rattle.cs_types.specs.Members.{in_head, in_tail}
use Rattle.cs_records.specs.declared.records.Record.{Record}
use Rattle.cs_link.specs.declared.batch.Batch.{Batch}
use Rattle.cs_link.specs.declared.batch.Known.{Known}
use Rattle.cs_link.specs.declared.batch.Limits.{Limits}
use Rattle.cs_link.specs.declared.breach.Breach.{Breach}
use Rattle.cs_link.specs.declared.reading.Closing.{Closing}
use Rattle.cs_link.specs.declared.reading.ReadArgs.{ReadArgs}
use Rattle.cs_link.specs.declared.reading.Step.{Step}
use Rattle.cs_fetch.specs.declared.so_far.SoFar.{SoFar}
use Rattle.cs_fetch.specs.declared.so_far.Tally.{Tally}
use Rattle.cs_fetch.specs.Breach.{record_breach, end_breach}
use Rattle.cs_link.specs.Causes.{one_more}
use Rattle.cs_fetch.specs.Fetch.{counted_in, idled, is_full, none_counted, Gives, Stalls, IfGives, or_breaks, closed_by, filled, outcome_behind, outcome_of}
use Rattle.cs_fetch.specs.SoFar.{so_far, adds, with_record}
use Rattle.cs_fetch.proofs.Reached.{so_far_more}

-- steps that may be so keep P, and with P a batch is of this kind
pub record Lasts (args : ReadArgs) (known : Known) (limits : Limits) (May : Step → Type 0) (P : SoFar → Tally → Type 0) (Q : Batch → Type 0) : Type 0 where
  pub adds_some : (s : SoFar) (t : Tally) (item : Record) → May (Step.Record item) → P s t → record_breach args s item ≡ None → adds known s item ≡ true → P (with_record known s item) (counted_in t item)
  pub adds_none : (s : SoFar) (t : Tally) (item : Record) → May (Step.Record item) → P s t → record_breach args s item ≡ None → adds known s item ≡ false → leb 8192 (one_more t.idle) ≡ false → P (with_record known s item) (idled t)
  pub fills : (s : SoFar) (t : Tally) (item : Record) → May (Step.Record item) → P s t → record_breach args s item ≡ None → adds known s item ≡ true → is_full limits (counted_in t item) item ≡ true → Q (filled args (with_record known s item))
  pub closes : (s : SoFar) (t : Tally) (closing : Closing) → May (Step.Closing closing) → P s t → end_breach args known s closing ≡ None → Q (closed_by args s closing)

module _ (args : ReadArgs) (known : Known) (limits : Limits) (May : Step → Type 0) (P : SoFar → Tally → Type 0) (Q : Batch → Type 0) (L : Lasts args known limits May P Q) where
  closed : (s : SoFar) (t : Tally) (closing : Closing) → May (Step.Closing closing) → P s t → (o : Option Breach) → end_breach args known s closing ≡ o → IfGives Q (or_breaks o (Gives (closed_by args s closing)))
  closed s t closing m p None h = L.closes s t closing m p h
  closed s t closing m p (Some x) h = tt

  module _ (done : List Step) (t : Tally) (item : Record) (steps : List Step) (m : May (Step.Record item)) (p : P (so_far known done) t) (again : (u : Tally) → P (so_far known (done ++ Step.Record item ∷ [])) u → IfGives Q (outcome_behind args known limits (done ++ Step.Record item ∷ []) u steps)) where
    abbrev s : SoFar
    s = so_far known done

    on : (u : Tally) → P (with_record known s item) u → IfGives Q (outcome_behind args known limits (done ++ Step.Record item ∷ []) u steps)
    on u q = again u (subst (λ z. P z u) (sym (so_far_more known done item)) q)

    full : record_breach args s item ≡ None → adds known s item ≡ true → (b : Bool) → is_full limits (counted_in t item) item ≡ b → IfGives Q (cond b (Gives (filled args (so_far known (done ++ Step.Record item ∷ [])))) (outcome_behind args known limits (done ++ Step.Record item ∷ []) (counted_in t item) steps))
    full h a true g = subst (λ z. Q (filled args z)) (sym (so_far_more known done item)) (L.fills s t item m p h a g)
    full h a false g = on (counted_in t item) (L.adds_some s t item m p h a)

    stalled : record_breach args s item ≡ None → adds known s item ≡ false → (b : Bool) → leb 8192 (one_more t.idle) ≡ b → IfGives Q (cond b Stalls (outcome_behind args known limits (done ++ Step.Record item ∷ []) (idled t) steps))
    stalled h a true g = tt
    stalled h a false g = on (idled t) (L.adds_none s t item m p h a g)

    adding : record_breach args s item ≡ None → (b : Bool) → adds known s item ≡ b → IfGives Q
        (cond b (cond (is_full limits (counted_in t item) item) (Gives (filled args (so_far known (done ++ Step.Record item ∷ [])))) (outcome_behind args known limits (done ++ Step.Record item ∷ []) (counted_in t item) steps)) (cond (leb 8192 (one_more t.idle)) Stalls (outcome_behind args known limits (done ++ Step.Record item ∷ []) (idled t) steps)))
    adding h true a = full h a (is_full limits (counted_in t item) item) refl
    adding h false a = stalled h a (leb 8192 (one_more t.idle)) refl

    taken : (o : Option Breach) → record_breach args s item ≡ o → IfGives Q
        (or_breaks o
        (cond (adds known s item) (cond (is_full limits (counted_in t item) item) (Gives (filled args (so_far known (done ++ Step.Record item ∷ [])))) (outcome_behind args known limits (done ++ Step.Record item ∷ []) (counted_in t item) steps)) (cond (leb 8192 (one_more t.idle)) Stalls (outcome_behind args known limits (done ++ Step.Record item ∷ []) (idled t) steps))))
    taken None h = adding h (adds known s item) refl
    taken (Some x) h = tt

  walked : (done : List Step) (t : Tally) (steps : List Step) → ((x : Step) → Contains steps x → May x) → P (so_far known done) t → IfGives Q (outcome_behind args known limits done t steps)
  walked done t [] M p = tt
  walked done t (Step.Closing closing ∷ steps) M p = closed (so_far known done) t closing (M (Step.Closing closing) (in_head (Step.Closing closing) steps)) p (end_breach args known (so_far known done) closing) refl
  walked done t (Step.Record item ∷ steps) M p = taken done t item steps (M (Step.Record item) (in_head (Step.Record item) steps)) p (λ u q. walked (done ++ Step.Record item ∷ []) u steps (λ x i. M x (in_tail (Step.Record item) x steps i)) q) (record_breach args (so_far known done) item) refl

  pub walks : (steps : List Step) → ((x : Step) → Contains steps x → May x) → P (so_far known []) none_counted → IfGives Q (outcome_of args known limits steps)
  walks steps M p = walked [] none_counted steps M p
