-- An entry that is planned is that of the batch.
use Rattle.std.proofs.Common.{◌≡◌, ℕ, [], Bool, true, false, cond, not, ◌&&◌, List, Option, Some, None, Result, Ok, Err, IfOk, sym, ap, ◌∙◌, subst, leb}
use Rattle.cs_types.specs.declared.change.Change.{Change}
use Rattle.cs_link.specs.declared.batch.Batch.{Batch}
use Rattle.cs_link.specs.declared.batch.NewChild.{NewChild}
use Rattle.cs_link.specs.declared.breach.Breach.{Breach}
use Rattle.cs_schedule.specs.declared.plan.PlanFault.{PlanFault}
use Rattle.cs_schedule.specs.declared.entry.Entry.{Entry}
use Rattle.cs_schedule.specs.declared.entry.Entry.TheVariants.{Progress, Finished}
use Rattle.cs_schedule.specs.declared.row.Row.{Row}
use Rattle.cs_schedule.specs.Board.{IsOrdered, row_of}
use Rattle.cs_schedule.specs.Consistent.{is_end, news, through_by, entry_by}
use Rattle.cs_schedule.specs.Spelling.{are_new}
use Rattle.cs_schedule.specs.Update.{applied, PlansFirst}
use Rattle.cs_schedule.proofs.Orderly.{opened_ordered, progress_ordered, finished_ordered}
use Rattle.cs_schedule.specs.Plan.{judge, has_change, entry_with, judged, planned, planned_of, Plans}

from_judged : {A : Type 0} (o : Option Breach) (a x : A) → judged o a ≡ Ok x → a ≡ x
from_judged None a x h = cc
from_judged (Some breach) a x h = absurd cc

made : (r : Row) (b : Batch) (n : ℕ) (cs : List Change) (e : Entry) → entry_with r b n cs ≡ Some e → e ≡ cond (is_end b.ending) (Finished r.token n cs b.children) (Progress r.token n cs)
unfolding entry_with
made r b n cs e h = by (is_end b.ending) (not (has_change cs) && leb b.through r.through) h
  where
    by : (c d : Bool) → cond c (Some (Finished r.token n cs b.children)) (cond d None (Some (Progress r.token n cs))) ≡ Some e → e ≡ cond c (Finished r.token n cs b.children) (Progress r.token n cs)
    by true d k = cc
    by false true k = absurd cc
    by false false k = cc

pub planned_is : (rows : List Row) (t : List ℕ) (r : Row) (b : Batch) (e : Entry) → row_of rows t ≡ Some r → planned rows t b ≡ Ok (Some e) → e ≡ entry_by r b
planned_is rows t r b e row h =
    made r b (through_by r b) (news r b) e (from_judged (judge rows r b) (entry_with r b (through_by r b) (news r b)) (Some e) (ap (λ o. planned_of rows o b) (sym row) ∙ h))

-- the rows after a planned entry are in order
entry_ordered : (s : ℕ) (rows : List Row) (r : Row) (b : Batch) (n : ℕ) (cs : List Change) → IsOrdered rows → are_new [] b.children ≡ true → IsOrdered (applied s rows (entry_with r b n cs))
unfolding entry_with
entry_ordered s rows r b n cs h new = by (is_end b.ending) (not (has_change cs) && leb b.through r.through)
  where
    by : (c d : Bool) → IsOrdered (applied s rows (cond c (Some (Finished r.token n cs b.children)) (cond d None (Some (Progress r.token n cs)))))
    by true d = finished_ordered s rows r.token n cs b.children h new
    by false true = h
    by false false = progress_ordered s rows r.token n cs h

pub planned_ordered : (s : ℕ) (rows : List Row) (t : List ℕ) (b : Batch) (o : Option Entry) → IsOrdered rows → are_new [] b.children ≡ true → planned rows t b ≡ Ok o → IsOrdered (applied s rows o)
planned_ordered s rows t b o h new = by (row_of rows t)
  where
    by : (x : Option Row) → planned_of rows x b ≡ Ok o → IsOrdered (applied s rows o)
    by None e = let none : o ≡ None = cc in subst (λ z. IsOrdered (applied s rows z)) (sym none) h
    by (Some r) e =
        subst (λ z. IsOrdered (applied s rows z)) (from_judged (judge rows r b) (entry_with r b (through_by r b) (news r b)) o e) (entry_ordered s rows r b (through_by r b) (news r b) h new)

abbrev AllOrdered : List Row → Option Entry → Type 0
AllOrdered rows o = (s : ℕ) → IsOrdered (applied s rows o)

pub plans_ordered : (rows : List Row) (t : List ℕ) (b : Batch) (r : Result (Option Entry) PlanFault) → IsOrdered rows → are_new [] b.children ≡ true → Plans r (planned rows t b) → IfOk r (AllOrdered rows)
plans_ordered rows t b (Ok o) h new p = λ s. planned_ordered s rows t b o h new p
plans_ordered rows t b (Err e) h new p = tt

pub first_ordered : (rows : List Row) (xs : List NewChild) (r : Result (Option Entry) PlanFault) → rows ≡ [] → PlansFirst rows xs r → IfOk r (AllOrdered rows)
first_ordered rows xs (Ok o) none p = λ s. subst (λ z. IsOrdered (applied s rows z)) (sym p.2) (opened_ordered s rows p.1 none p.3.rising)
first_ordered rows xs (Err e) none p = tt
