-- What is planned of the batch of a row, case by case.
use Rattle.std.proofs.Common.{◌≡◌, ◌⊎◌, ℕ, suc, ◌≤◌, ◌+◌, Bool, true, false, cond, not, ◌&&◌, List, [], ◌∷◌, Option, Some, None, Ok, inl, inr, sym, refl, ap, ◌∙◌, arith, true≢false, filter, length, Contains, nat_lt, nat_le, eqb}
use Rattle.std.specs.Option.{option_or}
use Rattle.cs_types.specs.declared.change.Change.{Change}
use Rattle.cs_types.specs.Members.{in_nil, in_head}
use Rattle.cs_link.specs.declared.batch.Batch.{Batch}
use Rattle.cs_link.specs.declared.batch.NewChild.{NewChild}
use Rattle.cs_link.specs.declared.breach.Breach.{Breach}
use Rattle.cs_schedule.specs.declared.entry.Entry.{Entry}
use Rattle.cs_schedule.specs.declared.entry.Entry.TheVariants.{Progress, Finished}
use Rattle.cs_schedule.specs.declared.row.Row.{Row}
use Rattle.cs_schedule.specs.Board.{row_of}
use Rattle.cs_schedule.specs.Consistent.{is_end, news, through_by}
use Rattle.cs_schedule.specs.Plan.{first_other, crowded_by, count_new, count_after, too_many, seen_with, judge, judge_with, judged, has_change, entry_with, planned, planned_of}
use Rattle.cs_follow.proofs.Small.{lt_false}

or_none : (a b : Option Breach) → option_or a b ≡ None → (a ≡ None) × (b ≡ None)
or_none None b h = (refl, h)
or_none (Some x) b h = absurd cc

pub planned_ok : (rows : List Row) (t : List ℕ) (r : Row) (b : Batch) (o : Option Entry) → row_of rows t ≡ Some r → planned rows t b ≡ Ok o → (judge rows r b ≡ None) × (o ≡ entry_with r b (through_by r b) (news r b))
planned_ok rows t r b o at h = by (judge rows r b) refl (ap (λ z. planned_of rows z b) (sym at) ∙ h)
  where
    by : (j : Option Breach) → judge rows r b ≡ j → judged j (entry_with r b (through_by r b) (news r b)) ≡ Ok o → (judge rows r b ≡ None) × (o ≡ entry_with r b (through_by r b) (news r b))
    by None q k = (q, cc)
    by (Some breach) q k = absurd cc

pub judged_parts : (rows : List Row) (r : Row) (xs : List NewChild) (n : ℕ) (cs : List Change) → judge_with rows r xs n cs ≡ None
    → (crowded_by (filter (λ c. eqb c.stamp (suc n)) cs) (length (seen_with r n cs)) ≡ None) × (too_many rows xs ≡ None)
unfolding judge_with
judged_parts rows r xs n cs h = or_none _ _ (or_none (first_other rows xs) _ h).1

pub not_too_many : (rows : List Row) (xs : List NewChild) → too_many rows xs ≡ None → length rows + count_new rows xs ≤ 65536
not_too_many rows xs h = by (nat_lt 65536 (count_after rows xs)) refl h
  where
    by : (b : Bool) → nat_lt 65536 (count_after rows xs) ≡ b → cond b (Some (Breach.TooManyRows (count_after rows xs) 65536)) None ≡ None → length rows + count_new rows xs ≤ 65536
    by true q k = absurd cc
    by false q k = let few : count_after rows xs ≤ 65536 = lt_false 65536 (count_after rows xs) q in omega (arith, few)

pub not_crowded : (cs : List Change) (n : ℕ) (c : Change) → crowded_by cs n ≡ None → Contains cs c → n ≤ 1024
not_crowded [] n c h i = absurd (in_nil c i)
not_crowded (d ∷ cs) n c h i = by (nat_lt 1024 n) refl h
  where
    by : (b : Bool) → nat_lt 1024 n ≡ b → cond b (Some (Breach.TooManyAtStamp d.stamp 1024)) None ≡ None → n ≤ 1024
    by true q k = absurd cc
    by false q k = lt_false 1024 n q

pub has_some : (cs : List Change) (c : Change) → Contains cs c → has_change cs ≡ true
has_some [] c i = absurd (in_nil c i)
has_some (d ∷ cs) c i = refl

pub some_of : (cs : List Change) → has_change cs ≡ true → (c : Change) × Contains cs c
some_of [] h = absurd (true≢false (sym h))
some_of (c ∷ cs) h = (c, in_head c cs)

-- the row is finished
pub record Ends (r : Row) (b : Batch) (o : Option Entry) : Type 0 where
  pub ended : is_end b.ending ≡ true
  pub entry : o ≡ Some (Finished r.token (through_by r b) (news r b) b.children)

-- it is read on
pub record Brings (r : Row) (b : Batch) (o : Option Entry) : Type 0 where
  pub going : is_end b.ending ≡ false
  pub more : (has_change (news r b) ≡ true) ⊎ (nat_le b.through r.through ≡ false)
  pub entry : o ≡ Some (Progress r.token (through_by r b) (news r b))

-- nothing is added
pub record Idles (r : Row) (b : Batch) (o : Option Entry) : Type 0 where
  pub going : is_end b.ending ≡ false
  pub nothing : has_change (news r b) ≡ false
  pub low : nat_le b.through r.through ≡ true
  pub entry : o ≡ None

pub entry_cases : (r : Row) (b : Batch) (o : Option Entry) → o ≡ entry_with r b (through_by r b) (news r b) → Ends r b o ⊎ (Brings r b o ⊎ Idles r b o)
unfolding entry_with
entry_cases r b o h = by (is_end b.ending) (has_change (news r b)) (nat_le b.through r.through) refl refl refl h
  where
    by : (x y z : Bool) → is_end b.ending ≡ x → has_change (news r b) ≡ y → nat_le b.through r.through ≡ z
        → o ≡ cond x (Some (Finished r.token (through_by r b) (news r b) b.children)) (cond (not y && z) None (Some (Progress r.token (through_by r b) (news r b))))
        → Ends r b o ⊎ (Brings r b o ⊎ Idles r b o)
    by true y z p q s k = inl (record { ended = p; entry = k })
    by false true z p q s k = inr (inl (record { going = p; more = inl q; entry = k }))
    by false false true p q s k = inr (inr (record { going = p; nothing = q; low = s; entry = k }))
    by false false false p q s k = inr (inl (record { going = p; more = inr s; entry = k }))
