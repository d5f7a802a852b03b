-- A batch that brings rows on makes an entry.
use Rattle.std.proofs.Common.{◌≡◌, ◌⊎◌, ℕ, ◌+◌, ◌≤◌, Bool, true, false, cond, not, ◌&&◌, List, [], ◌∷◌, Option, Some, None, Ok, ⊎_elim, inl, inr, sym, refl, ap, ◌∙◌, subst, arith, true≢false, Contains, leb}
use Rattle.std.proofs.lemmas.Bool.{leb-true}
use Rattle.cs_types.specs.declared.change.Change.{Change}
use Rattle.cs_types.specs.Members.{in_nil, in_filter}
use Rattle.cs_place.specs.declared.part.Part.{Part}
use Rattle.cs_link.specs.declared.batch.Batch.{Batch}
use Rattle.cs_link.specs.declared.batch.Ending.TheVariants as endings
use Rattle.cs_link.specs.declared.breach.Breach.{Breach}
use Rattle.cs_link.specs.declared.feed.Feed.{Feed}
use Rattle.cs_link.specs.Batch.{is_known, IsFaithfulPart, IsFaithfulOf, IsFaithful}
use Rattle.cs_link.specs.Pace.{BringsOn}
use Rattle.cs_schedule.specs.declared.entry.Entry.TheVariants.{Progress, Finished}
use Rattle.cs_schedule.specs.declared.row.Row.{Row}
use Rattle.cs_schedule.specs.Board.{row_of}
use Rattle.cs_schedule.specs.Consistent.{known_by, is_end, news, through_by}
use Rattle.cs_schedule.specs.Plan.{judge, has_change, entry_with, judged, planned_of}
use Rattle.cs_schedule.specs.Update.{PlansOf}
use Rattle.cs_room.specs.Laws.{BringsRowOn, BringsRowsOn, BringsRowsOnOf}
use Rattle.cs_room.specs.Room.{pace}

-- ---- a batch that brings its row on

unknown_new : (r : Row) (b : Batch) (c : Change) → Contains b.changes c → is_known (known_by r) c ≡ false → Contains (news r b) c
unknown_new r b c i h = in_filter (λ c. not (is_known (known_by r) c)) c b.changes i (ap not h)

row_on : (f : Feed) (e : ℕ) (q : Part) (r : Row) (b : Batch) → IsFaithfulPart f e (known_by r) q b → BringsOn pace (known_by r) b → BringsRowOn r b
row_on f e q r b F (inl h) = inl h
row_on f e q r b F (inr (inl h)) = inr (inl (h.0, unknown_new r b h.0 h.1 (F.wanted h.0 h.1).4))
row_on f e q r b F (inr (inr h)) = inr (inr h)

pub read_brings_on : (f : Feed) (rows : List Row) (e : ℕ) (r : Row) (t : List ℕ) (x : Batch) → x.token ≡ Some t → row_of rows t ≡ Some r → IsFaithful f e (known_by r) x → BringsOn pace (known_by r) x → BringsRowsOn rows x
read_brings_on f rows e r t x token row F on =
    let G : IsFaithfulOf f e (known_by r) x (Some t) = subst (IsFaithfulOf f e (known_by r) x) token F in
    subst (BringsRowsOnOf rows x) (sym token) (r, row, row_on f e G.0 r x G.3 on)

pub first_brings_on : (rows : List Row) (x : Batch) → x.token ≡ None → BringsRowsOn rows x
first_brings_on rows x token = subst (BringsRowsOnOf rows x) (sym token) tt

-- ---- an entry is planned

some_change : (cs : List Change) (c : Change) → Contains cs c → has_change cs ≡ true
some_change [] c i = absurd (in_nil c i)
some_change (d ∷ cs) c i = refl

judged_none : {A : Type 0} (o : Option Breach) (a : Option A) → judged o a ≡ Ok None → a ≡ None
judged_none None a h = cc
judged_none (Some breach) a h = absurd cc

some_entry : (r : Row) (b : Batch) → BringsRowOn r b → entry_with r b (through_by r b) (news r b) ≡ None → ⊥
unfolding entry_with
some_entry r b on h = by (is_end b.ending) (has_change (news r b)) (leb b.through r.through) refl refl refl h
  where
    by : (x y z : Bool) → is_end b.ending ≡ x → has_change (news r b) ≡ y → leb b.through r.through ≡ z
        → cond x (Some (Finished r.token (through_by r b) (news r b) b.children)) (cond (not y && z) None (Some (Progress r.token (through_by r b) (news r b)))) ≡ None → ⊥
    by true y z p q s k = absurd cc
    by false true z p q s k = absurd cc
    by false false false p q s k = absurd cc
    by false false true p q s k =
        ⊎_elim
        (λ (a : b.ending ≡ endings.Finished). true≢false (sym (ap is_end a) ∙ p))
        (λ (o : ((c : Change) × Contains (news r b) c) ⊎ (r.through + pace ≤ b.through)). ⊎_elim
        (λ (a : (c : Change) × Contains (news r b) c). true≢false (sym (some_change (news r b) a.0 a.1) ∙ q))
        (λ (a : r.through + pace ≤ b.through). let l = leb-true b.through r.through s in omega (arith, a, l))
        o)
        on

pub some_planned : (rows : List Row) (x : Batch) → BringsRowsOn rows x → PlansOf rows x x.token (Ok None) → ⊥
some_planned rows x = by x.token
  where
    by : (t : Option (List ℕ)) → BringsRowsOnOf rows x t → PlansOf rows x t (Ok None) → ⊥
    by None on plan = absurd cc
    by (Some t) on plan = some_entry on.0 x on.2 (judged_none (judge rows on.0 x) (entry_with on.0 x (through_by on.0 x) (news on.0 x)) (ap (λ o. planned_of rows o x) (sym on.1) ∙ plan))
