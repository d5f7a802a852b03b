-- Where a READ stands, against its steps: what the marks tell stands among the steps.
use Rattle.std.proofs.Common.{◌≡◌, ◌⊎◌, ℕ, ◌+◌, ◌-◌, ◌<◌, ◌≤◌, min, max, Bool, true, false, cond, ◌==◌, List, [], ◌∷◌, ◌++◌, length, Option, Some, None, ⊎_elim, inl, inr, refl, ap, ◌∙◌, sym, subst, arith, eqb, filter, Contains}
use Rattle.std.specs.Option.{option_or}
use Rattle.std.proofs.lemmas.Bool.{cases_lt, eqb-true}
use Rattle.std.proofs.lemmas.List.{length-append}
use Rattle.std.proofs.lemmas.List.Elements.{Contains-append_left, Contains-append_right, filter-append}
use Rattle.cs_types.specs.Members.{in_head}
use Rattle.cs_records.specs.declared.records.ChildRecord.{ChildRecord}
use Rattle.cs_records.specs.declared.records.DataRecord.{DataRecord}
use Rattle.cs_records.specs.declared.records.Record.{Record}
use Rattle.cs_link.specs.declared.batch.Known.{Known}
use Rattle.cs_link.specs.declared.reading.Step.{Step}
use Rattle.cs_fetch.specs.declared.so_far.Marks.{Marks}
use Rattle.cs_link.specs.Causes.{one_more}
use Rattle.cs_link.specs.Reading.{is_children, child_records}
use Rattle.cs_fetch.specs.SoFar.{count_at, with_data, with_beat, with_list, marked, unmarked}

-- a data record of this stamp
abbrev pub is_at : ℕ → Step → Bool
is_at stamp (Step.Record (Record.Change item)) = item.stamp == stamp
is_at stamp (Step.Record (Record.Heartbeat at)) = false
is_at stamp (Step.Record (Record.Children item)) = false
is_at stamp (Step.Closing closing) = false

abbrev pub count_of : ℕ → List Step → ℕ
count_of stamp steps = length (filter (is_at stamp) steps)

-- where a first moment that is not complete comes from
abbrev pub From : Known → ℕ → List Step → Type 0
From known through steps = (through ≡ known.through) ⊎ (((item : DataRecord) × Contains steps (Step.Record (Record.Change item)) × (through ≡ item.stamp - 1)) ⊎ ((at : ℕ) × Contains steps (Step.Record (Record.Heartbeat at)) × (through ≡ at)))

-- the marks tell what stands among the steps
pub record Tell (known : Known) (steps : List Step) (m : Marks) : Type 0 where
  pub last : (u : ℕ) → m.last ≡ Some u → (item : DataRecord) × Contains steps (Step.Record (Record.Change item)) × (item.stamp ≡ u)
  pub beat : (u : ℕ) → m.beat ≡ Some u → Contains steps (Step.Record (Record.Heartbeat u))
  pub listed : (u : ℕ) → m.listed ≡ Some u → (item : ChildRecord) × Contains steps (Step.Record (Record.Children item)) × (item.start ≡ u)
  pub at_last : (t : ℕ) → count_at m t ≤ count_of t steps
  pub records : min (length steps) 18446744073709551615 ≤ m.records
  pub lists : m.lists ≤ length (child_records steps)

some_same : (a b : ℕ) → Some a ≡ Some b → a ≡ b
some_same a b h = grind arith

count_more : (p : Step → Bool) (xs : List Step) (x : Step) → length (filter p (xs ++ x ∷ [])) ≡ length (filter p xs) + length (filter p (x ∷ []))
count_more p xs x = ap length (filter-append p xs (x ∷ [])) ∙ length-append (filter p xs) (filter p (x ∷ []))

module _ (known : Known) (done : List Step) (m : Marks) (T : Tell known done m) where
  stay : (x y : Step) → Contains done y → Contains (done ++ x ∷ []) y
  stay x y i = Contains-append_left done (x ∷ []) y i

  here : (x : Step) → Contains (done ++ x ∷ []) x
  here x = Contains-append_right done (x ∷ []) x (in_head x [])

  long : (x : Step) → length (done ++ x ∷ []) ≡ length done + 1
  long x = length-append done (x ∷ [])

  pub tell_data : (item : DataRecord) → Tell known (done ++ Step.Record (Record.Change item) ∷ []) (with_data m item.stamp)
  tell_data item =
      record {
        last = λ u h. (item, here x, some_same item.stamp u h);
        beat = λ u h. stay x (Step.Record (Record.Heartbeat u)) (T.beat u h);
        listed = λ u h. let v = T.listed u h in (v.0, stay x (Step.Record (Record.Children v.0)) v.1, v.2);
        at_last = λ t. let c = count_more (is_at t) done x in by t (eqb item.stamp t) refl c;
        records = let l = long x in let a = T.records in omega (arith, l, a);
        lists = let c = count_more is_children done x in let a = T.lists in omega (arith, c, a);
      }
    where
      x : Step
      x = Step.Record (Record.Change item)

      by : (t : ℕ) (b : Bool) → eqb item.stamp t ≡ b → count_of t (done ++ x ∷ []) ≡ count_of t done + length (filter (is_at t) (x ∷ [])) → cond (eqb item.stamp t) (one_more (count_at m item.stamp)) 0 ≤ count_of t (done ++ x ∷ [])
      by t true g c =
          let z = ap (λ b. cond b (one_more (count_at m item.stamp)) 0) g in
          let o = ap (λ b. length (cond b (x ∷ []) [])) g in
          let a = subst (λ v. count_at m v ≤ count_of t done) (sym (eqb-true item.stamp t g)) (T.at_last t) in
          omega (arith, z, o, a, c)
      by t false g c = let z = ap (λ b. cond b (one_more (count_at m item.stamp)) 0) g in omega (arith, z)

  pub tell_beat : (at : ℕ) → Tell known (done ++ Step.Record (Record.Heartbeat at) ∷ []) (with_beat m at)
  tell_beat at =
      record {
        last = λ u h. let v = T.last u h in (v.0, stay x (Step.Record (Record.Change v.0)) v.1, v.2);
        beat = λ u h. subst (λ z. Contains (done ++ x ∷ []) (Step.Record (Record.Heartbeat z))) (some_same at u h) (here x);
        listed = λ u h. let v = T.listed u h in (v.0, stay x (Step.Record (Record.Children v.0)) v.1, v.2);
        at_last = λ t. let c = count_more (is_at t) done x in let a = T.at_last t in omega (arith, c, a);
        records = let l = long x in let a = T.records in omega (arith, l, a);
        lists = let c = count_more is_children done x in let a = T.lists in omega (arith, c, a);
      }
    where
      x : Step
      x = Step.Record (Record.Heartbeat at)

  pub tell_list : (item : ChildRecord) → Tell known (done ++ Step.Record (Record.Children item) ∷ []) (with_list m item.start)
  tell_list item =
      record {
        last = λ u h. let v = T.last u h in (v.0, stay x (Step.Record (Record.Change v.0)) v.1, v.2);
        beat = λ u h. stay x (Step.Record (Record.Heartbeat u)) (T.beat u h);
        listed = λ u h. by u m.listed refl h;
        at_last = λ t. let c = count_more (is_at t) done x in let a = T.at_last t in omega (arith, c, a);
        records = let l = long x in let a = T.records in omega (arith, l, a);
        lists = let c = count_more is_children done x in let a = T.lists in omega (arith, c, a);
      }
    where
      x : Step
      x = Step.Record (Record.Children item)

      by : (u : ℕ) (o : Option ℕ) → m.listed ≡ o → option_or o (Some item.start) ≡ Some u → (other : ChildRecord) × Contains (done ++ x ∷ []) (Step.Record (Record.Children other)) × (other.start ≡ u)
      by u None g h = (item, here x, some_same item.start u h)
      by u (Some v) g h = let w = T.listed u (g ∙ h) in (w.0, stay x (Step.Record (Record.Children w.0)) w.1, w.2)

pub tell_none : (known : Known) → Tell known [] (unmarked known)
tell_none known = record { last = λ u h. cc; beat = λ u h. cc; listed = λ u h. cc; at_last = λ t. omega arith; records = omega arith; lists = omega arith }

-- where what is complete comes from
from_stay : (known : Known) (through : ℕ) (done : List Step) (x : Step) → From known through done → From known through (done ++ x ∷ [])
from_stay known through done x (inl h) = inl h
from_stay known through done x (inr (inl h)) = inr (inl (h.0, Contains-append_left done (x ∷ []) (Step.Record (Record.Change h.0)) h.1, h.2))
from_stay known through done x (inr (inr h)) = inr (inr (h.0, Contains-append_left done (x ∷ []) (Step.Record (Record.Heartbeat h.0)) h.1, h.2))

pub from_more : (known : Known) (m : Marks) (done : List Step) (item : Record) → From known m.through done → From known (marked m (Step.Record item)).through (done ++ Step.Record item ∷ [])
from_more known m done (Record.Change item) F =
    ⊎_elim
    (λ (l : m.through < item.stamp - 1). inr (inl (item, Contains-append_right done (Step.Record (Record.Change item) ∷ []) (Step.Record (Record.Change item)) (in_head (Step.Record (Record.Change item)) []), omega arith)))
    (λ (l : item.stamp - 1 ≤ m.through). let s : max m.through (item.stamp - 1) ≡ m.through = omega arith in subst (λ z. From known z (done ++ Step.Record (Record.Change item) ∷ [])) (sym s) (from_stay known m.through done (Step.Record (Record.Change item)) F))
    (cases_lt m.through (item.stamp - 1))
from_more known m done (Record.Heartbeat at) F =
    ⊎_elim
    (λ (l : m.through < at). inr (inr (at, Contains-append_right done (Step.Record (Record.Heartbeat at) ∷ []) (Step.Record (Record.Heartbeat at)) (in_head (Step.Record (Record.Heartbeat at)) []), omega arith)))
    (λ (l : at ≤ m.through). let s : max m.through at ≡ m.through = omega arith in subst (λ z. From known z (done ++ Step.Record (Record.Heartbeat at) ∷ [])) (sym s) (from_stay known m.through done (Step.Record (Record.Heartbeat at)) F))
    (cases_lt m.through at)
from_more known m done (Record.Children item) F = from_stay known m.through done (Step.Record (Record.Children item)) F
