-- Captured changes that share a record are alike, and those of a transaction have one id.
use Rattle.std.proofs.Common.{◌≡◌, ℕ, Bool, true, ◌&&◌, nat_lt, ◌==◌, List, [], ◌∷◌, ◌++◌, length, refl, sym, ap, ◌∙◌, subst, Contains, All, ⊎_elim, bytes_eq}
use Rattle.std.proofs.lemmas.Bool.{and_parts}
use Rattle.std.proofs.lemmas.List.Elements.{All-nil, All-push, Contains-append_cases}
use Rattle.cs_types.specs.declared.change.Kind.{Kind}
use Rattle.cs_types.specs.declared.change.Kind.TheVariants.{Insert, Update, Delete}
use Rattle.cs_types.specs.Names.{columns_of}
use Rattle.cs_types.specs.Members.{bytes_same, in_nil, in_cons}
use Rattle.cs_records.specs.declared.captured.Captured.{Captured}
use Rattle.cs_records.specs.Group.{IsAlike}
use Rattle.cs_steps.specs.Cutting.{first_is}
use Rattle.cs_steps.specs.Records.{kind_number, same_names, is_alike}

kinds_same : (a b : Kind) → (kind_number a == kind_number b) ≡ true → a ≡ b
kinds_same Insert Insert h = refl
kinds_same Insert Update h = cc
kinds_same Insert Delete h = cc
kinds_same Update Insert h = cc
kinds_same Update Update h = refl
kinds_same Update Delete h = cc
kinds_same Delete Insert h = cc
kinds_same Delete Update h = cc
kinds_same Delete Delete h = refl

names_same : (ms ns : List (List ℕ)) → same_names ms ns ≡ true → ms ≡ ns
names_same [] [] h = refl
names_same [] (n ∷ ns) h = cc
names_same (m ∷ ms) [] h = cc
names_same (m ∷ ms) (n ∷ ns) h =
    let u = and_parts (bytes_eq m n) (same_names ms ns) h in
    let a : m ≡ n = bytes_same m n u.0 in
    let b : ms ≡ ns = names_same ms ns u.1 in
    λ i. a i ∷ b i

alike : (a b : Captured) → is_alike a b ≡ true → IsAlike a b
alike a b h =
    let u = and_parts (bytes_eq a.change.row.table b.change.row.table) _ h in
    let v = and_parts (kind_number a.change.kind == kind_number b.change.kind) _ u.1 in
    let w = and_parts (same_names (columns_of a.change.new) (columns_of b.change.new)) _ v.1 in
    record {
      table = bytes_same a.change.row.table b.change.row.table u.0;
      kind = kinds_same a.change.kind b.change.kind v.0;
      new = names_same (columns_of a.change.new) (columns_of b.change.new) w.0;
      old = names_same (columns_of a.change.old) (columns_of b.change.old) w.1;
    }

-- ---- a record

abbrev pub joins : List Captured → Captured → Bool
joins group c = first_is (λ a. is_alike a c) group && nat_lt (length group) 32

-- captured changes that are like the first
pub record IsRun (g : List Captured) : Type 0 where
  pub first : Captured
  pub more : List Captured
  pub split : g ≡ first ∷ more
  pub alike : All (IsAlike first) more

pub run_one : (x : Captured) → IsRun (x ∷ [])
run_one x = record { first = x; more = []; split = refl; alike = All-nil (IsAlike x) }

pub run_more : (group : List Captured) (x : Captured) → IsRun group → joins group x ≡ true → IsRun (group ++ x ∷ [])
run_more group x h t =
    let u = and_parts (first_is (λ a. is_alike a x) group) (nat_lt (length group) 32) t in
    let s : is_alike h.first x ≡ true = subst (λ g. first_is (λ a. is_alike a x) g ≡ true) h.split u.0 in
    record {
      first = h.first;
      more = h.more ++ x ∷ [];
      split = ap (λ g. g ++ x ∷ []) h.split;
      alike = All-push (IsAlike h.first) h.more x h.alike (alike h.first x s);
    }

pub alike_itself : (a : Captured) → IsAlike a a
alike_itself a = record { table = refl; kind = refl; new = refl; old = refl }

-- ---- a transaction

abbrev pub goes_on : List Captured → Captured → Bool
goes_on group c = first_is (λ a. bytes_eq a.change.tx c.change.tx) group

-- captured changes with one id
pub record HasOneId (g : List Captured) : Type 0 where
  pub first : Captured
  pub more : List Captured
  pub split : g ≡ first ∷ more
  pub same : (c : Captured) → Contains g c → first.change.tx ≡ c.change.tx

pub id_one : (x : Captured) → HasOneId (x ∷ [])
id_one x = record { first = x; more = []; split = refl; same = λ c i. ⊎_elim (λ (s : c ≡ x). ap (λ (z : Captured). z.change.tx) (sym s)) (λ (n : Contains [] c). absurd (in_nil c n)) (in_cons x c [] i) }

pub id_more : (group : List Captured) (x : Captured) → HasOneId group → goes_on group x ≡ true → HasOneId (group ++ x ∷ [])
id_more group x h t =
    let s : bytes_eq h.first.change.tx x.change.tx ≡ true = subst (λ g. goes_on g x ≡ true) h.split t in
    let e : h.first.change.tx ≡ x.change.tx = bytes_same h.first.change.tx x.change.tx s in
    record {
      first = h.first;
      more = h.more ++ x ∷ [];
      split = ap (λ g. g ++ x ∷ []) h.split;
      same = λ c i. ⊎_elim
          (λ (j : Contains group c). h.same c j)
          (λ (j : Contains (x ∷ []) c). ⊎_elim (λ (s : c ≡ x). e ∙ ap (λ (z : Captured). z.change.tx) (sym s)) (λ (n : Contains [] c). absurd (in_nil c n)) (in_cons x c [] j))
          (Contains-append_cases group (x ∷ []) c i);
    }
