-- Captured changes that share a record: the record tells just them, and its mods are changes.
use Rattle.std.proofs.Common.{◌≡◌, ◌≢◌, ℕ, suc, ◌<◌, ◌≤◌, Bool, true, false, ◌&&◌, nat_lt, ◌==◌, List, [], ◌∷◌, ◌++◌, length, map, None, refl, sym, ap, ◌∙◌, subst, arith, Contains, flat_map, All, append-nil, length-append, bytes_eq}
use Rattle.std.specs.List.{IsDistinct, AllByRecursion}
use Rattle.std.proofs.lemmas.Bool.{and_parts, ltb-true, false_from_ne_true}
use Rattle.std.proofs.lemmas.List.Elements.{All-nil, All-push, Contains-get_or}
use Rattle.cs_types.specs.declared.change.Change.{Change}
use Rattle.cs_types.specs.declared.change.Kind.{Kind}
use Rattle.cs_types.specs.declared.change.Kind.TheVariants.{Insert, Update, Delete}
use Rattle.cs_types.specs.declared.change.RowName.{RowName}
use Rattle.cs_types.specs.Row.{same_row}
use Rattle.cs_types.specs.Exact.{same_row-is}
use Rattle.cs_records.specs.declared.captured.Captured.{Captured}
use Rattle.cs_records.specs.declared.records.DataRecord.{DataRecord}
use Rattle.cs_records.specs.declared.records.Mod.{Mod}
use Rattle.cs_types.specs.Names.{columns_of}
use Rattle.cs_types.specs.Members.{bytes_same, Pairwise, in_head, in_tail}
use Rattle.cs_records.specs.Group.{Agree, HasItsColumns, IsAlike, IsRun as IsRunOf, record_of as cut_record}
use Rattle.cs_records.specs.Told.{changes_told, record_fault}
use Rattle.cs_steps.proofs.Premises.{RunsTell}
use Rattle.cs_steps.specs.Cutting.{first_is}
use Rattle.cs_steps.specs.Records.{kind_number, same_names, is_alike, Count, record_of, told_as}

kinds_same : (a b : Kind) → (kind_number a == kind_number b) ≡ true → a ≡ b
kinds_same Insert Insert h = refl
kinds_same Insert Update h = cc
kinds_same Insert Delete h = cc
kinds_same Update Insert h = cc
kinds_same Update Update h = refl
kinds_same Update Delete h = cc
kinds_same Delete Insert h = cc
kinds_same Delete Update h = cc
kinds_same Delete Delete h = refl

names_same : (ms ns : List (List ℕ)) → same_names ms ns ≡ true → ms ≡ ns
names_same [] [] h = refl
names_same [] (n ∷ ns) h = cc
names_same (m ∷ ms) [] h = cc
names_same (m ∷ ms) (n ∷ ns) h =
    let u = and_parts (bytes_eq m n) (same_names ms ns) h in
    let a : m ≡ n = bytes_same m n u.0 in
    let b : ms ≡ ns = names_same ms ns u.1 in
    λ i. a i ∷ b i

pub alike : (a b : Captured) → is_alike a b ≡ true → IsAlike a b
alike a b h =
    let u = and_parts (bytes_eq a.change.row.table b.change.row.table) _ h in
    let v = and_parts (kind_number a.change.kind == kind_number b.change.kind) _ u.1 in
    let w = and_parts (same_names (columns_of a.change.new) (columns_of b.change.new)) _ v.1 in
    record {
      table = bytes_same a.change.row.table b.change.row.table u.0;
      kind = kinds_same a.change.kind b.change.kind v.0;
      new = names_same (columns_of a.change.new) (columns_of b.change.new) w.0;
      old = names_same (columns_of a.change.old) (columns_of b.change.old) w.1;
    }

-- 1 to 32 captured changes that are alike
pub record IsRun (g : List Captured) : Type 0 where
  pub first : Captured
  pub more : List Captured
  pub split : g ≡ first ∷ more
  pub alike : All (IsAlike first) more
  pub few : length more ≤ 31

pub run_one : (x : Captured) → IsRun (x ∷ [])
run_one x = record { first = x; more = []; split = refl; alike = All-nil (IsAlike x); few = omega arith }

pub run_more : (group : List Captured) (x : Captured) → IsRun group → (first_is (λ a. is_alike a x) group && nat_lt (length group) 32) ≡ true → IsRun (group ++ x ∷ [])
run_more group x h t =
    let u = and_parts (first_is (λ a. is_alike a x) group) (nat_lt (length group) 32) t in
    let s : is_alike h.first x ≡ true = subst (λ g. first_is (λ a. is_alike a x) g ≡ true) h.split u.0 in
    let l : length group < 32 = ltb-true (length group) 32 u.1 in
    let n : length group ≡ suc (length h.more) = ap length h.split in
    record {
      first = h.first;
      more = h.more ++ x ∷ [];
      split = ap (λ g. g ++ x ∷ []) h.split;
      alike = All-push (IsAlike h.first) h.more x h.alike (alike h.first x s);
      few = omega (arith, n, l, length-append h.more (x ∷ []));
    }

-- what a record tells and that it is accepted
pub record IsSound (d : DataRecord) : Type 0 where
  pub accepted : record_fault d ≡ None
  pub full : d.mods ≢ []
  pub some : (c : Change) × Contains (changes_told d) c

rows_apart : (row : RowName) (g : List Captured) → ((c : Captured) → Contains g c → row ≢ c.change.row) → AllByRecursion (λ r. same_row row r ≡ false) (map (λ (c : Captured). c.change.row) g)
rows_apart row [] h = tt
rows_apart row (c ∷ g) h = (false_from_ne_true (same_row row c.change.row) (λ e. h c (in_head c g) ((same_row-is row c.change.row).0 e)), rows_apart row g (λ d i. h d (in_tail c d g i)))

distinct : (g : List Captured) → Pairwise (λ (a b : Captured). a.change.row ≢ b.change.row) g → IsDistinct same_row (map (λ (c : Captured). c.change.row) g)
unfolding IsDistinct
distinct [] h = tt
distinct (c ∷ g) h = (rows_apart c.change.row g h.0, distinct g h.1)

module _ (L : RunsTell) (first : Captured) (more : List Captured) (same : All (IsAlike first) more) (few : length more ≤ 31)
    (agree : (a b : Captured) → Contains (first ∷ more) a → Contains (first ∷ more) b → Agree a b)
    (columns : (c : Captured) → Contains (first ∷ more) c → HasItsColumns c)
    (rows : Pairwise (λ (a b : Captured). a.change.row ≢ b.change.row) (first ∷ more)) where
  abbrev one : DataRecord
  one = cut_record 0 first (first ∷ more) []

  all_agree : All (λ a. All (λ b. Agree a b) (first ∷ more)) (first ∷ more)
  all_agree = λ k d l j e m. agree _ _ (Contains-get_or (first ∷ more) k d l) (Contains-get_or (first ∷ more) j e m)

  all_columns : All HasItsColumns (first ∷ more)
  all_columns = λ k d l. columns _ (Contains-get_or (first ∷ more) k d l)

  run : IsRunOf first more
  run = record { agree = all_agree; rows = distinct (first ∷ more) rows; columns = all_columns; alike = same }

  accepted_one : record_fault one ≡ None
  accepted_one = L.sound 0 first more [] run

  told_one : changes_told one ≡ map (λ (c : Captured). c.change) (first ∷ more)
  told_one = L.changes 0 first more [] run

  pub told_run : (count : Count) (n : ℕ) (last : Bool) → flat_map changes_told (told_as count n last (first ∷ more)) ≡ map (λ (c : Captured). c.change) (first ∷ more)
  told_run count n last = append-nil (changes_told one) ∙ told_one

  pub sound_run : (count : Count) (n : ℕ) (last : Bool) → IsSound (record_of count n last first (first ∷ more))
  sound_run count n last = record {
    accepted = accepted_one;
    full = λ e. nothing _ _ (sym e);
    some = (first.change, subst (λ l. Contains l first.change) (sym told_one) (in_head first.change (map (λ (c : Captured). c.change) more)));
  }
    where
      nothing : (x : Mod) (l : List Mod) → [] ≡ x ∷ l → ⊥
      nothing x l e = cc
