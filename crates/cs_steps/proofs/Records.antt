-- The data records of a part tell the changes that the part holds, in their order.
use Rattle.std.proofs.Common.{◌≡◌, ◌≢◌, ℕ, suc, Bool, true, ◌&&◌, nat_lt, List, [], ◌∷◌, ◌++◌, length, map, ⊎_elim, refl, sym, ap, ◌∙◌, subst, Contains, flat_map, bytes_eq}
use Rattle.std.proofs.lemmas.Grind.{flat_map-append}
use Rattle.std.proofs.lemmas.List.{map-append}
use Rattle.std.proofs.lemmas.List.Elements.{filter-append, Contains-append_cases}
use Rattle.cs_types.specs.declared.change.Change.{Change}
use Rattle.cs_types.specs.Members.{bytes_same, Pairwise, in_nil, in_head, in_tail, in_cons, from_filter, pairs_right, pairs_left, pairs_filter, pairs_weaker, from_flat}
use Rattle.cs_place.specs.declared.part.Part.{Part}
use Rattle.cs_records.specs.declared.captured.Captured.{Captured}
use Rattle.cs_records.specs.declared.records.DataRecord.{DataRecord}
use Rattle.cs_records.specs.Group.{Agree, HasItsColumns}
use Rattle.cs_records.specs.Told.{changes_told}
use Rattle.cs_steps.proofs.Premises.{RunsTell}
use Rattle.cs_steps.specs.Cutting.{joined, first_is}
use Rattle.cs_place.specs.Part.{is_held}
use Rattle.cs_link.specs.Feed.{place_of}
use Rattle.cs_steps.specs.Records.{held, transactions, is_alike, groups, Count, count_of, first_sequence, is_none, told_as, numbered, records_in, data_records}
use Rattle.cs_steps.proofs.Cuts.{whole, in_whole, each}
use Rattle.cs_steps.proofs.Alike.{IsRun, run_one, run_more, IsSound, told_run, sound_run}

abbrev pub change_of : Captured → Change
change_of c = c.change

-- whatever the numbers are
pub record IsTold (g : List Captured) : Type 0 where
  pub told : (count : Count) (n : ℕ) (last : Bool) → flat_map changes_told (told_as count n last g) ≡ map change_of g
  pub sound : (count : Count) (n : ℕ) (last : Bool) (d : DataRecord) → Contains (told_as count n last g) d → IsSound d

numbered_told : (count : Count) (n : ℕ) (gs : List (List Captured)) → ((g : List Captured) → Contains gs g → IsTold g) → flat_map changes_told (numbered count n gs) ≡ map change_of (joined gs)
numbered_told count n [] h = refl
numbered_told count n (g ∷ gs) h =
    let a = (h g (in_head g gs)).told count n (is_none gs) in
    let b = numbered_told count (suc n) gs (λ k i. h k (in_tail g k gs i)) in
    flat_map-append changes_told (told_as count n (is_none gs) g) (numbered count (suc n) gs) ∙ (λ i. a i ++ b i) ∙ sym (map-append change_of g (joined gs))

numbered_sound : (count : Count) (n : ℕ) (gs : List (List Captured)) → ((g : List Captured) → Contains gs g → IsTold g) → (d : DataRecord) → Contains (numbered count n gs) d → IsSound d
numbered_sound count n [] h d i = absurd (in_nil d i)
numbered_sound count n (g ∷ gs) h d i =
    ⊎_elim
    (λ (j : Contains (told_as count n (is_none gs) g) d). (h g (in_head g gs)).sound count n (is_none gs) d j)
    (λ (j : Contains (numbered count (suc n) gs) d). numbered_sound count (suc n) gs (λ k i. h k (in_tail g k gs i)) d j)
    (Contains-append_cases (told_as count n (is_none gs) g) (numbered count (suc n) gs) d i)

-- one of lists that stand one behind another is related as they all are
pairs_joined : {A : Type 0} (R : A → A → Type 0) (gs : List (List A)) (g : List A) → Pairwise R (joined gs) → Contains gs g → Pairwise R g
pairs_joined R [] g h i = absurd (in_nil g i)
pairs_joined R (k ∷ gs) g h i =
    ⊎_elim
    (λ (s : g ≡ k). subst (Pairwise R) (sym s) (pairs_left R k (joined gs) h))
    (λ (j : Contains gs g). pairs_joined R gs g (pairs_right R k (joined gs) h) j)
    (in_cons k g gs i)

abbrev pub of_one_id : List Captured → Captured → Bool
of_one_id group c = first_is (λ a. bytes_eq a.change.tx c.change.tx) group

abbrev pub joins : List Captured → Captured → Bool
joins group c = first_is (λ a. is_alike a c) group && nat_lt (length group) 32

-- all are of one transaction
record HasOneId (g : List Captured) : Type 0 where
  first : Captured
  more : List Captured
  split : g ≡ first ∷ more
  same : (c : Captured) → Contains g c → first.change.tx ≡ c.change.tx

one_id : (x : Captured) → HasOneId (x ∷ [])
one_id x = record { first = x; more = []; split = refl; same = λ c i. ⊎_elim (λ (s : c ≡ x). ap (λ (z : Captured). z.change.tx) (sym s)) (λ (n : Contains [] c). absurd (in_nil c n)) (in_cons x c [] i) }

more_ids : (group : List Captured) (x : Captured) → HasOneId group → of_one_id group x ≡ true → HasOneId (group ++ x ∷ [])
more_ids group x h t =
    let s : bytes_eq h.first.change.tx x.change.tx ≡ true = subst (λ g. of_one_id g x ≡ true) h.split t in
    let e : h.first.change.tx ≡ x.change.tx = bytes_same h.first.change.tx x.change.tx s in
    record {
      first = h.first;
      more = h.more ++ x ∷ [];
      split = ap (λ g. g ++ x ∷ []) h.split;
      same = λ c i. ⊎_elim
          (λ (j : Contains group c). h.same c j)
          (λ (j : Contains (x ∷ []) c). ⊎_elim (λ (s : c ≡ x). e ∙ ap (λ (z : Captured). z.change.tx) (sym s)) (λ (n : Contains [] c). absurd (in_nil c n)) (in_cons x c [] j))
          (Contains-append_cases group (x ∷ []) c i);
    }

module _ (L : RunsTell) (parts : List Part) (part : Part) (items : List Captured)
    (order : Pairwise (λ (a b : Captured). a.change.stamp ≡ b.change.stamp → a.change.row ≢ b.change.row) items)
    (agree : (a b : Captured) → Contains items a → Contains items b → a.change.tx ≡ b.change.tx → Agree a b)
    (columns : (c : Captured) → Contains items c → HasItsColumns c) where
  group_told : (tx : List Captured) → Contains (transactions items) tx → (g : List Captured) → Contains (groups (held part tx)) g → IsTold g
  group_told tx i g j = record {
    told = λ count n last. subst (λ l. flat_map changes_told (told_as count n last l) ≡ map change_of l) (sym run.split) (told_run L run.first run.more run.alike run.few all_agree all_columns rows count n last);
    sound = λ count n last d k. by count n last d (subst (λ l. Contains (told_as count n last l) d) run.split k);
  }
    where
      run : IsRun g
      run = each joins IsRun run_one run_more (held part tx) g j

      one : HasOneId tx
      one = each of_one_id HasOneId one_id more_ids items tx i

      in_tx : (c : Captured) → Contains g c → Contains tx c
      in_tx c k = (from_filter (λ x. is_held part (place_of x.change.row) x.change.stamp) c tx (in_whole joins (held part tx) g c j k)).0

      in_items : (c : Captured) → Contains g c → Contains items c
      in_items c k = in_whole of_one_id items tx c i (in_tx c k)

      back : (c : Captured) → Contains (run.first ∷ run.more) c → Contains g c
      back c k = subst (λ l. Contains l c) (sym run.split) k

      agree_in : (a b : Captured) → Contains g a → Contains g b → Agree a b
      agree_in a b k l = agree a b (in_items a k) (in_items b l) (sym (one.same a (in_tx a k)) ∙ one.same b (in_tx b l))

      all_agree : (a b : Captured) → Contains (run.first ∷ run.more) a → Contains (run.first ∷ run.more) b → Agree a b
      all_agree a b k l = agree_in a b (back a k) (back b l)

      all_columns : (c : Captured) → Contains (run.first ∷ run.more) c → HasItsColumns c
      all_columns c k = columns c (in_items c (back c k))

      in_order : Pairwise (λ (a b : Captured). a.change.stamp ≡ b.change.stamp → a.change.row ≢ b.change.row) g
      in_order =
          let R = λ (a b : Captured). a.change.stamp ≡ b.change.stamp → a.change.row ≢ b.change.row in
          let of_tx : Pairwise (λ (a b : Captured). a.change.stamp ≡ b.change.stamp → a.change.row ≢ b.change.row) tx = pairs_joined R (transactions items) tx (subst (Pairwise R) (sym (whole of_one_id items)) order) i in
          pairs_joined R (groups (held part tx)) g (subst (Pairwise R) (sym (whole joins (held part tx))) (pairs_filter R (λ x. is_held part (place_of x.change.row) x.change.stamp) tx of_tx)) j

      rows : Pairwise (λ (a b : Captured). a.change.row ≢ b.change.row) (run.first ∷ run.more)
      rows = subst (Pairwise (λ (a b : Captured). a.change.row ≢ b.change.row)) run.split
          (pairs_weaker (λ (a b : Captured). a.change.stamp ≡ b.change.stamp → a.change.row ≢ b.change.row) (λ (a b : Captured). a.change.row ≢ b.change.row) g (λ a b k l h. h (agree_in a b k l).stamp) in_order)

      by : (count : Count) (n : ℕ) (last : Bool) (d : DataRecord) → Contains (told_as count n last (run.first ∷ run.more)) d → IsSound d
      by count n last d k =
          ⊎_elim
          (λ s. subst IsSound (sym s) (sound_run L run.first run.more run.alike run.few all_agree all_columns rows count n last))
          (λ m. absurd (in_nil d m))
          (in_cons _ d [] k)

  tx_told : (tx : List Captured) → Contains (transactions items) tx → flat_map changes_told (records_in parts part tx) ≡ map change_of (held part tx)
  tx_told tx i = numbered_told (count_of parts tx) (first_sequence parts tx part) (groups (held part tx)) (group_told tx i) ∙ ap (map change_of) (whole joins (held part tx))

  txs_told : (txs : List (List Captured)) → ((tx : List Captured) → Contains txs tx → Contains (transactions items) tx) → flat_map changes_told (flat_map (records_in parts part) txs) ≡ map change_of (held part (joined txs))
  txs_told [] h = refl
  txs_told (tx ∷ txs) h =
      let a = tx_told tx (h tx (in_head tx txs)) in
      let b = txs_told txs (λ t i. h t (in_tail tx t txs i)) in
      flat_map-append changes_told (records_in parts part tx) (flat_map (records_in parts part) txs)
      ∙ (λ i. a i ++ b i)
      ∙ sym (ap (map change_of) (filter-append (λ c. is_held part (place_of c.change.row) c.change.stamp) tx (joined txs)) ∙ map-append change_of (held part tx) (held part (joined txs)))

  pub records_told : flat_map changes_told (data_records parts part items) ≡ map change_of (held part items)
  records_told = txs_told (transactions items) (λ t i. i) ∙ ap (λ l. map change_of (held part l)) (whole of_one_id items)

  pub records_sound : (d : DataRecord) → Contains (data_records parts part items) d → IsSound d
  records_sound d i =
      let u = from_flat (records_in parts part) d (transactions items) i in
      numbered_sound (count_of parts u.0) (first_sequence parts u.0 part) (groups (held part u.0)) (group_told u.0 u.1) d u.2
