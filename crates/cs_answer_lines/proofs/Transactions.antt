-- A line can stand for each data record of a part.
use Rattle.std.proofs.Common.{◌≡◌, ℕ, suc, ◌+◌, ◌*◌, ◌<◌, ◌≤◌, ◌^◌, ◌==◌, Bool, true, nat_lt, List, [], ◌∷◌, length, filter, sum_by, sym, ap, ◌∙◌, subst, arith, Contains, All}
use Rattle.std.proofs.lemmas.List.Sums.{sum_by-le}
use Rattle.std.proofs.lemmas.List.Elements.{All-nil, All-cons, All-append}
use Rattle.cs_types.specs.Members.{in_head, in_tail, from_filter, filter_shorter, all_in}
use Rattle.cs_place.specs.declared.part.Part.{Part}
use Rattle.cs_place.specs.Part.{is_below, is_held}
use Rattle.cs_records.specs.declared.captured.Captured.{Captured}
use Rattle.cs_records.specs.Group.{Agree}
use Rattle.cs_json_reading.specs.Standing.{CanStandFor}
use Rattle.cs_link.specs.Feed.{place_of}
use Rattle.cs_steps.specs.Feed.{AreCommitted}
use Rattle.cs_steps.specs.Records.{held, transactions, groups, records_of, Count, count_of, first_sequence, is_none, told_as, numbered, records_in, data_records}
use Rattle.cs_answer_lines.proofs.Cuts.{whole, in_whole, each, fewer, fewer_pass}
use Rattle.cs_answer_lines.proofs.Listed.{IsGood, stands}
use Rattle.cs_answer_lines.proofs.Members.{all_flat, all_pass}
use Rattle.cs_answer_lines.proofs.Runs.{joins, IsRun, run_one, run_more, goes_on, HasOneId, id_one, id_more}

same_eq : (a b : ℕ) → a ≡ b → (a == b) ≡ true
same_eq a b h = grind (arith, h)

-- the record of a group, whatever its small numbers are
abbrev CanTell : List Captured → Type 0
CanTell g = (count : Count) (n : ℕ) (last : Bool) → count.records < 2 ^ 63 → count.parts < 2 ^ 63 → n < 100000000 → All CanStandFor (told_as count n last g)

numbered_stand : (count : Count) (n : ℕ) (gs : List (List Captured)) → count.records < 2 ^ 63 → count.parts < 2 ^ 63 → n + length gs ≤ 100000000 → ((g : List Captured) → Contains gs g → CanTell g) → All CanStandFor (numbered count n gs)
numbered_stand count n [] records parts most h = All-nil CanStandFor
numbered_stand count n (g ∷ gs) records parts most h =
    All-append CanStandFor (told_as count n (is_none gs) g) (numbered count (suc n) gs)
    (h g (in_head g gs) count n (is_none gs) records parts (omega (arith, most)))
    (numbered_stand count (suc n) gs records parts (omega (arith, most)) (λ k i. h k (in_tail g k gs i)))

module _ (parts : List Part) (items : List Captured) (few : length parts ≤ 65536) (created : ℕ) (C : AreCommitted created items) (good : (c : Captured) → Contains items c → IsGood c) where
  module _ (tx : List Captured) (there : Contains (transactions items) tx) where
    one : HasOneId tx
    one = each goes_on HasOneId id_one id_more items tx there

    in_items : (c : Captured) → Contains tx c → Contains items c
    in_items c i = in_whole goes_on items tx c there i

    first_there : Contains tx one.first
    first_there = subst (λ g. Contains g one.first) (sym one.split) (in_head one.first one.more)

    -- any two changes of the transaction agree
    agree : (a b : Captured) → Contains tx a → Contains tx b → Agree a b
    agree a b i j = C.agree a b (in_items a i) (in_items b j) (sym (one.same a i) ∙ one.same b j)

    abbrev at_stamp : Captured → Bool
    at_stamp c = c.change.stamp == one.first.change.stamp

    -- it has at most 1,024
    few_changes : length tx ≤ 1024
    few_changes =
        let all : filter at_stamp tx ≡ tx = all_pass at_stamp tx (λ c i. same_eq c.change.stamp one.first.change.stamp (agree c one.first i first_there).stamp) in
        let less : length (filter at_stamp tx) ≤ length (filter at_stamp items) = subst (λ l. length (filter at_stamp tx) ≤ length (filter at_stamp l)) (whole goes_on items) (fewer_pass at_stamp tx (transactions items) there) in
        let size : length (filter at_stamp tx) ≡ length tx = ap length all in
        omega (arith, size, less, C.few one.first.change.stamp)

    few_records : (q : Part) → records_of tx q ≤ 1024
    few_records q =
        let some : length (groups (held q tx)) ≤ length (held q tx) = fewer joins (held q tx) in
        let less : length (held q tx) ≤ length tx = filter_shorter (λ c. is_held q (place_of c.change.row) c.change.stamp) tx in
        omega (arith, some, less, few_changes)

    few_in : (qs : List Part) → sum_by (records_of tx) qs ≤ length qs * 1024
    few_in qs = sum_by-le (records_of tx) 1024 qs (all_in (λ q. records_of tx q ≤ 1024) qs (λ q i. few_records q))

    -- a group of a part
    tells : (part : Part) (g : List Captured) → Contains (groups (held part tx)) g → CanTell g
    tells part g i count n last records least small =
        subst (λ l. All CanStandFor (told_as count n last l)) (sym run.split)
        (All-cons CanStandFor _ [] (stands count n last run.first run.more records least small run.alike (λ c j. good c (in_items c (in_tx c j))) (λ c j. agree run.first c (in_tx run.first (in_head run.first run.more)) (in_tx c j))) (All-nil CanStandFor))
      where
        run : IsRun g
        run = each joins IsRun run_one run_more (held part tx) g i

        in_tx : (c : Captured) → Contains (run.first ∷ run.more) c → Contains tx c
        in_tx c j = (from_filter (λ c. is_held part (place_of c.change.row) c.change.stamp) c tx (in_whole joins (held part tx) g c i (subst (λ l. Contains l c) (sym run.split) j))).0

    pub records_stand : (part : Part) → All CanStandFor (records_in parts part tx)
    records_stand part =
        let all : sum_by (records_of tx) parts ≤ length parts * 1024 = few_in parts in
        let lower : length (filter (λ q. is_below q.range.low part.range.low) parts) ≤ length parts = filter_shorter (λ q. is_below q.range.low part.range.low) parts in
        let before : first_sequence parts tx part ≤ length (filter (λ q. is_below q.range.low part.range.low) parts) * 1024 = few_in (filter (λ q. is_below q.range.low part.range.low) parts) in
        let own : records_of tx part ≤ 1024 = few_records part in
        let some : length (filter (λ q. nat_lt 0 (records_of tx q)) parts) ≤ length parts = filter_shorter (λ q. nat_lt 0 (records_of tx q)) parts in
        numbered_stand (count_of parts tx) (first_sequence parts tx part) (groups (held part tx)) (omega (arith, all, few)) (omega (arith, some, few)) (omega (arith, lower, before, own, few)) (tells part)

  pub data_stand : (part : Part) → All CanStandFor (data_records parts part items)
  data_stand part = all_flat CanStandFor (records_in parts part) (transactions items) (λ tx i. records_stand tx i part)
