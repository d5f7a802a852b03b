-- The records at the places that an index has are the data records.
use Rattle.std.proofs.Common.{◌≡◌, ℕ, suc, ◌+◌, ◌<◌, ◌≤◌, Bool, true, false, cond, List, [], ◌∷◌, ◌++◌, length, take, drop, flat_map, get_or, refl, sym, ap, ◌∙◌, subst, arith, append-nil, append_assoc, length-append, All}
use Rattle.std.specs.Prelude.{⊤}
use Rattle.std.proofs.lemmas.Grind.{flat_map-append}
use Rattle.std.proofs.Math.Seq.{drop-cons}
use Rattle.std.proofs.lemmas.List.Elements.{filter-append, All-nil, All-cons, All-head, All-tail, All-append}
use Rattle.cs_place.specs.declared.part.Part.{Part}
use Rattle.cs_place.specs.Part.{is_held}
use Rattle.cs_records.specs.declared.captured.Captured.{Captured}
use Rattle.cs_records.specs.declared.records.DataRecord.{DataRecord}
use Rattle.cs_link.specs.Feed.{place_of}
use Rattle.cs_steps.specs.declared.places.RecordPlace.{RecordPlace}
use Rattle.cs_steps.specs.Index.{places_held, drafts, is_end, finished, tx_places, record_places}
use Rattle.cs_steps.specs.Lines.{IsWhole}
use Rattle.cs_steps.specs.Places.{taken_at, record_at}
use Rattle.cs_steps.specs.Records.{held, transactions, groups, Count, count_of, first_sequence, is_none, told_as, numbered, records_in}
use Rattle.cs_steps.specs.Cursor.{IsAt}
use Rattle.cs_steps.specs.Cutting.{joined, cut_behind, cut}
use Rattle.cs_steps.proofs.Cuts.{whole}
use Rattle.cs_steps.proofs.Records.{joins, of_one_id}

-- lists none of which is empty
abbrev pub Filled : List (List Captured) → Type 0
Filled [] = ⊤
Filled ([] ∷ gs) = ⊥
Filled ((c ∷ cs) ∷ gs) = Filled gs

-- ---- lists in three

take_front : {A : Type 0} (xs ys : List A) → take (length xs) (xs ++ ys) ≡ xs
take_front [] ys = refl
take_front (x ∷ xs) ys = ap (λ l. x ∷ l) (take_front xs ys)

drop_front : {A : Type 0} (xs ys : List A) → drop (length xs) (xs ++ ys) ≡ ys
drop_front [] ys = refl
drop_front (x ∷ xs) ys = drop_front xs ys

pub middle : {A : Type 0} (before ks after : List A) (first count : ℕ) → length before ≡ first → length ks ≡ count → take count (drop first (before ++ (ks ++ after))) ≡ ks
middle before ks after first count a b =
    ap (λ n. take count (drop n (before ++ (ks ++ after)))) (sym a)
    ∙ ap (take count) (drop_front before (ks ++ after))
    ∙ ap (λ n. take n (ks ++ after)) (sym b)
    ∙ take_front ks after

-- ---- places that give a list

-- each place gives the element of the list
abbrev pub Picks : List Captured → List ℕ → List Captured → Type 0
Picks items [] [] = ⊤
Picks items [] (x ∷ xs) = ⊥
Picks items (k ∷ ks) [] = ⊥
Picks items (k ∷ ks) (x ∷ xs) = IsAt items k x × Picks items ks xs

module _ (items : List Captured) where
  pub picks_taken : (ks : List ℕ) (xs : List Captured) → Picks items ks xs → taken_at items ks ≡ xs
  picks_taken [] [] h = refl
  picks_taken [] (x ∷ xs) h = absurd h
  picks_taken (k ∷ ks) [] h = absurd h
  picks_taken (k ∷ ks) (x ∷ xs) h =
      let rest = picks_taken ks xs h.1 in
      let here : take 1 (drop k items) ≡ x ∷ [] = ap (take 1) (drop-cons items k x h.0.0) ∙ ap (λ y. y ∷ []) h.0.1 in
      λ i. here i ++ rest i

  pub picks_count : (ks : List ℕ) (xs : List Captured) → Picks items ks xs → length ks ≡ length xs
  picks_count [] [] h = refl
  picks_count [] (x ∷ xs) h = absurd h
  picks_count (k ∷ ks) [] h = absurd h
  picks_count (k ∷ ks) (x ∷ xs) h = ap suc (picks_count ks xs h.1)

  pub record Split (ks : List ℕ) (xs ys : List Captured) : Type 0 where
    pub front : List ℕ
    pub rest : List ℕ
    pub is : ks ≡ front ++ rest
    pub first : Picks items front xs
    pub others : Picks items rest ys

  pub picks_split : (ks : List ℕ) (xs ys : List Captured) → Picks items ks (xs ++ ys) → Split ks xs ys
  picks_split ks [] ys h = record { front = []; rest = ks; is = refl; first = tt; others = h }
  picks_split [] (x ∷ xs) ys h = absurd h
  picks_split (k ∷ ks) (x ∷ xs) ys h =
      let r = picks_split ks xs ys h.1 in
      record { front = k ∷ r.front; rest = r.rest; is = ap (λ l. k ∷ l) r.is; first = (h.0, r.first); others = r.others }

  pub picks_all : (ks : List ℕ) (xs : List Captured) → Picks items ks xs → All (λ k. k < length items) ks
  picks_all [] xs h = All-nil (λ k. k < length items)
  picks_all (k ∷ ks) [] h = absurd h
  picks_all (k ∷ ks) (x ∷ xs) h = All-cons (λ j. j < length items) k ks h.0.0 (picks_all ks xs h.1)

-- the places that a part holds give what it holds
pub held_picks : (part : Part) (before cs : List Captured) (k : ℕ) → length before ≡ k → Picks (before ++ cs) (places_held part k cs) (held part cs)
held_picks part before [] k e = tt
held_picks part before (c ∷ cs) k e =
    let more : Picks ((before ++ c ∷ []) ++ cs) (places_held part (suc k) cs) (held part cs) = held_picks part (before ++ c ∷ []) cs (suc k) (omega (arith, e, length-append before (c ∷ []))) in
    by (is_held part (place_of c.change.row) c.change.stamp) (subst (λ l. Picks l (places_held part (suc k) cs) (held part cs)) (append_assoc before (c ∷ []) cs) more)
  where
    here : IsAt (before ++ c ∷ cs) k c
    here = (omega (arith, e, length-append before (c ∷ cs)), ap (λ n. get_or (before ++ c ∷ cs) n c) (sym e) ∙ at_front before)
      where
        at_front : (xs : List Captured) → get_or (xs ++ c ∷ cs) (length xs) c ≡ c
        at_front [] = refl
        at_front (x ∷ xs) = at_front xs

    by : (b : Bool) → Picks (before ++ c ∷ cs) (places_held part (suc k) cs) (held part cs) → Picks (before ++ c ∷ cs) (cond b (k ∷ places_held part (suc k) cs) (places_held part (suc k) cs)) (cond b (c ∷ held part cs) (held part cs))
    by true h = (here, h)
    by false h = h

-- ---- the records of a transaction

ends_alike : (n : ℕ) (gs : List (List Captured)) → Filled gs → is_end (drafts n gs) ≡ is_none gs
ends_alike n [] h = refl
ends_alike n ([] ∷ gs) h = absurd h
ends_alike n ((c ∷ cs) ∷ gs) h = refl

module _ (items : List Captured) (changes : List ℕ) (count : Count) where
  abbrev at : RecordPlace → List DataRecord
  at = record_at items changes

  -- a group at its places
  one_group : (before ks after : List ℕ) (n sequence : ℕ) (last : Bool) (c : Captured) (cs : List Captured) → changes ≡ before ++ (ks ++ after) → length before ≡ n → length ks ≡ length (c ∷ cs) → taken_at items ks ≡ c ∷ cs
      → at (record { stamp = c.change.stamp; first = n; count = length (c ∷ cs); sequence = sequence; is_last = last; records_in_tx = count.records; parts_in_tx = count.parts }) ≡ told_as count sequence last (c ∷ cs)
  one_group before ks after n sequence last c cs split a b t =
      let m : take (length (c ∷ cs)) (drop n changes) ≡ ks = ap (λ l. take (length (c ∷ cs)) (drop n l)) split ∙ middle before ks after n (length (c ∷ cs)) a b in
      ap (λ l. told_as (record { records = count.records; parts = count.parts }) sequence last (taken_at items l)) m ∙ ap (told_as count sequence last) t

  pub numbered_at : (gs : List (List Captured)) → Filled gs → (before ks after : List ℕ) (n sequence : ℕ) → changes ≡ before ++ (ks ++ after) → length before ≡ n → Picks items ks (joined gs) → flat_map at (finished count sequence (drafts n gs)) ≡ numbered count sequence gs
  numbered_at [] h before ks after n sequence split a s = refl
  numbered_at ([] ∷ gs) h before ks after n sequence split a s = absurd h
  numbered_at ((c ∷ cs) ∷ gs) h before ks after n sequence split a p =
      let s = picks_split items ks (c ∷ cs) (joined gs) p in
      let one : changes ≡ before ++ (s.front ++ (s.rest ++ after)) = split ∙ ap (λ l. before ++ (l ++ after)) s.is ∙ ap (λ l. before ++ l) (append_assoc s.front s.rest after) in
      let more : changes ≡ (before ++ s.front) ++ (s.rest ++ after) = one ∙ sym (append_assoc before s.front (s.rest ++ after)) in
      let long : length s.front ≡ length (c ∷ cs) = picks_count items s.front (c ∷ cs) s.first in
      let size : length (before ++ s.front) ≡ n + length (c ∷ cs) = length-append before s.front ∙ omega (arith, a, long) in
      let first = one_group before s.front (s.rest ++ after) n sequence (is_end (drafts (n + length (c ∷ cs)) gs)) c cs one a long (picks_taken items s.front (c ∷ cs) s.first) in
      let others = numbered_at gs h (before ++ s.front) s.rest after (n + length (c ∷ cs)) (suc sequence) more size s.others in
      (λ i. first i ++ others i) ∙ ap (λ b. told_as count sequence b (c ∷ cs) ++ numbered count (suc sequence) gs) (ends_alike (n + length (c ∷ cs)) gs h)

-- ---- the records of transactions

module _ (parts : List Part) (part : Part) (items : List Captured) (changes : List ℕ) where
  pub records_at : (txs : List (List Captured)) → ((tx : List Captured) → Filled (groups (held part tx))) → (before ks after : List ℕ) (n : ℕ) → changes ≡ before ++ (ks ++ after) → length before ≡ n → Picks items ks (held part (joined txs))
      → flat_map (record_at items changes) (record_places parts part n txs) ≡ flat_map (records_in parts part) txs
  records_at [] filled before ks after n split a p = refl
  records_at (tx ∷ txs) filled before ks after n split a p =
      let s = picks_split items ks (held part tx) (held part (joined txs)) (subst (Picks items ks) (filter-append (λ c. is_held part (place_of c.change.row) c.change.stamp) tx (joined txs)) p) in
      let one : changes ≡ before ++ (s.front ++ (s.rest ++ after)) = split ∙ ap (λ l. before ++ (l ++ after)) s.is ∙ ap (λ l. before ++ l) (append_assoc s.front s.rest after) in
      let more : changes ≡ (before ++ s.front) ++ (s.rest ++ after) = one ∙ sym (append_assoc before s.front (s.rest ++ after)) in
      let long = picks_count items s.front (held part tx) s.first in
      let size : length (before ++ s.front) ≡ n + length (held part tx) = length-append before s.front ∙ omega (arith, a, long) in
      let first = numbered_at items changes (count_of parts tx) (groups (held part tx)) (filled tx) before s.front (s.rest ++ after) n (first_sequence parts tx part) one a (subst (Picks items s.front) (sym (whole joins (held part tx))) s.first) in
      let others = records_at txs filled (before ++ s.front) s.rest after (n + length (held part tx)) more size s.others in
      flat_map-append (record_at items changes) (tx_places parts part n tx) (record_places parts part (n + length (held part tx)) txs) ∙ (λ i. first i ++ others i)

-- ---- no group is empty

filled_behind : (takes : List Captured → Captured → Bool) (c : Captured) (group xs : List Captured) → Filled (cut_behind takes (c ∷ group) xs)
filled_behind takes c group [] = tt
filled_behind takes c group (x ∷ xs) = by (takes (c ∷ group) x) (filled_behind takes c (group ++ x ∷ []) xs) (filled_behind takes x [] xs)
  where
    by : (b : Bool) → Filled (cut_behind takes ((c ∷ group) ++ x ∷ []) xs) → Filled (cut_behind takes (x ∷ []) xs) → Filled (cond b (cut_behind takes ((c ∷ group) ++ x ∷ []) xs) ((c ∷ group) ∷ cut_behind takes (x ∷ []) xs))
    by true h k = h
    by false h k = k

pub filled_cut : (takes : List Captured → Captured → Bool) (xs : List Captured) → Filled (cut takes xs)
filled_cut takes [] = tt
filled_cut takes (x ∷ xs) = filled_behind takes x [] xs

-- ---- counts and places of records

pub some_draft : (n : ℕ) (gs : List (List Captured)) → All (λ (p : RecordPlace). 0 < p.count) (drafts n gs)
some_draft n [] = All-nil (λ (p : RecordPlace). 0 < p.count)
some_draft n ([] ∷ gs) = some_draft (n + 0) gs
some_draft n ((c ∷ cs) ∷ gs) = All-cons (λ (p : RecordPlace). 0 < p.count) _ (drafts (n + length (c ∷ cs)) gs) (omega arith) (some_draft (n + length (c ∷ cs)) gs)

pub within_draft : (n : ℕ) (gs : List (List Captured)) → All (λ (p : RecordPlace). p.first + p.count ≤ n + length (joined gs)) (drafts n gs)
within_draft n [] = All-nil (λ (p : RecordPlace). p.first + p.count ≤ n + 0)
within_draft n ([] ∷ gs) = subst (λ m. All (λ (p : RecordPlace). p.first + p.count ≤ m + length (joined gs)) (drafts (n + 0) gs)) (omega arith) (within_draft (n + 0) gs)
within_draft n ((c ∷ cs) ∷ gs) =
    let size : (n + length (c ∷ cs)) + length (joined gs) ≡ n + length (joined ((c ∷ cs) ∷ gs)) = omega (arith, length-append (c ∷ cs) (joined gs)) in
    All-cons (λ (p : RecordPlace). p.first + p.count ≤ n + length (joined ((c ∷ cs) ∷ gs))) _ (drafts (n + length (c ∷ cs)) gs) (omega (arith, size))
    (subst (λ m. All (λ (p : RecordPlace). p.first + p.count ≤ m) (drafts (n + length (c ∷ cs)) gs)) size (within_draft (n + length (c ∷ cs)) gs))

-- ---- a whole line is an index

finished_all : (Q : ℕ → ℕ → Type 0) (count : Count) (sequence : ℕ) (rs : List RecordPlace) → All (λ r. Q r.first r.count) rs → All (λ r. Q r.first r.count) (finished count sequence rs)
finished_all Q count sequence [] h = All-nil (λ (r : RecordPlace). Q r.first r.count)
finished_all Q count sequence (r ∷ rs) h = All-cons (λ (x : RecordPlace). Q x.first x.count) _ (finished count (suc sequence) rs) (All-head (λ (x : RecordPlace). Q x.first x.count) r rs h) (finished_all Q count (suc sequence) rs (All-tail (λ (x : RecordPlace). Q x.first x.count) r rs h))

some_places : (parts : List Part) (part : Part) (n : ℕ) (txs : List (List Captured)) → All (λ (p : RecordPlace). 0 < p.count) (record_places parts part n txs)
some_places parts part n [] = All-nil (λ (p : RecordPlace). 0 < p.count)
some_places parts part n (tx ∷ txs) = All-append (λ (p : RecordPlace). 0 < p.count) (tx_places parts part n tx) (record_places parts part (n + length (held part tx)) txs)
    (finished_all (λ f c. 0 < c) (count_of parts tx) (first_sequence parts tx part) (drafts n (groups (held part tx))) (some_draft n (groups (held part tx)))) (some_places parts part (n + length (held part tx)) txs)

up_to : (m n : ℕ) (rs : List RecordPlace) → m ≤ n → All (λ (p : RecordPlace). p.first + p.count ≤ m) rs → All (λ (p : RecordPlace). p.first + p.count ≤ n) rs
up_to m n [] l h = All-nil (λ (p : RecordPlace). p.first + p.count ≤ n)
up_to m n (r ∷ rs) l h = All-cons (λ (p : RecordPlace). p.first + p.count ≤ n) r rs (let a = All-head (λ (p : RecordPlace). p.first + p.count ≤ m) r rs h in omega (arith, a, l)) (up_to m n rs l (All-tail (λ (p : RecordPlace). p.first + p.count ≤ m) r rs h))

within_places : (parts : List Part) (part : Part) (n : ℕ) (txs : List (List Captured)) → All (λ (p : RecordPlace). p.first + p.count ≤ n + length (held part (joined txs))) (record_places parts part n txs)
within_places parts part n [] = All-nil (λ (p : RecordPlace). p.first + p.count ≤ n + 0)
within_places parts part n (tx ∷ txs) =
    let parted : length (held part (joined (tx ∷ txs))) ≡ length (held part tx) + length (held part (joined txs)) =
    ap length (filter-append (λ c. is_held part (place_of c.change.row) c.change.stamp) tx (joined txs)) ∙ length-append (held part tx) (held part (joined txs)) in
    let all : length (joined (groups (held part tx))) ≡ length (held part tx) = ap length (whole joins (held part tx)) in
    let rest = within_places parts part (n + length (held part tx)) txs in
    All-append (λ (p : RecordPlace). p.first + p.count ≤ n + length (held part (joined (tx ∷ txs)))) (tx_places parts part n tx) (record_places parts part (n + length (held part tx)) txs)
    (up_to (n + length (joined (groups (held part tx)))) (n + length (held part (joined (tx ∷ txs)))) (tx_places parts part n tx) (omega (arith, parted, all))
    (finished_all (λ f c. f + c ≤ n + length (joined (groups (held part tx)))) (count_of parts tx) (first_sequence parts tx part) (drafts n (groups (held part tx))) (within_draft n (groups (held part tx)))))
    (up_to ((n + length (held part tx)) + length (held part (joined txs))) (n + length (held part (joined (tx ∷ txs)))) (record_places parts part (n + length (held part tx)) txs) (omega (arith, parted)) rest)

pub is_whole : IsWhole
is_whole parts part items line L =
    let P : Picks items line.changes (held part items) = subst (λ l. Picks items l (held part items)) (sym L.changes) (held_picks part [] items 0 refl) in
    let all : joined (transactions items) ≡ items = whole of_one_id items in
    let size : length line.changes ≡ 0 + length (held part (joined (transactions items))) = picks_count items line.changes (held part items) P ∙ ap (λ l. length (held part l)) (sym all) ∙ omega arith in
    record {
      records = ap (flat_map (record_at items line.changes)) L.records
          ∙ records_at parts part items line.changes (transactions items) (λ tx. filled_cut joins (held part tx)) [] line.changes [] 0 (sym (append-nil line.changes)) refl (subst (λ l. Picks items line.changes (held part l)) (sym all) P);
      some = subst (All (λ (p : RecordPlace). 0 < p.count)) (sym L.records) (some_places parts part 0 (transactions items));
      within = subst (All (λ (p : RecordPlace). p.first + p.count ≤ length line.changes)) (sym L.records) (subst (λ m. All (λ (p : RecordPlace). p.first + p.count ≤ m) (record_places parts part 0 (transactions items))) (sym size) (within_places parts part 0 (transactions items)));
      there = picks_all items line.changes (held part items) P;
    }
