-- The whole answer of a READ of a part is honest.
use Rattle.std.proofs.Common.{◌≡◌, ◌≢◌, ◌⊎◌, ℕ, suc, ◌+◌, ◌-◌, ◌<◌, ◌≤◌, Bool, true, false, ◌&&◌, cond, nat_le, nat_lt, List, [], ◌∷◌, ◌++◌, length, map, filter, take, drop, Option, Some, None, ⊎_elim, inl, inr, refl, sym, ap, ◌∙◌, subst, arith, Contains, flat_map, append-nil}
use Rattle.std.specs.Int.{is_in_range}
use Rattle.std.proofs.lemmas.Bool.{and_parts, and_cases, leb-true, leb-false, ltb-true}
use Rattle.std.proofs.lemmas.List.{take-append-drop, length-take-le, length-map}
use Rattle.std.proofs.lemmas.List.Elements.{filter-append, Contains-append_left, Contains-append_cases}
use Rattle.cs_types.specs.declared.change.Change.{Change}
use Rattle.cs_place.specs.declared.part.Part.{Part}
use Rattle.cs_place.specs.Part.{IsBefore}
use Rattle.cs_place.specs.Layout.{IsSoundLayout}
use Rattle.cs_types.specs.Names.{is_among}
use Rattle.cs_types.specs.Members.{Pairwise, in_nil, in_cons, in_filter, from_filter, filter_shorter, snoc_append, pairs_to, pairs_from, pairs_filter, pairs_weaker, in_map, from_map}
use Rattle.cs_partitions.specs.Views.{children_of as parts_after}
use Rattle.cs_records.specs.declared.captured.Captured.{Captured}
use Rattle.cs_records.specs.declared.records.Child.{Child}
use Rattle.cs_records.specs.declared.records.DataRecord.{DataRecord}
use Rattle.cs_records.specs.declared.records.Record.TheVariants.{Change as Data, Heartbeat}
use Rattle.cs_records.specs.declared.records.Mod.{Mod}
use Rattle.cs_records.specs.Told.{changes_told, change_of as record_change}
use Rattle.cs_link.specs.declared.feed.Feed.{Feed}
use Rattle.cs_link.specs.declared.reading.Closing.TheVariants.{Finished, CaughtUp, Cut}
use Rattle.cs_link.specs.declared.reading.Step.{Step}
use Rattle.cs_link.specs.declared.reading.Step.TheVariants.{Record as Given, Closing as Closed}
use Rattle.cs_link.specs.Reading.{new_child, is_children, is_closing, changes}
use Rattle.cs_link.specs.Honest.{HaveNo, Follows, HasAllBelow, IsChildOf, MayFollow}
use Rattle.cs_steps.specs.Feed.{feed_of, AreCommitted}
use Rattle.cs_steps.specs.Honest.{IsAccepted}
use Rattle.cs_steps.specs.Records.{held, data_records}
use Rattle.cs_steps.specs.Steps.{Asked, between, top_of, paced, child_of, by_low, children_of, child_steps, closing, ending, cut_off, records_for, steps_of_part}
use Rattle.cs_steps.proofs.Alike.{IsSound}
use Rattle.cs_steps.proofs.Held.{told_items, is_wanted, top_covers}
use Rattle.cs_steps.proofs.Listed.{children_follow, apart_in, new_in, there}
use Rattle.cs_steps.proofs.Low.{from_low, into_low, pairs_low, length_low}
use Rattle.cs_steps.proofs.Paced.{IsWanted, paced_follows}
use Rattle.cs_steps.proofs.Premises.{RunsTell}
use Rattle.cs_steps.proofs.Records.{change_of, records_told, records_sound}
use Rattle.cs_steps.proofs.Tools.{pairs_map, in_among, from_among}

-- ---- lists that follow

module _ {A : Type 0} (M : List A → A → Type 0) where
  -- a beginning of a list that follows does too
  pub begins : (done xs ys : List A) → Follows M done (xs ++ ys) → Follows M done xs
  begins done [] ys h = tt
  begins done (x ∷ xs) ys h = (h.0, begins (done ++ x ∷ []) xs ys h.1)

  pub follow_on : (done xs ys : List A) → Follows M done xs → Follows M (done ++ xs) ys → Follows M done (xs ++ ys)
  follow_on done [] ys h k = subst (λ l. Follows M l ys) (append-nil done) k
  follow_on done (x ∷ xs) ys h k = (h.0, follow_on (done ++ x ∷ []) xs ys h.1 (subst (λ l. Follows M l ys) (sym (snoc_append done xs x)) k))

-- ---- records and heartbeats

beat_plain : (b : Bool) (at : ℕ) (x : Step) → Contains (cond b (Given (Heartbeat at) ∷ []) []) x → (is_children x ≡ false) × (is_closing x ≡ false)
beat_plain false at x i = absurd (in_nil x i)
beat_plain true at x i = ⊎_elim (λ (s : x ≡ Given (Heartbeat at)). (ap is_children s, ap is_closing s)) (λ (n : Contains [] x). absurd (in_nil x n)) (in_cons (Given (Heartbeat at)) x [] i)

beat_silent : (b : Bool) (at : ℕ) (xs : List Step) → changes (cond b (Given (Heartbeat at) ∷ []) [] ++ xs) ≡ changes xs
beat_silent false at xs = refl
beat_silent true at xs = refl

paced_plain : (gap top last : ℕ) (ds : List DataRecord) (x : Step) → Contains (paced gap top last ds) x → (is_children x ≡ false) × (is_closing x ≡ false)
paced_plain gap top last [] x i = beat_plain (nat_le (last + gap) top) top x i
paced_plain gap top last (d ∷ ds) x i = ⊎_elim
    (beat_plain (nat_le (last + gap) d.stamp) (d.stamp - 1) x)
    (λ (j : Contains (Given (Data d) ∷ paced gap top d.stamp ds) x). ⊎_elim (λ (s : x ≡ Given (Data d)). (ap is_children s, ap is_closing s)) (paced_plain gap top d.stamp ds x) (in_cons (Given (Data d)) x (paced gap top d.stamp ds) j))
    (Contains-append_cases _ (Given (Data d) ∷ paced gap top d.stamp ds) x i)

paced_tell : (gap top last : ℕ) (ds : List DataRecord) → changes (paced gap top last ds) ≡ flat_map changes_told ds
paced_tell gap top last [] = by (nat_le (last + gap) top)
  where
    by : (b : Bool) → changes (cond b (Given (Heartbeat top) ∷ []) []) ≡ []
    by true = refl
    by false = refl
paced_tell gap top last (d ∷ ds) = beat_silent (nat_le (last + gap) d.stamp) (d.stamp - 1) (Given (Data d) ∷ paced gap top d.stamp ds) ∙ ap (λ l. changes_told d ++ l) (paced_tell gap top d.stamp ds)

-- ---- records between two moments

filter_mapped : (p : Change → Bool) (items : List Captured) → filter p (map change_of items) ≡ map change_of (filter (λ c. p c.change) items)
filter_mapped p [] = refl
filter_mapped p (c ∷ items) = by (p c.change) (filter_mapped p items)
  where
    by : (b : Bool) → filter p (map change_of items) ≡ map change_of (filter (λ x. p x.change) items) → cond b (c.change ∷ filter p (map change_of items)) (filter p (map change_of items)) ≡ map change_of (cond b (c ∷ filter (λ x. p x.change) items) (filter (λ x. p x.change) items))
    by true h = ap (λ l. c.change ∷ l) h
    by false h = h

-- the changes of a record pass a test of stamps as the record does
all_or_none : (p : ℕ → Bool) (d : DataRecord) (ms : List Mod) → filter (λ c. p c.stamp) (map (record_change d) ms) ≡ cond (p d.stamp) (map (record_change d) ms) []
all_or_none p d [] = by (p d.stamp)
  where
    by : (b : Bool) → [] ≡ cond b (map (record_change d) []) []
    by true = refl
    by false = refl
all_or_none p d (m ∷ ms) = by (p d.stamp) (all_or_none p d ms)
  where
    by : (b : Bool) → filter (λ c. p c.stamp) (map (record_change d) ms) ≡ cond b (map (record_change d) ms) [] → cond b (record_change d m ∷ filter (λ c. p c.stamp) (map (record_change d) ms)) (filter (λ c. p c.stamp) (map (record_change d) ms)) ≡ cond b (map (record_change d) (m ∷ ms)) []
    by true h = ap (λ l. record_change d m ∷ l) h
    by false h = h

told_between : (r top : ℕ) (ds : List DataRecord) → flat_map changes_told (between r top ds) ≡ filter (λ c. is_in_range r top c.stamp) (flat_map changes_told ds)
told_between r top [] = refl
told_between r top (d ∷ ds) = by (is_in_range r top d.stamp) (told_between r top ds) (all_or_none (is_in_range r top) d d.mods) ∙ sym (filter-append (λ c. is_in_range r top c.stamp) (changes_told d) (flat_map changes_told ds))
  where
    by : (b : Bool) → flat_map changes_told (between r top ds) ≡ filter (λ c. is_in_range r top c.stamp) (flat_map changes_told ds) → filter (λ c. is_in_range r top c.stamp) (changes_told d) ≡ cond b (changes_told d) []
        → flat_map changes_told (cond b (d ∷ between r top ds) (between r top ds)) ≡ filter (λ c. is_in_range r top c.stamp) (changes_told d) ++ filter (λ c. is_in_range r top c.stamp) (flat_map changes_told ds)
    by true h k = λ i. sym k i ++ h i
    by false h k = h ∙ ap (λ l. l ++ filter (λ c. is_in_range r top c.stamp) (flat_map changes_told ds)) (sym k)

-- ---- a READ of a part

abbrev names : List ℕ → Part → Bool
names token part = is_among token part.parents

module _ (L : RunsTell) (parts : List Part) (items : List Captured) (created retention : ℕ) (S : IsSoundLayout created parts) (few : length parts ≤ 65536) (C : AreCommitted created items) (a : Asked) (A : IsAccepted parts a) where
  abbrev feed : Feed
  feed = feed_of parts items created retention

  abbrev M : List Step → Step → Type 0
  M = MayFollow feed a.part a.start a.end a.moment

  abbrev ws : List Change
  ws = map change_of (told_items parts items created retention C a A)

  abbrev records : List Step
  records = paced a.gap (top_of a) a.start (records_for parts items a)

  order : Pairwise (λ (c d : Captured). c.change.stamp ≡ d.change.stamp → c.change.row ≢ d.change.row) items
  order = pairs_weaker (λ (c d : Captured). (c.change.stamp ≤ d.change.stamp) × (c.change.stamp ≡ d.change.stamp → c.change.row ≢ d.change.row)) (λ (c d : Captured). c.change.stamp ≡ d.change.stamp → c.change.row ≢ d.change.row) items (λ c d i j h. h.1)
      (pairs_from (λ (c d : Captured). (c.change.stamp ≤ d.change.stamp) × (c.change.stamp ≡ d.change.stamp → c.change.row ≢ d.change.row)) items C.order)

  told : flat_map changes_told (records_for parts items a) ≡ ws
  told =
      told_between a.start (top_of a) (data_records parts a.part items)
      ∙ ap (filter (λ c. is_in_range a.start (top_of a) c.stamp)) (records_told L parts a.part items order C.agree C.columns)
      ∙ filter_mapped (λ c. is_in_range a.start (top_of a) c.stamp) (held a.part items)

  sound : (d : DataRecord) → Contains (records_for parts items a) d → IsSound d
  sound d i = records_sound L parts a.part items order C.agree C.columns d (from_filter (λ x. is_in_range a.start (top_of a) x.stamp) d (data_records parts a.part items) i).0

  records_follow : Follows M [] records
  records_follow = paced_follows feed a.part a.start a.end a.moment (top_of a) ws W a.gap A.gap [] a.start (records_for parts items a) sound (omega arith)
      (record {
        childless = λ x i. absurd (in_nil x i);
        unclosed = λ x i. absurd (in_nil x i);
        told = told;
        low = λ c i. absurd (in_nil c i);
        high = λ c i. (W.wanted c (subst (λ l. Contains l c) told i)).1;
        beats = λ h i. absurd (in_nil _ i);
      })
    where
      W : IsWanted (feed_of parts items created retention) a.part a.start a.end a.moment (top_of a) ws
      W = is_wanted parts items created retention C a A

  childless : HaveNo is_children records
  childless x i = (paced_plain a.gap (top_of a) a.start (records_for parts items a) x i).0

  unclosed : HaveNo is_closing records
  unclosed x i = (paced_plain a.gap (top_of a) a.start (records_for parts items a) x i).1

  all_told : changes records ≡ ws
  all_told = paced_tell a.gap (top_of a) a.start (records_for parts items a) ∙ told

  -- what stands behind all of its records
  covered : (done : List Step) → changes done ≡ changes records → (t : ℕ) → ((s : ℕ) → IsBefore s a.part.until → s < t → (s ≤ a.end) × (s ≤ a.moment)) → HasAllBelow feed a.part a.start a.end a.moment done t
  covered done same t within c o low below =
      let w = within c.stamp o.held.live.lives below in
      subst (λ l. Contains l c) (sym (same ∙ all_told)) ((is_wanted parts items created retention C a A).all c o low (top_covers c.stamp a.end a.moment a.part.until o.held.live.lives w.0 w.1))

  closing_follows : ((e : a.end ≤ a.moment) → IsBefore a.end a.part.until) → (a.moment < a.end → IsBefore a.moment a.part.until) → Follows M records (closing a.end a.moment)
  closing_follows past short = by (nat_le a.end a.moment) refl
    where
      by : (b : Bool) → nat_le a.end a.moment ≡ b → Follows M records (cond b (Closed Finished ∷ []) (Closed (CaughtUp a.moment) ∷ []))
      by true e =
          let h : a.end ≤ a.moment = leb-true a.end a.moment e in
          ((unclosed, record { whole = covered records refl (suc a.end) (λ s l b. (omega arith, omega arith)); reached = inr (past h, h) }), tt)
      by false e =
          let h : a.moment < a.end = leb-false a.end a.moment e in
          ((unclosed, record { moment = (refl, h, short h); childless = childless; whole = covered records refl (suc a.moment) (λ s l b. (omega arith, omega arith)) }), tt)

  -- ---- its children
  module _ (u : ℕ) (ends : a.part.until ≡ Some u) (in_end : u ≤ a.end) (in_moment : u ≤ a.moment) where
    kids : List Child
    kids = children_of parts a.part

    below_end : (t : ℕ) → (s : ℕ) → IsBefore s a.part.until → s < t → (s ≤ a.end) × (s ≤ a.moment)
    below_end t s l b = let k : s < u = subst (λ o. IsBefore s o) ends l in (omega arith, omega arith)

    from_kids : (x : Child) → Contains (children_of parts a.part) x → IsChildOf feed a.part a.start a.end a.moment x
    from_kids x i =
        let v = from_map child_of x (by_low (parts_after a.part.token parts)) i in
        let w = from_filter (names a.part.token) v.0 parts (from_low (parts_after a.part.token parts) v.0 v.1) in
        subst (IsChildOf feed a.part a.start a.end a.moment) (sym v.2)
        (record { parent = from_among a.part.token v.0.parents w.1; part = (v.0, w.0, refl, refl) })

    into_kids : (c : Part) → Contains parts c → Contains c.parents a.part.token → Contains (children_of parts a.part) (child_of c)
    into_kids c i j = in_map child_of c (by_low (parts_after a.part.token parts))
        (into_low (parts_after a.part.token parts) c (in_filter (names a.part.token) c parts i (in_among a.part.token c.parents j)))

    apart : Pairwise (λ (x y : Child). x.token ≢ y.token) (children_of parts a.part)
    apart = pairs_map (λ (x y : Child). x.token ≢ y.token) child_of (by_low (parts_after a.part.token parts))
        (pairs_low (λ (x y : Part). x.token ≢ y.token) (λ x y h e. h (sym e)) (parts_after a.part.token parts)
        (pairs_filter (λ (x y : Part). x.token ≢ y.token) (names a.part.token) parts (pairs_from (λ (x y : Part). x.token ≢ y.token) parts S.tokens)))

    few_kids : length (children_of parts a.part) ≤ 65536
    few_kids = omega (arith, few, length-map (by_low (parts_after a.part.token parts)) child_of, length_low (parts_after a.part.token parts), filter_shorter (names a.part.token) parts)

    pub kids_follow : Follows M records (child_steps u (children_of parts a.part) ++ Closed Finished ∷ [])
    kids_follow = children_follow u records (children_of parts a.part) M
        (λ done n earlier k later B some lt. (
          B.unclosed,
          record {
            ends = (ends, in_end, in_moment);
            some = some;
            child = λ x i. from_kids x (there u records (children_of parts a.part) apart done n earlier k later B x i);
            once = pairs_to (λ (x y : Child). x.token ≢ y.token) k (apart_in u records (children_of parts a.part) apart done n earlier k later B);
            new = new_in u records (children_of parts a.part) apart done n earlier k later B;
            few = omega (arith, B.counted, lt);
            whole = covered done B.told u (below_end u);
          },
        ))
        (λ done n B. (
          B.unclosed,
          record {
            whole = covered done B.told (suc a.end) (below_end (suc a.end));
            reached = inl (
              record { until = u; ends = ends; within = (in_end, in_moment) },
              λ c i j. (new_child u (child_of c), subst (λ l. Contains l (new_child u (child_of c))) (sym B.named) (in_map (new_child u) (child_of c) (children_of parts a.part) (into_kids c i j)), refl),
            );
          },
        ))
        unclosed childless few_kids

  ending_follows : (o : Option ℕ) → a.part.until ≡ o → Follows M records (ending (children_of parts a.part) a.end a.moment o)
  ending_follows None e = closing_follows (λ h. subst (IsBefore a.end) (sym e) tt) (λ h. subst (IsBefore a.moment) (sym e) tt)
  ending_follows (Some u) e = by (nat_le u a.end && nat_le u a.moment) refl
    where
      late : (nat_le u a.end && nat_le u a.moment) ≡ false → (a.end < u) ⊎ (a.moment < u)
      late t = ⊎_elim (λ x. inl (leb-false u a.end x)) (λ x. inr (leb-false u a.moment x)) (and_cases (nat_le u a.end) (nat_le u a.moment) t)

      by : (b : Bool) → (nat_le u a.end && nat_le u a.moment) ≡ b → Follows M records (cond b (child_steps u (children_of parts a.part) ++ Closed Finished ∷ []) (closing a.end a.moment))
      by true t = let w = and_parts (nat_le u a.end) (nat_le u a.moment) t in kids_follow u e (leb-true u a.end w.0) (leb-true u a.moment w.1)
      by false t = closing_follows
          (λ h. subst (IsBefore a.end) (sym e) (⊎_elim (λ (x : a.end < u). x) (λ (x : a.moment < u). omega arith) (late t)))
          (λ h. subst (IsBefore a.moment) (sym e) (⊎_elim (λ (x : a.end < u). omega arith) (λ (x : a.moment < u). x) (late t)))

  -- no more than a number of records, which is at least 8,192
  cut_follows : (most : ℕ) → 8192 ≤ most → (rest : List Step) → Follows M records rest → Follows M [] (cut_off most records rest)
  cut_follows most high rest h = by (nat_lt most (length records)) refl
    where
      by : (b : Bool) → nat_lt most (length records) ≡ b → Follows M [] (cond b (take most records ++ Closed Cut ∷ []) (records ++ rest))
      by false t = follow_on M [] records rest records_follow h
      by true t =
          let split : take most records ++ drop most records ≡ records = take-append-drop most records in
          let inside : (x : Step) → Contains (take most records) x → Contains records x = λ x i. subst (λ l. Contains l x) split (Contains-append_left (take most records) (drop most records) x i) in
          let l : most < length records = ltb-true most (length records) t in
          let size : length (take most records) ≡ most = length-take-le most records (omega arith) in
          follow_on M [] (take most records) (Closed Cut ∷ []) (begins M [] (take most records) (drop most records) (subst (Follows M []) (sym split) records_follow))
          ((λ x i. unclosed x (inside x i), record { long = omega (arith, size); childless = λ x i. childless x (inside x i) }), tt)

  pub part_follows : Follows M [] (steps_of_part parts items a)
  part_follows = cut_follows 8192 (omega arith) (ending (children_of parts a.part) a.end a.moment a.part.until) (ending_follows a.part.until refl)
