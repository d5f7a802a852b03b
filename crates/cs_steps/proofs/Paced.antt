-- Records with heartbeats between them are honest.
use Rattle.std.proofs.Common.{◌≡◌, ◌≢◌, ℕ, suc, ◌+◌, ◌-◌, ◌<◌, ◌≤◌, Bool, true, false, cond, nat_le, List, [], ◌∷◌, ◌++◌, map, Option, Some, None, ⊎_elim, refl, sym, ap, ◌∙◌, subst, arith, Contains, flat_map, append-nil, append_assoc}
use Rattle.std.proofs.lemmas.Grind.{flat_map-append}
use Rattle.std.proofs.lemmas.Bool.{leb-true}
use Rattle.std.proofs.lemmas.List.Elements.{Contains-append_left, Contains-append_right, Contains-append_cases}
use Rattle.cs_types.specs.declared.change.Change.{Change}
use Rattle.cs_types.specs.Members.{Pairwise, in_nil, in_head, in_tail, in_cons, pairs_to, pairs_right, pairs_left, pairs_across, pairs_weaker}
use Rattle.cs_place.specs.declared.part.Part.{Part}
use Rattle.cs_place.specs.Part.{IsBefore}
use Rattle.cs_records.specs.declared.records.DataRecord.{DataRecord}
use Rattle.cs_records.specs.declared.records.Mod.{Mod}
use Rattle.cs_records.specs.declared.records.Record.TheVariants.{Change as Data, Heartbeat}
use Rattle.cs_records.specs.Told.{change_of, changes_told}
use Rattle.cs_link.specs.declared.feed.Feed.{Feed}
use Rattle.cs_link.specs.declared.reading.Step.{Step}
use Rattle.cs_link.specs.declared.reading.Step.TheVariants.{Record as Given}
use Rattle.cs_link.specs.Feed.{IsOf}
use Rattle.cs_link.specs.Reading.{changes_in, is_children, is_closing, changes}
use Rattle.cs_link.specs.Honest.{HaveNo, Follows, HasAllBelow, MayFollow}
use Rattle.cs_steps.specs.Steps.{paced}
use Rattle.cs_steps.proofs.Alike.{IsSound}

-- a change that a record tells has its stamp
pub of_stamp : (d : DataRecord) (c : Change) → Contains (changes_told d) c → c.stamp ≡ d.stamp
of_stamp d c i = by d.mods i
  where
    by : (ms : List Mod) → Contains (map (change_of d) ms) c → c.stamp ≡ d.stamp
    by [] j = absurd (in_nil c j)
    by (m ∷ ms) j = ⊎_elim (λ (s : c ≡ change_of d m). ap (λ (x : Change). x.stamp) s) (by ms) (in_cons (change_of d m) c (map (change_of d) ms) j)

pub told_more : (xs : List Step) (x : Step) → changes (xs ++ x ∷ []) ≡ changes xs ++ changes_in x
told_more xs x = flat_map-append changes_in xs (x ∷ []) ∙ ap (λ l. changes xs ++ l) (append-nil (changes_in x))

-- without a kind of step, and one more that is none
pub without_more : (p : Step → Bool) (xs : List Step) (x : Step) → HaveNo p xs → p x ≡ false → HaveNo p (xs ++ x ∷ [])
without_more p xs x h e y i = ⊎_elim
    (λ (j : Contains xs y). h y j)
    (λ (j : Contains (x ∷ []) y). ⊎_elim (λ (s : y ≡ x). ap p s ∙ e) (λ (n : Contains [] y). absurd (in_nil y n)) (in_cons x y [] j))
    (Contains-append_cases xs (x ∷ []) y i)

-- a READ of a part that tells of these changes, up to the moment `top`
module _ (f : Feed) (q : Part) (r e m top : ℕ) (ws : List Change) where
  pub record IsWanted : Type 0 where
    pub order : Pairwise (λ (c d : Change). (c ≢ d) × (c.stamp ≤ d.stamp)) ws
    pub wanted : (c : Change) → Contains ws c → IsOf f q c × (r ≤ c.stamp) × (c.stamp ≤ top)
    pub all : (c : Change) → IsOf f q c → r ≤ c.stamp → c.stamp ≤ top → Contains ws c
    pub within : (r ≤ top) × (top ≤ e) × (top ≤ m)
    pub lives : IsBefore top q.until

  -- the steps so far, the last stamp, a bound of the heartbeats, and the changes that are left
  pub record At (done : List Step) (last bound : ℕ) (rest : List Change) : Type 0 where
    pub childless : HaveNo is_children done
    pub unclosed : HaveNo is_closing done
    pub told : changes done ++ rest ≡ ws
    pub low : (c : Change) → Contains (changes done) c → c.stamp ≤ last
    pub high : (c : Change) → Contains rest c → last ≤ c.stamp
    pub beats : (h : ℕ) → Contains done (Given (Heartbeat h)) → h < bound

  module _ (W : IsWanted) where
    -- the changes below a moment were told where those that are left are not below it
    pub all_below : (done : List Step) (rest : List Change) → changes done ++ rest ≡ ws → (t : ℕ) → t ≤ suc top → ((c : Change) → Contains rest c → t ≤ c.stamp) → HasAllBelow f q r e m done t
    all_below done rest told t low late c i from below =
        ⊎_elim
        (λ (j : Contains (changes done) c). j)
        (λ (j : Contains rest c). let k = late c j in absurd (omega (arith, k)))
        (Contains-append_cases (changes done) rest c (subst (λ l. Contains l c) (sym told) (W.all c i from (omega arith))))

    module _ (done : List Step) (last : ℕ) (d : DataRecord) (rest : List Change) (sound : IsSound d) where
      data_follows : (bound : ℕ) → At done last bound (changes_told d ++ rest) → MayFollow f q r e m done (Given (Data d))
      data_follows bound A = (
        A.unclosed,
        record {
          childless = A.childless;
          some = sound.full;
          sound = sound.accepted;
          within = (within.0, within.1, within.2);
          wanted = λ c i. (W.wanted c (mine c i)).0;
          once = pairs_to (λ (a b : Change). a ≢ b) (changes_told d) (pairs_weaker R (λ (a b : Change). a ≢ b) (changes_told d) (λ a b i j h. h.0) (pairs_left R (changes_told d) rest behind));
          new = λ c i j. (pairs_across R (changes done) (changes_told d ++ rest) all c c j (Contains-append_left (changes_told d) rest c i)).0 refl;
          order = λ c i. let s = A.low c i in let h = A.high sound.some.0 (Contains-append_left (changes_told d) rest sound.some.0 sound.some.1) in let t = of_stamp d sound.some.0 sound.some.1 in omega (arith, s, h, t);
          whole = all_below done (changes_told d ++ rest) A.told d.stamp (omega (arith, within.3)) late;
        },
      )
        where
          R : Change → Change → Type 0
          R a b = (a ≢ b) × (a.stamp ≤ b.stamp)

          all : Pairwise R (changes done ++ (changes_told d ++ rest))
          all = subst (Pairwise R) (sym A.told) W.order

          behind : Pairwise R (changes_told d ++ rest)
          behind = pairs_right R (changes done) (changes_told d ++ rest) all

          mine : (c : Change) → Contains (changes_told d) c → Contains ws c
          mine c i = subst (λ l. Contains l c) A.told (Contains-append_right (changes done) (changes_told d ++ rest) c (Contains-append_left (changes_told d) rest c i))

          within : (r ≤ d.stamp) × (d.stamp ≤ e) × (d.stamp ≤ m) × (d.stamp ≤ top)
          within =
              let w = W.wanted sound.some.0 (mine sound.some.0 sound.some.1) in
              let t = of_stamp d sound.some.0 sound.some.1 in
              (omega (arith, t, w.1), omega (arith, t, w.2, W.within.1), omega (arith, t, w.2, W.within.2), omega (arith, t, w.2))

          late : (c : Change) → Contains (changes_told d ++ rest) c → d.stamp ≤ c.stamp
          late c i = ⊎_elim
              (λ (j : Contains (changes_told d) c). let t = of_stamp d c j in omega (arith, t))
              (λ (j : Contains rest c). let t = of_stamp d sound.some.0 sound.some.1 in let h = (pairs_across R (changes_told d) rest behind sound.some.0 c sound.some.1 j).1 in omega (arith, t, h))
              (Contains-append_cases (changes_told d) rest c i)

      pub after_data : (bound : ℕ) → bound ≤ d.stamp → At done last bound (changes_told d ++ rest) → At (done ++ Given (Data d) ∷ []) d.stamp d.stamp rest
      after_data bound low A = record {
        childless = without_more is_children done (Given (Data d)) A.childless refl;
        unclosed = without_more is_closing done (Given (Data d)) A.unclosed refl;
        told = ap (λ l. l ++ rest) (told_more done (Given (Data d))) ∙ append_assoc (changes done) (changes_told d) rest ∙ A.told;
        low = λ c i. ⊎_elim
            (λ (j : Contains (changes done) c). (data_follows bound A).1.order c j)
            (λ (j : Contains (changes_told d) c). let t = of_stamp d c j in omega (arith, t))
            (Contains-append_cases (changes done) (changes_told d) c (subst (λ l. Contains l c) (told_more done (Given (Data d))) i));
        high = λ c i. late bound A c i;
        beats = λ h i. ⊎_elim
            (λ (j : Contains done (Given (Heartbeat h))). let k = A.beats h j in omega (arith, k))
            (λ (j : Contains (Given (Data d) ∷ []) (Given (Heartbeat h))). absurd (no_beat h j))
            (Contains-append_cases done (Given (Data d) ∷ []) (Given (Heartbeat h)) i);
      }
        where
          no_beat : (h : ℕ) → Contains (Given (Data d) ∷ []) (Given (Heartbeat h)) → ⊥
          no_beat h j = ⊎_elim (λ (s : Given (Heartbeat h) ≡ Given (Data d)). apart s) (λ (n : Contains [] (Given (Heartbeat h))). in_nil (Given (Heartbeat h)) n) (in_cons (Given (Data d)) (Given (Heartbeat h)) [] j)
            where
              apart : Given (Heartbeat h) ≡ Given (Data d) → ⊥
              apart s = cc

          late : (b : ℕ) → At done last b (changes_told d ++ rest) → (c : Change) → Contains rest c → d.stamp ≤ c.stamp
          late b B c i =
              let R : Change → Change → Type 0 = λ x y. (x ≢ y) × (x.stamp ≤ y.stamp) in
              let all : Pairwise (λ (x y : Change). (x ≢ y) × (x.stamp ≤ y.stamp)) (changes done ++ (changes_told d ++ rest)) = subst (Pairwise (λ (x y : Change). (x ≢ y) × (x.stamp ≤ y.stamp))) (sym B.told) W.order in
              let behind = pairs_right (λ (x y : Change). (x ≢ y) × (x.stamp ≤ y.stamp)) (changes done) (changes_told d ++ rest) all in
              let t = of_stamp d sound.some.0 sound.some.1 in
              let h = (pairs_across (λ (x y : Change). (x ≢ y) × (x.stamp ≤ y.stamp)) (changes_told d) rest behind sound.some.0 c sound.some.1 i).1 in
              omega (arith, t, h)

    module _ (done : List Step) (last at : ℕ) (rest : List Change) where
      beat_follows : At done last last rest → r ≤ last → last ≤ at → at ≤ top → ((c : Change) → Contains rest c → suc at ≤ c.stamp) → MayFollow f q r e m done (Given (Heartbeat at))
      beat_follows A low up in_top late = (
        A.unclosed,
        record {
          childless = A.childless;
          within = (omega arith, omega (arith, W.within.1), omega (arith, W.within.2), sooner q.until W.lives);
          rises = λ h i. let k = A.beats h i in omega (arith, k);
          order = λ c i. let k = A.low c i in omega (arith, k);
          whole = all_below done rest A.told (suc at) (omega arith) late;
        },
      )
        where
          sooner : (o : Option ℕ) → IsBefore top o → IsBefore at o
          sooner None h = tt
          sooner (Some u) h = omega arith

      after_beat : (bound : ℕ) → last ≤ bound → at < bound → At done last last rest → At (done ++ Given (Heartbeat at) ∷ []) last bound rest
      after_beat bound low above A = record {
        childless = without_more is_children done (Given (Heartbeat at)) A.childless refl;
        unclosed = without_more is_closing done (Given (Heartbeat at)) A.unclosed refl;
        told = ap (λ l. l ++ rest) (same done) ∙ A.told;
        low = λ c i. A.low c (subst (λ l. Contains l c) (same done) i);
        high = A.high;
        beats = λ h i. ⊎_elim
            (λ (j : Contains done (Given (Heartbeat h))). let k = A.beats h j in omega (arith, k))
            (λ (j : Contains (Given (Heartbeat at) ∷ []) (Given (Heartbeat h))). let k = this h j in omega (arith, k))
            (Contains-append_cases done (Given (Heartbeat at) ∷ []) (Given (Heartbeat h)) i);
      }
        where
          same : (xs : List Step) → changes (xs ++ Given (Heartbeat at) ∷ []) ≡ changes xs
          same xs = told_more xs (Given (Heartbeat at)) ∙ append-nil (changes xs)

          this : (h : ℕ) → Contains (Given (Heartbeat at) ∷ []) (Given (Heartbeat h)) → h ≡ at
          this h j = ⊎_elim (λ (s : Given (Heartbeat h) ≡ Given (Heartbeat at)). inside s) (λ (n : Contains [] (Given (Heartbeat h))). absurd (in_nil (Given (Heartbeat h)) n)) (in_cons (Given (Heartbeat at)) (Given (Heartbeat h)) [] j)
            where
              inside : Given (Heartbeat h) ≡ Given (Heartbeat at) → h ≡ at
              inside s = cc

    -- data records and heartbeats from here on
    pub paced_follows : (gap : ℕ) → 1 ≤ gap → (done : List Step) (last : ℕ) (ds : List DataRecord) → ((d : DataRecord) → Contains ds d → IsSound d) → r ≤ last → At done last last (flat_map changes_told ds) → Follows (MayFollow f q r e m) done (paced gap top last ds)
    paced_follows gap some done last [] sound low A = by (nat_le (last + gap) top) refl
      where
        by : (b : Bool) → nat_le (last + gap) top ≡ b → Follows (MayFollow f q r e m) done (cond b (Given (Heartbeat top) ∷ []) [])
        by false t = tt
        by true t = let h = leb-true (last + gap) top t in (beat_follows done last top [] A low (omega (arith, h)) (omega arith) (λ c i. absurd (in_nil c i)), tt)
    paced_follows gap some done last (d ∷ ds) sound low A = by (nat_le (last + gap) d.stamp) refl
        (λ before bound B under. paced_follows gap some (before ++ Given (Data d) ∷ []) d.stamp ds (λ x i. sound x (in_tail d x ds i)) (omega (arith, low, up)) (after_data before last d (flat_map changes_told ds) here bound under B))
      where
        here : IsSound d
        here = sound d (in_head d ds)

        up : last ≤ d.stamp
        up = let h = A.high here.some.0 (Contains-append_left (changes_told d) (flat_map changes_told ds) here.some.0 here.some.1) in let t = of_stamp d here.some.0 here.some.1 in omega (arith, h, t)

        late : (c : Change) → Contains (changes_told d ++ flat_map changes_told ds) c → d.stamp ≤ c.stamp
        late c i = ⊎_elim
            (λ (j : Contains (changes_told d) c). let t = of_stamp d c j in omega (arith, t))
            (λ (j : Contains (flat_map changes_told ds) c). (after_data done last d (flat_map changes_told ds) here last up A).high c j)
            (Contains-append_cases (changes_told d) (flat_map changes_told ds) c i)

        in_top : d.stamp ≤ top
        in_top =
            let w = W.wanted here.some.0 (subst (λ l. Contains l here.some.0) A.told (Contains-append_right (changes done) (changes_told d ++ flat_map changes_told ds) here.some.0 (Contains-append_left (changes_told d) (flat_map changes_told ds) here.some.0 here.some.1))) in
            let t = of_stamp d here.some.0 here.some.1 in
            omega (arith, t, w.2)

        by : (b : Bool) → nat_le (last + gap) d.stamp ≡ b
            → ((before : List Step) (bound : ℕ) → At before last bound (changes_told d ++ flat_map changes_told ds) → bound ≤ d.stamp → Follows (MayFollow f q r e m) (before ++ Given (Data d) ∷ []) (paced gap top d.stamp ds))
            → Follows (MayFollow f q r e m) done (cond b (Given (Heartbeat (d.stamp - 1)) ∷ []) [] ++ Given (Data d) ∷ paced gap top d.stamp ds)
        by false t next = (data_follows done last d (flat_map changes_told ds) here last A, next done last A up)
        by true t next =
            let h = leb-true (last + gap) d.stamp t in
            let k : suc (d.stamp - 1) ≡ d.stamp = omega (arith, h, some) in
            let B = after_beat done last (d.stamp - 1) (changes_told d ++ flat_map changes_told ds) d.stamp up (omega (arith, k)) A in (
              beat_follows done last (d.stamp - 1) (changes_told d ++ flat_map changes_told ds) A low (omega (arith, h, some)) (omega (arith, in_top)) (λ c i. let l = late c i in omega (arith, k, l)),
              (
                data_follows (done ++ Given (Heartbeat (d.stamp - 1)) ∷ []) last d (flat_map changes_told ds) here d.stamp B,
                next (done ++ Given (Heartbeat (d.stamp - 1)) ∷ []) d.stamp B (omega arith),
              ),
            )
