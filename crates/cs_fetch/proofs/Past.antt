-- No step of an honest READ of a part is one that no server may give.
use Rattle.std.proofs.Common.{◌≡◌, ◌≢◌, ℕ, suc, ◌+◌, ◌<◌, ◌≤◌, Bool, true, false, cond, not, List, [], ◌∷◌, ◌++◌, map, length, Option, Some, None, is_some, ⊎_elim, refl, ap, ◌∙◌, sym, subst, arith, true≢false, is_eq, eqb, leb, ltb, filter, Contains}
use Rattle.std.specs.Cmp.{eq_by_cmp_equiv}
use Rattle.std.specs.Cmp.Lexicographic.{slice_cmp, nat_list_cmp_total}
use Rattle.std.specs.Option.{option_or, option_map}
use Rattle.std.specs.Ordering.{nat_cmp}
use Rattle.std.proofs.lemmas.Bool.{cases_lt, le-ltb, lt-leb, eq-eqb, eqb-true, and_from, not_from_true}
use Rattle.std.proofs.lemmas.List.{length-append}
use Rattle.std.proofs.lemmas.List.Elements.{Contains-append_left, Contains-append_cases, filter-append}
use Rattle.std.proofs.lemmas.Grind.{flat_map-append}
use Rattle.cs_types.specs.declared.change.Change.{Change}
use Rattle.cs_types.specs.Members.{Pairwise, in_nil, in_head, in_tail, in_cons, in_filter, from_filter, pairs_from, pairs_filter, pairs_weaker, in_flat, from_flat}
use Rattle.cs_place.specs.declared.part.Part.{Part}
use Rattle.cs_place.specs.Part.{IsBefore, is_held}
use Rattle.cs_place.specs.Held.{held_is}
use Rattle.cs_records.specs.declared.records.Child.{Child}
use Rattle.cs_records.specs.declared.records.ChildRecord.{ChildRecord}
use Rattle.cs_records.specs.declared.records.DataRecord.{DataRecord}
use Rattle.cs_records.specs.declared.records.Mod.{Mod}
use Rattle.cs_records.specs.declared.records.Record.{Record}
use Rattle.cs_records.specs.Told.{change_of, changes_told}
use Rattle.cs_link.specs.declared.batch.Known.{Known}
use Rattle.cs_link.specs.declared.batch.NewChild.{NewChild}
use Rattle.cs_link.specs.declared.breach.Breach.{Breach}
use Rattle.cs_link.specs.declared.feed.Feed.{Feed}
use Rattle.cs_link.specs.declared.reading.ReadArgs.{ReadArgs}
use Rattle.cs_link.specs.declared.reading.Step.{Step}
use Rattle.cs_fetch.specs.declared.so_far.Marks.{Marks}
use Rattle.cs_fetch.specs.declared.so_far.SoFar.{SoFar}
use Rattle.cs_fetch.specs.Breach.{only_if, offended, outside_of, fell, outside, below_beat, after_children, initial, crowded, unsound, stamp_breach, data_breach, beat_offends, beat_breach, part_start_offends, start_offends, differ, first_differing, first_without, children_breach, too_many, with_children, list_breach, moment_offends}
use Rattle.cs_link.specs.Causes.{one_more}
use Rattle.cs_link.specs.Feed.{place_of, is_of_at, IsOf, IsFeed}
use Rattle.cs_link.specs.Honest.{HaveNo, Follows, HasAllBelow, MayTell, MayBeat, MayList, MayCatchUp, MayFollow}
use Rattle.cs_fetch.specs.Keeping.{parents_of}
use Rattle.cs_link.specs.Reading.{end_of, changes_in, changes, children, is_children, new_child}
use Rattle.cs_fetch.specs.SoFar.{count_at}
use Rattle.cs_fetch.proofs.Lists.{no_longer, some_any, place}
use Rattle.cs_fetch.proofs.Marking.{is_at, count_of, Tell}
use Rattle.cs_fetch.proofs.Faithful.{Facts, its_stamp}
use Rattle.cs_fetch.proofs.Kids.{IsAccepted, not_listed, few_listed}

-- ---- nothing among options

pub or_none : {A : Type 0} (a b : Option A) → a ≡ None → b ≡ None → option_or a b ≡ None
or_none a b h k = ap (λ z. option_or z b) h ∙ k

pub map_none : {A B : Type 0} (g : A → B) (o : Option A) → o ≡ None → option_map g o ≡ None
map_none g o h = ap (option_map g) h

pub only_none : {A : Type 0} (b : Bool) (x : A) → b ≡ false → only_if b x ≡ None
only_none b x h = ap (λ z. only_if z x) h

pub offended_none : (test : ℕ → Bool) (o : Option ℕ) → ((u : ℕ) → o ≡ Some u → test u ≡ false) → offended test o ≡ None
offended_none test None h = refl
offended_none test (Some u) h = only_none (test u) u (h u refl)

pub is_none : {A : Type 0} (o : Option A) → ((u : A) → o ≡ Some u → ⊥) → o ≡ None
is_none None h = refl
is_none (Some u) h = absurd (h u refl)

pub some_change : (item : DataRecord) → item.mods ≢ [] → (c : Change) × Contains (changes_told item) c
some_change item h = by item.mods refl
  where
    by : (ms : List Mod) → item.mods ≡ ms → (c : Change) × Contains (map (change_of item) ms) c
    by [] s = absurd (h s)
    by (x ∷ ms) s = (change_of item x, in_head (change_of item x) (map (change_of item) ms))

-- ---- children whose tokens are new differ from none

no_difference : (start : ℕ) (kept : List NewChild) (cs : List Child) → ((x : Child) (b : NewChild) → Contains cs x → Contains kept b → b.token ≢ x.token) → Pairwise (λ x y. x.token ≢ y.token) cs → first_differing kept start cs ≡ None
no_difference start kept [] h k = refl
no_difference start kept (x ∷ cs) h k =
    ap (λ z. cond (differ z x.parents) (Some x.token) (first_differing (cond (is_some z) kept (kept ++ new_child start x ∷ [])) start cs)) absent
    ∙ no_difference start (kept ++ new_child start x ∷ []) cs
    (λ y b i j. ⊎_elim
    (λ (l : Contains kept b). h y b (in_tail x y cs i) l)
    (λ (l : Contains (new_child start x ∷ []) b). ⊎_elim
    (λ (s : b ≡ new_child start x). λ g. k.0 y i (sym (ap (λ (z : NewChild). z.token) s) ∙ g))
    (λ (n : Contains [] b). absurd (in_nil b n))
    (in_cons (new_child start x) b [] l))
    (Contains-append_cases kept (new_child start x ∷ []) b j))
    k.1
  where
    absent : parents_of x.token kept ≡ None
    absent = not_listed kept x.token (λ b i. h x b (in_head x cs) i)

all_named : (token : List ℕ) (cs : List Child) → ((x : Child) → Contains cs x → Contains x.parents token) → first_without token cs ≡ None
all_named token [] h = refl
all_named token (x ∷ cs) h =
    ap (λ z. cond z (first_without token cs) (Some x.token)) (some_any (λ t. is_eq (slice_cmp nat_cmp token t)) token x.parents (h x (in_head x cs)) ((eq_by_cmp_equiv nat_list_cmp_total).refl token))
    ∙ all_named token cs (λ y i. h y (in_tail x y cs i))

-- ---- how many data records have one stamp

-- a change of this stamp
abbrev at : ℕ → Change → Bool
at t c = eqb c.stamp t

records_few : (t : ℕ) (xs : List Step) → ((item : DataRecord) → Contains xs (Step.Record (Record.Change item)) → item.mods ≢ []) → count_of t xs ≤ length (filter (at t) (changes xs))
records_few t [] h = omega arith
records_few t (Step.Record (Record.Change item) ∷ xs) h =
    let more = records_few t xs (λ v i. h v (in_tail (Step.Record (Record.Change item)) (Step.Record (Record.Change v)) xs i)) in
    let sum : length (filter (at t) (changes_told item ++ changes xs)) ≡ length (filter (at t) (changes_told item)) + length (filter (at t) (changes xs)) = ap length (filter-append (at t) (changes_told item) (changes xs)) ∙ length-append (filter (at t) (changes_told item)) (filter (at t) (changes xs)) in
    by (eqb item.stamp t) refl (some_change item (h item (in_head (Step.Record (Record.Change item)) xs))) more sum
  where
    by : (b : Bool) → eqb item.stamp t ≡ b → (c : Change) × Contains (changes_told item) c → count_of t xs ≤ length (filter (at t) (changes xs)) → length (filter (at t) (changes_told item ++ changes xs)) ≡ length (filter (at t) (changes_told item)) + length (filter (at t) (changes xs)) → length (cond b (Step.Record (Record.Change item) ∷ filter (is_at t) xs) (filter (is_at t) xs)) ≤ length (filter (at t) (changes_told item ++ changes xs))
    by true g c l s =
        let i = in_filter (at t) c.0 (changes_told item) c.1 (ap (λ z. eqb z t) (its_stamp item c.0 c.1) ∙ g) in
        omega (arith, i.1, l, s)
    by false g c l s = omega (arith, l, s)
records_few t (Step.Record (Record.Heartbeat u) ∷ xs) h = records_few t xs (λ v i. h v (in_tail (Step.Record (Record.Heartbeat u)) (Step.Record (Record.Change v)) xs i))
records_few t (Step.Record (Record.Children u) ∷ xs) h = records_few t xs (λ v i. h v (in_tail (Step.Record (Record.Children u)) (Step.Record (Record.Change v)) xs i))
records_few t (Step.Closing u ∷ xs) h = records_few t xs (λ v i. h v (in_tail (Step.Closing u) (Step.Record (Record.Change v)) xs i))

of_at : (f : Feed) (q : Part) (t : ℕ) (c : Change) → IsOf f q c → c.stamp ≡ t → is_of_at q t c ≡ true
of_at f q t c o s =
    and_from (is_held q (place_of c.row) c.stamp) (eqb c.stamp t) ((held_is q (place_of c.row) c.stamp).1 o.held) (eq-eqb c.stamp t s)

module _ (f : Feed) (F : IsFeed f) (q : Part) (r e m : ℕ) (A : IsAccepted f q r e m) (done : List Step) (H : Follows (MayFollow f q r e m) [] done) where
  told_at : (item : DataRecord) → Contains done (Step.Record (Record.Change item)) → item.mods ≢ []
  told_at item i = (place (MayFollow f q r e m) [] done (Step.Record (Record.Change item)) H i).may.1.some

  pub seen_at : (item : DataRecord) → Contains done (Step.Record (Record.Change item)) → (c : Change) × Contains (changes done) c × (c.stamp ≡ item.stamp)
  seen_at item i =
      let c = some_change item (told_at item i) in
      (c.0, in_flat changes_in c.0 (Step.Record (Record.Change item)) done i c.1, its_stamp item c.0 c.1)

  pub stamp_low : (c : Change) → Contains (changes done) c → c.stamp ≤ m
  stamp_low c i = let u = from_flat changes_in c done i in by u.0 u.1 u.2
    where
      by : (x : Step) → Contains done x → Contains (changes_in x) c → c.stamp ≤ m
      by (Step.Record (Record.Change item)) j h =
          let p = place (MayFollow f q r e m) [] done (Step.Record (Record.Change item)) H j in
          let s = its_stamp item c h in
          let l = p.may.1.within.2 in
          omega (arith, s, l)
      by (Step.Record (Record.Heartbeat t)) j h = absurd (in_nil c h)
      by (Step.Record (Record.Children item)) j h = absurd (in_nil c h)
      by (Step.Closing closing) j h = absurd (in_nil c h)

  pub beat_at : (t : ℕ) → Contains done (Step.Record (Record.Heartbeat t)) → HasAllBelow f q r e m done (suc t) × (r ≤ t) × (t ≤ e) × (t ≤ m) × IsBefore t q.until
  beat_at t i =
      let p = place (MayFollow f q r e m) [] done (Step.Record (Record.Heartbeat t)) H i in
      (λ c o a l. subst (λ z. Contains (changes z) c) p.split (subst (λ z. Contains z c) (sym (flat_map-append changes_in p.before (Step.Record (Record.Heartbeat t) ∷ p.after))) (Contains-append_left (changes p.before) (changes (Step.Record (Record.Heartbeat t) ∷ p.after)) c (p.may.1.whole c o a l))), p.may.1.within.0, p.may.1.within.1, p.may.1.within.2, p.may.1.within.3)

  pub start_at : (item : ChildRecord) → Contains done (Step.Record (Record.Children item)) → q.until ≡ Some item.start
  start_at item i = (place (MayFollow f q r e m) [] done (Step.Record (Record.Children item)) H i).may.1.ends.0

  module _ (known : Known) (n : ℕ) (X : Facts f q r e known (changes done) n) where
    pub few_at : (t : ℕ) → count_of t done ≤ 1024
    few_at t =
        let a = records_few t done told_at in
        let b = no_longer (filter (λ (c : Change). eqb c.stamp t) (changes done)) (filter (is_of_at q t) f.wanted)
        (pairs_filter (λ (c d : Change). c ≢ d) (λ c. eqb c.stamp t) (changes done) (pairs_weaker (λ (c d : Change). (c ≢ d) × (c.stamp ≤ d.stamp)) (λ (c d : Change). c ≢ d) (changes done) (λ c d i j h. h.0) X.order))
        (λ c i. let u = from_filter (λ (c : Change). eqb c.stamp t) c (changes done) i in let w = X.wanted c u.0 in in_filter (is_of_at q t) c f.wanted w.0.wanted (of_at f q t c w.0 (eqb-true c.stamp t u.1))) in
        let g = F.few_changes q t A.there in
        omega (arith, a, b, g)

  -- no heartbeat stands at or behind a later data record
  pub beats_below : (item : DataRecord) → MayTell f q r e m done item → (h : ℕ) → Contains done (Step.Record (Record.Heartbeat h)) → h < item.stamp
  beats_below item D h i =
      ⊎_elim
      (λ (l : h < item.stamp). l)
      (λ (l : item.stamp ≤ h).
      let c = some_change item D.some in
      let s = its_stamp item c.0 c.1 in
      let w = D.within.0 in
      absurd (D.new c.0 c.1 ((beat_at h i).0 c.0 (D.wanted c.0 c.1) (omega (arith, s, w)) (omega (arith, s, l)))))
      (cases_lt h item.stamp)

  -- a child record stands there where the marks tell of one
  no_lists : HaveNo is_children done → (item : ChildRecord) → Contains done (Step.Record (Record.Children item)) → ⊥
  no_lists h item i = true≢false (h (Step.Record (Record.Children item)) i)

  module _ (args : ReadArgs) (known : Known) (marks : Marks) (T : Tell known done marks) (token : args.token ≡ Some q.token) (start : args.start ≡ r) (end : end_of args ≡ e) where
    not_listed_yet : HaveNo is_children done → marks.listed ≡ None
    not_listed_yet h = is_none marks.listed (λ u g. let v = T.listed u g in no_lists h v.0 v.1)

    inside : (t : ℕ) → r ≤ t → t ≤ e → outside_of args t ≡ None
    inside t a b =
        or_none _ _ (only_none (ltb t args.start) args.start (le-ltb t args.start (omega (arith, start, a))))
        (only_none (ltb (end_of args) t) (end_of args) (le-ltb (end_of args) t (omega (arith, end, b))))

    last_low : (t : ℕ) → ((c : Change) → Contains (changes done) c → c.stamp ≤ t) → offended (ltb t) marks.last ≡ None
    last_low t h = offended_none (ltb t) marks.last (λ u g. let v = T.last u g in let c = seen_at v.0 v.1 in let l = h c.0 c.1 in let s = v.2 in let k = c.2 in le-ltb t u (omega (arith, l, s, k)))

    last_below : (t : ℕ) → ((c : Change) → Contains (changes done) c → c.stamp < t) → offended (leb t) marks.last ≡ None
    last_below t h = offended_none (leb t) marks.last (λ u g. let v = T.last u g in let c = seen_at v.0 v.1 in let l = h c.0 c.1 in let s = v.2 in let k = c.2 in lt-leb t u (omega (arith, l, s, k)))

    beat_below : (t : ℕ) → ((h : ℕ) → Contains done (Step.Record (Record.Heartbeat h)) → h < t) → offended (leb t) marks.beat ≡ None
    beat_below t h = offended_none (leb t) marks.beat (λ u g. lt-leb t u (h u (T.beat u g)))

    beat_low : (t : ℕ) → ((h : ℕ) → Contains done (Step.Record (Record.Heartbeat h)) → h ≤ t) → offended (ltb t) marks.beat ≡ None
    beat_low t h = offended_none (ltb t) marks.beat (λ u g. le-ltb t u (h u (T.beat u g)))

    not_initial : (n : ℕ) → initial args.token n ≡ None
    not_initial n = ap (λ z. initial z n) token

    pub right_data : (item : DataRecord) → MayTell f q r e m done item → suc (count_of item.stamp done) ≤ 1024 → data_breach args marks item ≡ None
    right_data item D few =
        or_none (stamp_breach args marks item.stamp) (unsound (one_more marks.records) item)
        (or_none (fell marks.last item.stamp) _ (map_none (λ a. Breach.StampFell a item.stamp) (offended (ltb item.stamp) marks.last) (last_low item.stamp D.order))
        (or_none (outside args item.stamp) _ (map_none (Breach.OutOfWindow item.stamp) (outside_of args item.stamp) (inside item.stamp D.within.0 D.within.1))
        (or_none (below_beat marks.beat item.stamp) _ (map_none (Breach.BelowHeartbeat item.stamp) (offended (leb item.stamp) marks.beat) (beat_below item.stamp (beats_below item D)))
        (or_none (after_children marks.listed item.stamp) _ (map_none (Breach.AfterChildren item.stamp) marks.listed (not_listed_yet D.childless))
        (or_none (initial args.token (one_more marks.records)) (crowded marks item.stamp) (not_initial (one_more marks.records))
        (only_none (ltb 1024 (one_more (count_at marks item.stamp))) (Breach.TooManyAtStamp item.stamp 1024) (let a = T.at_last item.stamp in le-ltb 1024 (one_more (count_at marks item.stamp)) (omega (arith, a, few)))))))))
        (map_none (Breach.BadRecord (one_more marks.records)) _ D.sound)

    pub right_beat : (at : ℕ) → MayBeat f q r e m done at → beat_breach args marks at ≡ None
    right_beat at D =
        or_none _ _ (map_none (Breach.HeartbeatWrong at) (beat_offends args marks at)
        (or_none (outside_of args at) _ (inside at D.within.0 D.within.1)
        (or_none (offended (leb at) marks.beat) (offended (ltb at) marks.last) (beat_below at D.rises) (last_low at D.order))))
        (or_none (after_children marks.listed at) (initial args.token (one_more marks.records)) (map_none (Breach.AfterChildren at) marks.listed (not_listed_yet D.childless)) (not_initial (one_more marks.records)))

    pub right_list : (s : SoFar) → s.marks ≡ marks → s.children ≡ children done → ((c : Change) → Contains (changes done) c → IsBefore c.stamp q.until) → (item : ChildRecord) → MayList f q r e m done item → list_breach args s item ≡ None
    right_list s sm sc lives item D =
        or_none _ _ (map_none (Breach.ChildStart item.start) (start_offends args s.marks args.token item.start) (ap (λ z. start_offends args s.marks z item.start) token ∙ ap (λ z. part_start_offends args z item.start) sm ∙ starts))
        (or_none (children_breach args.token (first_differing s.children item.start item.children) item.children) (too_many (with_children s.children item))
        (ap (λ z. children_breach z (first_differing s.children item.start item.children) item.children) token
        ∙ or_none _ _ (map_none (λ token. Breach.ChildDiffers token token) (first_differing s.children item.start item.children) (ap (λ z. first_differing z item.start item.children) sc ∙ no_difference item.start (children done) item.children D.new (pairs_from (λ (x y : Child). x.token ≢ y.token) item.children D.once)))
        (map_none (λ token. Breach.ParentMissing token q.token) (first_without q.token item.children) (all_named q.token item.children (λ x i. (D.child x i).parent))))
        (ap (λ z. too_many (with_children z item)) sc ∙ few_listed f F q r e m A done H item D))
      where
        until : (t : ℕ) → IsBefore t q.until → t < item.start
        until t h = subst (λ o. IsBefore t o) D.ends.0 h

        past : r < item.start
        past = until r A.lives

        starts : part_start_offends args marks item.start ≡ None
        starts =
            or_none _ _ (only_none (leb item.start args.start) args.start (lt-leb item.start args.start (omega (arith, start, past))))
            (or_none (offended (leb item.start) marks.last) _ (last_below item.start (λ c i. until c.stamp (lives c i)))
            (or_none (offended (leb item.start) marks.beat) _ (beat_below item.start (λ h i. until h (beat_at h i).4))
            (or_none _ _ (only_none (ltb (end_of args) item.start) (end_of args) (let b = D.ends.1 in le-ltb (end_of args) item.start (omega (arith, end, b))))
            (offended_none (λ earlier. not (eqb earlier item.start)) marks.listed (λ u g.
            let v = T.listed u g in
            let o : Some v.0.start ≡ Some item.start = sym (start_at v.0 v.1) ∙ D.ends.0 in
            let k : v.0.start ≡ item.start = grind arith in
            let z = v.2 in
            not_from_true (eqb u item.start) (eq-eqb u item.start (omega (arith, k, z))))))))

    pub right_caught : (at : ℕ) → known.through ≤ r → MayCatchUp f q r e m done at → moment_offends args known marks at ≡ None
    right_caught at low D =
        let moment = D.moment.0 in
        let below = D.moment.1 in
        let past = A.past in
        or_none _ _ (only_none (leb (end_of args) at) (end_of args) (lt-leb (end_of args) at (omega (arith, end, below))))
        (or_none _ _ (only_none (ltb at known.through) known.through (le-ltb at known.through (omega (arith, low, moment, past))))
        (or_none (offended (ltb at) marks.last) _ (last_low at (λ c i. let l = stamp_low c i in omega (arith, l, moment)))
        (or_none (offended (ltb at) marks.beat) marks.listed (beat_low at (λ h i. let l = (beat_at h i).3 in omega (arith, l, moment)))
        (not_listed_yet D.childless))))
