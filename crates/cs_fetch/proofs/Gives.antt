-- The steps of an honest READ of a part, one by one, give a faithful batch.
use Rattle.std.proofs.Common.{◌≡◌, ◌≢◌, ◌⊎◌, ◌↔◌, ℕ, suc, ◌+◌, ◌-◌, ◌<◌, ◌≤◌, max, Bool, true, false, cond, not, ◌||◌, List, [], ◌∷◌, ◌++◌, length, Option, Some, None, is_some, ⊎_elim, inl, inr, refl, ap, ◌∙◌, sym, subst, arith, true≢false, is_eq, eqb, leb, ltb, filter, Contains, append-nil}
use Rattle.std.proofs.lemmas.Bool.{cases_lt, le-leb, le-ltb, lt-ltb, eq-eqb, eqb-true, ltb-false, leb-true, or_parts, or_cases, and_cases, and_parts, or_from}
use Rattle.std.proofs.lemmas.List.{length-append}
use Rattle.std.proofs.lemmas.List.Elements.{filter-append}
use Rattle.cs_types.specs.declared.change.Change.{Change}
use Rattle.cs_types.specs.Members.{in_nil, in_head, in_tail, from_filter, pairs_weaker}
use Rattle.cs_place.specs.declared.part.Part.{Part}
use Rattle.cs_records.specs.declared.records.Child.{Child}
use Rattle.cs_records.specs.declared.records.ChildRecord.{ChildRecord}
use Rattle.cs_records.specs.declared.records.DataRecord.{DataRecord}
use Rattle.cs_records.specs.declared.records.Record.{Record}
use Rattle.cs_records.specs.Told.{changes_told}
use Rattle.cs_link.specs.declared.batch.Ending.{Ending}
use Rattle.cs_link.specs.declared.batch.Known.{Known}
use Rattle.cs_link.specs.declared.batch.Limits.{Limits}
use Rattle.cs_link.specs.declared.batch.NewChild.{NewChild}
use Rattle.cs_link.specs.declared.breach.Breach.{Breach}
use Rattle.cs_link.specs.declared.feed.Feed.{Feed}
use Rattle.cs_link.specs.declared.reading.Closing.{Closing}
use Rattle.cs_link.specs.declared.reading.ReadArgs.{ReadArgs}
use Rattle.cs_link.specs.declared.reading.Step.{Step}
use Rattle.cs_fetch.specs.declared.so_far.SoFar.{SoFar}
use Rattle.cs_fetch.specs.declared.so_far.Tally.{Tally}
use Rattle.cs_link.specs.Batch.{limit, is_known, IsNewChild, IsFaithfulPart}
use Rattle.cs_fetch.specs.Breach.{end_breach, end_breach_of, part_end_breach, moment_offends, record_breach}
use Rattle.cs_link.specs.Feed.{IsFeed}
use Rattle.cs_fetch.specs.Fetch.{counted_in, idled, is_full, none_counted, finish, Outcome, Goes, Gives, Breaks, Stalls, or_breaks, closed_by, filled, outcome_behind}
use Rattle.cs_link.specs.Honest.{Follows, MayTell, MayBeat, MayList, MayFollow}
use Rattle.cs_fetch.specs.Keeping.{dated, dated_cmp, is_new, has_new, has_new_child, is_listed, is_kept, keep, keep_children}
use Rattle.cs_link.specs.Reading.{end_of, changes_in, changes, children}
use Rattle.cs_fetch.specs.SoFar.{marked, marks_of, so_far, adds}
use Rattle.cs_fetch.proofs.Reached.{changes_more, marks_more}
use Rattle.cs_fetch.proofs.Lists.{none_of, some_of, more}
use Rattle.cs_fetch.proofs.Marking.{is_at, count_of, From, Tell, tell_none, tell_data, tell_beat, tell_list, from_more}
use Rattle.cs_fetch.proofs.Faithful.{limit_both, Facts, faithful, with_data, through, its_stamp, new_is_fresh, same_is}
use Rattle.cs_fetch.proofs.Kids.{IsAccepted, not_listed, is_child, ends, all_children, each_once, are_apart}
use Rattle.cs_fetch.proofs.Past.{some_change, seen_at, beat_at, few_at, map_none, only_none, is_none, right_data, right_beat, right_list, right_caught}

-- a heartbeat of the known part
abbrev is_old : ℕ → Step → Bool
is_old n (Step.Record (Record.Change item)) = false
is_old n (Step.Record (Record.Heartbeat t)) = leb t n
is_old n (Step.Record (Record.Children item)) = false
is_old n (Step.Closing closing) = false

module _ (p : Step → Bool) where
  abbrev count : List Step → ℕ
  count xs = length (filter p xs)

  count_more : (xs : List Step) (x : Step) → count (xs ++ x ∷ []) ≡ count xs + count (x ∷ [])
  count_more xs x = ap length (filter-append p xs (x ∷ [])) ∙ length-append (filter p xs) (filter p (x ∷ []))

  count_one : (x : Step) → p x ≡ true → count (x ∷ []) ≡ 1
  count_one x h = ap (λ b. length (cond b (x ∷ []) [])) h

  count_none : (xs : List Step) → ((x : Step) → Contains xs x → p x ≡ false) → count xs ≡ 0
  count_none [] h = refl
  count_none (x ∷ xs) h = ap (λ b. length (cond b (x ∷ filter p xs) (filter p xs))) (h x (in_head x xs)) ∙ count_none xs (λ y i. h y (in_tail x y xs i))

counted_idle : (n : Tally) (x : Record) → (counted_in n x).idle ≡ 0
counted_idle n (Record.Change item) = refl
counted_idle n (Record.Heartbeat t) = refl
counted_idle n (Record.Children item) = refl

limit_top : (e : ℕ) (o : Option ℕ) → limit e o ≤ suc e
limit_top e None = omega arith
limit_top e (Some u) = omega arith

not_is : (b : Bool) → not b ≡ false → b ≡ true
not_is true h = refl
not_is false h = absurd (true≢false h)

abbrev pub Suits : Feed → ℕ → Known → Part → Option (List ℕ) → Outcome → Type 0
Suits f e known q token Goes = Unit {0}
Suits f e known q token (Gives b) = (b.token ≡ token) × IsFaithfulPart f e known q b
Suits f e known q token (Breaks breach) = ⊥
Suits f e known q token Stalls = ⊥

-- a batch has the token that was asked for
pub closed_token : (args : ReadArgs) (s : SoFar) (closing : Closing) → (closed_by args s closing).token ≡ args.token
closed_token args s Closing.Finished = refl
closed_token args s (Closing.CaughtUp at) = refl
closed_token args s Closing.Cut = refl

module _ (f : Feed) (F : IsFeed f) (q : Part) (args : ReadArgs) (m : ℕ) (A : IsAccepted f q args.start (end_of args) m) (known : Known) (token : args.token ≡ Some q.token) (start : (args.start ≡ known.through) ⊎ (args.start ≡ suc known.through)) (limits : Limits) where
  abbrev r : ℕ
  r = args.start

  abbrev e : ℕ
  e = end_of args

  low : known.through ≤ args.start
  low = ⊎_elim (λ (h : args.start ≡ known.through). omega (arith, h)) (λ (h : args.start ≡ suc known.through). omega (arith, h)) start

  near : args.start ≤ suc known.through
  near = ⊎_elim (λ (h : args.start ≡ known.through). omega (arith, h)) (λ (h : args.start ≡ suc known.through). omega (arith, h)) start

  record Sound (done : List Step) (n : Tally) : Type 0 where
    pub honest : Follows (MayFollow f q r e m) [] done
    pub tell : Tell known done (marks_of known done)
    pub from : From known (marks_of known done).through done
    pub facts : Facts f q r e known (changes done) (marks_of known done).through
    pub idle : n.idle ≤ count_of known.through done + count_of (suc known.through) done + count (is_old known.through) done
    pub one : count (is_old known.through) done ≤ 1

  module _ (done : List Step) (n : Tally) (S : Sound done n) where
    wanted_all : (c : Change) → Contains (changes done) c → Contains f.wanted c
    wanted_all c i = (S.facts.wanted c i).0.wanted

    -- what was kept was read
    kept_read : (d : Change) → Contains (keep known [] (changes done)) d → Contains (changes done) d
    kept_read d i = (from_filter (λ c. not (is_known known c)) d (changes done) (subst (λ z. Contains z d) (new_is_fresh f F known (changes done) wanted_all (pairs_weaker (λ (c d : Change). (c ≢ d) × (c.stamp ≤ d.stamp)) (λ (c d : Change). c ≢ d) (changes done) (λ c d i j h. h.0) S.facts.order)) i)).0

    not_kept : (c : Change) → Contains f.wanted c → is_kept (keep known [] (changes done)) c ≡ true → Contains (changes done) c
    not_kept c i h =
        let u = some_of (λ d. is_eq (dated_cmp (dated c) (dated d))) (keep known [] (changes done)) h in
        let j = kept_read u.0 u.1 in
        subst (λ z. Contains (changes done) z) (sym (same_is f F c u.0 i (wanted_all u.0 j) u.2)) j

    module _ (item : Record) (M : MayFollow f q r e m done (Step.Record item)) where
      abbrev x : Step
      x = Step.Record item

      honest_more : Follows (MayFollow f q r e m) [] (done ++ Step.Record item ∷ [])
      honest_more = more (MayFollow f q r e m) done (Step.Record item) S.honest M

      abbrev after : List Step
      after = done ++ Step.Record item ∷ []

      tell_more : Tell known (done ++ Step.Record item ∷ []) (marks_of known (done ++ Step.Record item ∷ []))
      tell_more = subst (λ z. Tell known (done ++ Step.Record item ∷ []) z) (sym (marks_more known done (Step.Record item))) (by item)
        where
          by : (y : Record) → Tell known (done ++ Step.Record y ∷ []) (marked (marks_of known done) (Step.Record y))
          by (Record.Change d) = tell_data known done (marks_of known done) S.tell d
          by (Record.Heartbeat t) = tell_beat known done (marks_of known done) S.tell t
          by (Record.Children d) = tell_list known done (marks_of known done) S.tell d

      from_again : From known (marks_of known (done ++ Step.Record item ∷ [])).through (done ++ Step.Record item ∷ [])
      from_again = subst (λ z. From known z.through (done ++ Step.Record item ∷ [])) (sym (marks_more known done (Step.Record item))) (from_more known (marks_of known done) done item S.from)

    facts_more : (item : Record) → MayFollow f q r e m done (Step.Record item) → Facts f q r e known (changes (done ++ Step.Record item ∷ [])) (marks_of known (done ++ Step.Record item ∷ [])).through
    facts_more item M =
        subst (λ z. Facts f q r e known (changes (done ++ Step.Record item ∷ [])) z.through) (sym (marks_more known done (Step.Record item)))
        (subst (λ z. Facts f q r e known z (marked (marks_of known done) (Step.Record item)).through) (sym (changes_more done (Step.Record item))) (by item M))
      where
        by : (y : Record) → MayFollow f q r e m done (Step.Record y) → Facts f q r e known (changes done ++ changes_in (Step.Record y)) (marked (marks_of known done) (Step.Record y)).through
        by (Record.Change d) M = with_data f q r e known m done (marks_of known done).through S.facts d M.1 (some_change d M.1.some)
        by (Record.Heartbeat t) M = subst (λ z. Facts f q r e known z (max (marks_of known done).through t)) (sym (append-nil (changes done))) (through f q r e known m done (marks_of known done).through S.facts t (limit_both e t q.until M.1.within.1 M.1.within.3) M.1.whole)
        by (Record.Children d) M = subst (λ z. Facts f q r e known z (marks_of known done).through) (sym (append-nil (changes done))) S.facts

    idle_more : (item : Record) → MayFollow f q r e m done (Step.Record item) → adds known (so_far known done) item ≡ false → suc n.idle ≤ count_of known.through (done ++ Step.Record item ∷ []) + count_of (suc known.through) (done ++ Step.Record item ∷ []) + count (is_old known.through) (done ++ Step.Record item ∷ [])
    idle_more item M g = by item M g
      where
        -- one of the three rises
        up : (y : Step) → (count_of known.through (y ∷ []) ≡ 1) ⊎ ((count_of (suc known.through) (y ∷ []) ≡ 1) ⊎ (count (is_old known.through) (y ∷ []) ≡ 1)) → suc n.idle ≤ count_of known.through (done ++ y ∷ []) + count_of (suc known.through) (done ++ y ∷ []) + count (is_old known.through) (done ++ y ∷ [])
        up y h =
            let a = count_more (is_at known.through) done y in
            let b = count_more (is_at (suc known.through)) done y in
            let c = count_more (is_old known.through) done y in
            let i = S.idle in
            ⊎_elim
            (λ (z : count_of known.through (y ∷ []) ≡ 1). omega (arith, a, b, c, i, z))
            (λ o. ⊎_elim (λ (z : count_of (suc known.through) (y ∷ []) ≡ 1). omega (arith, a, b, c, i, z)) (λ (z : count (is_old known.through) (y ∷ []) ≡ 1). omega (arith, a, b, c, i, z)) o)
            h

        by : (y : Record) → MayFollow f q r e m done (Step.Record y) → adds known (so_far known done) y ≡ false → suc n.idle ≤ count_of known.through (done ++ Step.Record y ∷ []) + count_of (suc known.through) (done ++ Step.Record y ∷ []) + count (is_old known.through) (done ++ Step.Record y ∷ [])
        by (Record.Change d) M g =
            let D : MayTell f q r e m done d = M.1 in
            let o = or_parts (has_new known (keep known [] (changes done)) (changes_told d)) (ltb (marks_of known done).through (d.stamp - 1)) g in
            let c = some_change d D.some in
            let s = its_stamp d c.0 c.1 in
            let w = D.within.0 in
            let there = not_is (is_known known c.0 || is_kept (keep known [] (changes done)) c.0) (none_of (is_new known (keep known [] (changes done))) c.0 (changes_told d) o.0 c.1) in
            let k : is_known known c.0 ≡ true = ⊎_elim (λ h. h) (λ h. absurd (D.new c.0 c.1 (not_kept c.0 (D.wanted c.0 c.1).wanted h))) (or_cases (is_known known c.0) (is_kept (keep known [] (changes done)) c.0) there) in
            let l : c.0.stamp ≤ suc known.through = ⊎_elim (λ a. let b = leb-true c.0.stamp known.through a in omega (arith, b)) (λ a. let b = eqb-true c.0.stamp (suc known.through) (and_parts (eqb c.0.stamp (suc known.through)) _ a).0 in omega (arith, b)) (or_cases (leb c.0.stamp known.through) _ k) in
            ⊎_elim
            (λ (h : d.stamp < suc known.through). up (Step.Record (Record.Change d)) (inl (count_one (is_at known.through) (Step.Record (Record.Change d)) (eq-eqb d.stamp known.through (omega (arith, low, w, h))))))
            (λ (h : suc known.through ≤ d.stamp). up (Step.Record (Record.Change d)) (inr (inl (count_one (is_at (suc known.through)) (Step.Record (Record.Change d)) (eq-eqb d.stamp (suc known.through) (omega (arith, l, s, h)))))))
            (cases_lt d.stamp (suc known.through))
        by (Record.Heartbeat t) M g =
            let D : MayBeat f q r e m done t = M.1 in
            let l = ltb-false (marks_of known done).through t g in
            let k = S.facts.low in
            let old : t ≤ known.through → suc n.idle ≤ count_of known.through (done ++ Step.Record (Record.Heartbeat t) ∷ []) + count_of (suc known.through) (done ++ Step.Record (Record.Heartbeat t) ∷ []) + count (is_old known.through) (done ++ Step.Record (Record.Heartbeat t) ∷ []) = λ z. up (Step.Record (Record.Heartbeat t)) (inr (inr (count_one (is_old known.through) (Step.Record (Record.Heartbeat t)) (le-leb t known.through z)))) in
            ⊎_elim
            (λ (h : (marks_of known done).through ≡ known.through). old (omega (arith, l, h)))
            (λ h. ⊎_elim
            (λ (a : (d : DataRecord) × Contains done (Step.Record (Record.Change d)) × ((marks_of known done).through ≡ d.stamp - 1)).
            let c = seen_at f F q r e m A done S.honest a.0 a.1 in
            let b = D.order c.0 c.1 in
            let z = c.2 in
            let y = a.2 in
            old (omega (arith, l, y, b, z, k)))
            (λ (a : (u : ℕ) × Contains done (Step.Record (Record.Heartbeat u)) × ((marks_of known done).through ≡ u)).
            let b = D.rises a.0 a.1 in
            let y = a.2 in
            absurd (omega (arith, l, y, b)))
            h)
            S.from
        by (Record.Children d) M g =
            let D : MayList f q r e m done d = M.1 in
            let few = D.few in
            let lists = S.tell.lists in
            ⊎_elim
            (λ (a : has_new_child (keep_children [] (children done)) d.children ≡ false). absurd (none_new d D (subst (λ z. has_new_child z d.children ≡ false) (each_once f F q r e m A done S.honest) a)))
            (λ (a : ltb (marks_of known done).lists 8192 ≡ false). absurd (true≢false (sym (lt-ltb (marks_of known done).lists 8192 (omega (arith, few, lists))) ∙ a)))
            (and_cases (has_new_child (keep_children [] (children done)) d.children) (ltb (marks_of known done).lists 8192) g)
          where
            some_child : (cs : List Child) → cs ≢ [] → (c : Child) × Contains cs c
            some_child [] h = absurd (h refl)
            some_child (c ∷ cs) h = (c, in_head c cs)

            none_new : (d : ChildRecord) → MayList f q r e m done d → has_new_child (children done) d.children ≡ false → ⊥
            none_new d D a =
                let c = some_child d.children D.some in
                let n = not_listed (children done) c.0.token (λ b i. D.new c.0 b c.1 i) in
                true≢false (sym (ap (λ z. not (is_some z)) n) ∙ none_of (λ c. not (is_listed (children done) c.token)) c.0 d.children a c.1)

    one_more : (item : Record) → MayFollow f q r e m done (Step.Record item) → count (is_old known.through) (done ++ Step.Record item ∷ []) ≤ 1
    one_more item M = by item M
      where
        plain : (y : Step) → is_old known.through y ≡ false → count (is_old known.through) (done ++ y ∷ []) ≤ 1
        plain y g = let c = count_more (is_old known.through) done y in let z = ap (λ b. length (cond b (y ∷ []) [])) g in let o = S.one in omega (arith, c, z, o)

        absent : (t : ℕ) → MayBeat f q r e m done t → t ≤ known.through → (y : Step) → Contains done y → is_old known.through y ≡ false
        absent t D l (Step.Record (Record.Change d)) i = refl
        absent t D l (Step.Record (Record.Children d)) i = refl
        absent t D l (Step.Closing closing) i = refl
        absent t D l (Step.Record (Record.Heartbeat u)) i =
            let a = D.rises u i in
            let b = (beat_at f F q r e m A done S.honest u i).1 in
            absurd (omega (arith, low, l, a, b))

        beat : (t : ℕ) → MayBeat f q r e m done t → (b : Bool) → leb t known.through ≡ b → count (is_old known.through) (done ++ Step.Record (Record.Heartbeat t) ∷ []) ≤ 1
        beat t D false g = plain (Step.Record (Record.Heartbeat t)) g
        beat t D true g =
            let c = count_more (is_old known.through) done (Step.Record (Record.Heartbeat t)) in
            let z = count_none (is_old known.through) done (absent t D (leb-true t known.through g)) in
            let v = count_one (is_old known.through) (Step.Record (Record.Heartbeat t)) g in
            omega (arith, c, z, v)

        by : (y : Record) → MayFollow f q r e m done (Step.Record y) → count (is_old known.through) (done ++ Step.Record y ∷ []) ≤ 1
        by (Record.Change d) M = plain (Step.Record (Record.Change d)) refl
        by (Record.Heartbeat t) M = beat t M.1 (leb t known.through) refl
        by (Record.Children d) M = plain (Step.Record (Record.Children d)) refl

    few_here : (item : Record) (M : MayFollow f q r e m done (Step.Record item)) (t : ℕ) → count_of t (done ++ Step.Record item ∷ []) ≤ 1024
    few_here item M t = few_at f F q r e m A (done ++ Step.Record item ∷ []) (honest_more item M) known (marks_of known (done ++ Step.Record item ∷ [])).through (facts_more item M) t

    right : (item : Record) → MayFollow f q r e m done (Step.Record item) → record_breach args (so_far known done) item ≡ None
    right item M = by item M
      where
        by : (y : Record) → MayFollow f q r e m done (Step.Record y) → record_breach args (so_far known done) y ≡ None
        by (Record.Change d) M =
            right_data f F q r e m A done S.honest args known (marks_of known done) S.tell token refl refl d M.1
            (let a = few_here (Record.Change d) M d.stamp in let c = count_more (is_at d.stamp) done (Step.Record (Record.Change d)) in let o = count_one (is_at d.stamp) (Step.Record (Record.Change d)) (eq-eqb d.stamp d.stamp refl) in omega (arith, a, c, o))
        by (Record.Heartbeat t) M = right_beat f F q r e m A done S.honest args known (marks_of known done) S.tell token refl refl t M.1
        by (Record.Children d) M = right_list f F q r e m A done S.honest args known (marks_of known done) S.tell token refl refl (so_far known done) refl (each_once f F q r e m A done S.honest) (λ c i. (S.facts.wanted c i).0.held.live.lives) d M.1

    sound_added : (item : Record) → MayFollow f q r e m done (Step.Record item) → Sound (done ++ Step.Record item ∷ []) (counted_in n item)
    sound_added item M = record { honest = honest_more item M; tell = tell_more item M; from = from_again item M; facts = facts_more item M; idle = let z = counted_idle n item in omega (arith, z); one = one_more item M }

    sound_idle : (item : Record) (M : MayFollow f q r e m done (Step.Record item)) → adds known (so_far known done) item ≡ false → Sound (done ++ Step.Record item ∷ []) (idled n)
    sound_idle item M h = record { honest = honest_more item M; tell = tell_more item M; from = from_again item M; facts = facts_more item M; idle = let z = idle_more item M h in omega (arith, z); one = one_more item M }

    not_stalled : (item : Record) (M : MayFollow f q r e m done (Step.Record item)) → adds known (so_far known done) item ≡ false → suc n.idle < 8192
    not_stalled item M h =
        let a = few_here item M known.through in
        let b = few_here item M (suc known.through) in
        let i = idle_more item M h in
        let o = one_more item M in
        omega (arith, a, b, i, o)

    no_children : (ending : Ending) → (ending ≡ Ending.Finished → ⊥) → (y : NewChild) → Contains [] y ↔ ((ending ≡ Ending.Finished) × IsNewChild f e q y)
    no_children ending h y = (λ i. absurd (in_nil y i), λ g. absurd (h g.0))

    filled_right : (item : Record) → MayFollow f q r e m done (Step.Record item) → IsFaithfulPart f e known q (filled args (so_far known (done ++ Step.Record item ∷ [])))
    filled_right item M =
        faithful f q r e known args.token start F (changes (done ++ Step.Record item ∷ [])) (marks_of known (done ++ Step.Record item ∷ [])).through [] Ending.Full (facts_more item M) (λ h. cc) (no_children Ending.Full (λ h. cc)) tt

    closed_right : (closing : Closing) → MayFollow f q r e m done (Step.Closing closing) → IsFaithfulPart f e known q (closed_by args (so_far known done) closing)
    closed_right Closing.Finished M =
        let t = ends f F q r e m A done S.honest M.1 in
        let top = limit_top e q.until in
        let full = S.facts.top in
        subst (λ z. IsFaithfulPart f e known q (record { token = args.token; start = args.start; through = max (marks_of known done).through (finish e z); changes = keep known [] (changes done); children = z; ending = Ending.Finished })) (sym (each_once f F q r e m A done S.honest))
        (faithful f q r e known args.token start F (changes done) (max (marks_of known done).through (finish e (children done))) (children done) Ending.Finished
        (through f q r e known m done (marks_of known done).through S.facts (finish e (children done)) (omega (arith, t)) (λ c o a l. M.1.whole c o a (omega (arith, l, t, top))))
        (λ h. omega (arith, t, full))
        (λ y. (λ i. (refl, is_child f F q r e m A done S.honest y i), λ h. all_children f F q r e m A done S.honest M.1 y h.1))
        (are_apart f F q r e m A done S.honest))
    closed_right (Closing.CaughtUp t) M =
        let below = M.1.moment.1 in
        faithful f q r e known args.token start F (changes done) (max (marks_of known done).through t) [] (Ending.CaughtUp t)
        (through f q r e known m done (marks_of known done).through S.facts t (limit_both e t q.until (omega (arith, below)) M.1.moment.2) M.1.whole)
        (λ h. cc) (no_children (Ending.CaughtUp t) (λ h. cc)) tt
    closed_right Closing.Cut M =
        faithful f q r e known args.token start F (changes done) (marks_of known done).through [] Ending.Cut S.facts (λ h. cc) (no_children Ending.Cut (λ h. cc)) tt

    end_right : (closing : Closing) → MayFollow f q r e m done (Step.Closing closing) → end_breach args known (so_far known done) closing ≡ None
    end_right closing M = ap (λ z. end_breach_of args known (so_far known done) z closing) token ∙ by closing M
      where
        by : (y : Closing) → MayFollow f q r e m done (Step.Closing y) → part_end_breach args known (marks_of known done) y ≡ None
        by Closing.Finished M = refl
        by (Closing.CaughtUp t) M = map_none (Breach.CaughtUpWrong t) (moment_offends args known (marks_of known done) t) (right_caught f F q r e m A done S.honest args known (marks_of known done) S.tell token refl refl t low M.1)
        by Closing.Cut M =
            let a = S.tell.records in
            let b = M.1.long in
            only_none (ltb (marks_of known done).records 8192 || is_some (marks_of known done).listed) (Breach.CutEarly (marks_of known done).records 8192)
            (or_from (ltb (marks_of known done).records 8192) (is_some (marks_of known done).listed) (le-ltb (marks_of known done).records 8192 (omega (arith, a, b)))
            (ap is_some (is_none (marks_of known done).listed (λ u g. let v = S.tell.listed u g in true≢false (M.1.childless (Step.Record (Record.Children v.0)) v.1)))))

    step : (item : Record) (xs : List Step) → MayFollow f q r e m done (Step.Record item) → ((o : Tally) → Sound (done ++ Step.Record item ∷ []) o → Suits f e known q args.token (outcome_behind args known limits (done ++ Step.Record item ∷ []) o xs)) → Suits f e known q args.token (outcome_behind args known limits done n (Step.Record item ∷ xs))
    step item xs M again = subst (λ o. Suits f e known q args.token (or_breaks o (cond (adds known (so_far known done) item) (cond (is_full limits (counted_in n item) item) (Gives (filled args (so_far known (done ++ Step.Record item ∷ [])))) (outcome_behind args known limits (done ++ Step.Record item ∷ []) (counted_in n item) xs)) (cond (leb 8192 (idled n).idle) Stalls (outcome_behind args known limits (done ++ Step.Record item ∷ []) (idled n) xs))))) (sym (right item M)) (adding (adds known (so_far known done) item) refl)
      where
        stall : adds known (so_far known done) item ≡ false → (b : Bool) → leb 8192 (idled n).idle ≡ b → Suits f e known q args.token (cond b Stalls (outcome_behind args known limits (done ++ Step.Record item ∷ []) (idled n) xs))
        stall a true g = let l = leb-true 8192 (idled n).idle g in let u = not_stalled item M a in absurd (omega (arith, l, u))
        stall a false g = again (idled n) (sound_idle item M a)

        full : (b : Bool) → Suits f e known q args.token (cond b (Gives (filled args (so_far known (done ++ Step.Record item ∷ [])))) (outcome_behind args known limits (done ++ Step.Record item ∷ []) (counted_in n item) xs))
        full true = (refl, filled_right item M)
        full false = again (counted_in n item) (sound_added item M)

        adding : (b : Bool) → adds known (so_far known done) item ≡ b → Suits f e known q args.token (cond b (cond (is_full limits (counted_in n item) item) (Gives (filled args (so_far known (done ++ Step.Record item ∷ [])))) (outcome_behind args known limits (done ++ Step.Record item ∷ []) (counted_in n item) xs)) (cond (leb 8192 (idled n).idle) Stalls (outcome_behind args known limits (done ++ Step.Record item ∷ []) (idled n) xs)))
        adding true g = full (is_full limits (counted_in n item) item)
        adding false g = stall g (leb 8192 (idled n).idle) refl

    closes : (closing : Closing) (xs : List Step) → MayFollow f q r e m done (Step.Closing closing) → Suits f e known q args.token (outcome_behind args known limits done n (Step.Closing closing ∷ xs))
    closes closing xs M = subst (λ o. Suits f e known q args.token (or_breaks o (Gives (closed_by args (so_far known done) closing)))) (sym (end_right closing M)) (closed_token args (so_far known done) closing, closed_right closing M)

  gives : (done : List Step) (n : Tally) (xs : List Step) → Sound done n → Follows (MayFollow f q r e m) done xs → Suits f e known q args.token (outcome_behind args known limits done n xs)
  gives done n [] S H = tt
  gives done n (Step.Record item ∷ xs) S H = step done n S item xs H.0 (λ o Z. gives (done ++ Step.Record item ∷ []) o xs Z H.1)
  gives done n (Step.Closing closing ∷ xs) S H = closes done n S closing xs H.0

  begun : Sound [] none_counted
  begun =
      record {
        honest = tt;
        tell = tell_none known;
        from = inl refl;
        facts = record {
          order = tt;
          wanted = λ c i. absurd (in_nil c i);
          whole = λ c o a l. inr l;
          low = omega arith;
          top = let t = limit_both e r q.until A.window A.lives in omega (arith, low, t);
        };
        idle = omega arith;
        one = omega arith;
      }

  pub all_faithful : (xs : List Step) → Follows (MayFollow f q r e m) [] xs → Suits f e known q args.token (outcome_behind args known limits [] none_counted xs)
  all_faithful xs H = gives [] none_counted xs begun H
