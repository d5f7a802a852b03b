-- The steps of an honest READ without a part give a faithful batch.
use Rattle.std.proofs.Common.{◌≡◌, ◌≢◌, ◌↔◌, ℕ, ◌≤◌, true, false, cond, not, List, [], ◌∷◌, ◌++◌, map, Option, Some, None, is_some, refl, ap, ◌∙◌, sym, subst, arith, eqb, leb, ltb, Contains}
use Rattle.std.specs.Prelude.{AllPairs}
use Rattle.std.proofs.lemmas.Bool.{lt-ltb, eq-eqb, and_from, not_from_true}
use Rattle.cs_types.specs.declared.change.Change.{Change}
use Rattle.cs_types.specs.Members.{in_nil, in_head, in_tail, pairs_to, pairs_from, from_flat, from_map}
use Rattle.cs_records.specs.declared.records.Child.{Child}
use Rattle.cs_records.specs.declared.records.ChildRecord.{ChildRecord}
use Rattle.cs_records.specs.declared.records.Record.{Record}
use Rattle.cs_link.specs.declared.batch.Known.{Known}
use Rattle.cs_link.specs.declared.batch.Limits.{Limits}
use Rattle.cs_link.specs.declared.batch.NewChild.{NewChild}
use Rattle.cs_link.specs.declared.breach.Breach.{Breach}
use Rattle.cs_link.specs.declared.feed.Feed.{Feed}
use Rattle.cs_link.specs.declared.reading.Closing.{Closing}
use Rattle.cs_link.specs.declared.reading.ReadArgs.{ReadArgs}
use Rattle.cs_link.specs.declared.reading.Step.{Step}
use Rattle.cs_fetch.specs.declared.so_far.Tally.{Tally}
use Rattle.cs_link.specs.Batch.{IsNewFirst, IsFaithfulFirst}
use Rattle.cs_fetch.specs.Breach.{start_offends, start_breach, children_breach, first_with_parents, has_some, first_differing, has_none, end_breach, end_breach_of, too_many, with_children, list_breach}
use Rattle.cs_link.specs.Feed.{IsFeed}
use Rattle.cs_fetch.specs.Fetch.{counted_in, idled, none_counted, Outcome, Goes, Gives, Breaks, Stalls, or_breaks, closed_by, outcome_behind}
use Rattle.cs_link.specs.Honest.{Follows, MayOpen, MayFollowFirst}
use Rattle.cs_fetch.specs.Keeping.{has_new_child, is_listed, keep, keep_children}
use Rattle.cs_link.specs.Reading.{changes_in, children_in, new_child, changes, children}
use Rattle.cs_fetch.specs.SoFar.{marks_of, so_far, adds}
use Rattle.cs_fetch.proofs.Reached.{marks_more}
use Rattle.cs_fetch.proofs.Lists.{some_any, more, place}
use Rattle.cs_fetch.proofs.Marking.{Tell, tell_none, tell_list}
use Rattle.cs_fetch.proofs.Kids.{Apart, apart_listed, all_apart, all_kept, not_listed, few_kids}
use Rattle.cs_fetch.proofs.Past.{or_none, map_none, only_none}

abbrev pub SuitsFirst : Feed → Option (List ℕ) → Outcome → Type 0
SuitsFirst f token Goes = Unit {0}
SuitsFirst f token (Gives b) = (b.token ≡ token) × IsFaithfulFirst f b
SuitsFirst f token (Breaks breach) = ⊥
SuitsFirst f token Stalls = ⊥

none_named : (cs : List Child) → ((c : Child) → Contains cs c → c.parents ≡ []) → first_with_parents cs ≡ None
none_named [] h = refl
none_named (c ∷ cs) h = ap (λ z. cond (has_some z) (Some c.token) (first_with_parents cs)) (h c (in_head c cs)) ∙ none_named cs (λ d i. h d (in_tail c d cs i))

some_child : (cs : List Child) → cs ≢ [] → (c : Child) × Contains cs c
some_child [] h = absurd (h refl)
some_child (c ∷ cs) h = (c, in_head c cs)

has_one : (xs : List NewChild) (x : NewChild) → Contains xs x → has_none xs ≡ false
has_one [] x i = absurd (in_nil x i)
has_one (y ∷ xs) x i = refl

nothing_kept : (known : Known) (cs : List Change) → ((c : Change) → Contains cs c → ⊥) → keep known [] cs ≡ []
nothing_kept known [] h = refl
nothing_kept known (c ∷ cs) h = absurd (h c (in_head c cs))

module _ (f : Feed) (F : IsFeed f) (args : ReadArgs) (late : f.created ≤ args.start) (known : Known) (token : args.token ≡ None) (limits : Limits) where
  abbrev r : ℕ
  r = args.start

  each_apart : (done : List Step) (x : Step) → MayFollowFirst f r done x → Apart (children_in x) × ((a b : NewChild) → Contains (children done) a → Contains (children_in x) b → a.token ≢ b.token)
  each_apart done (Step.Record (Record.Change item)) M = absurd M.1
  each_apart done (Step.Record (Record.Heartbeat t)) M = absurd M.1
  each_apart done (Step.Closing closing) M = (tt, λ a b i j. absurd (in_nil b j))
  each_apart done (Step.Record (Record.Children item)) M = by M.1
    where
      by : MayOpen f r done item → Apart (map (new_child item.start) item.children) × ((a b : NewChild) → Contains (children done) a → Contains (map (new_child item.start) item.children) b → a.token ≢ b.token)
      by D = (
        apart_listed item.start item.children (pairs_from (λ (x y : Child). x.token ≢ y.token) item.children D.once),
        λ a b i j. let u = from_map (new_child item.start) b item.children j in λ g. D.new u.0 a u.1 i (g ∙ ap (λ (z : NewChild). z.token) u.2),
      )

  record Sound (done : List Step) : Type 0 where
    pub honest : Follows (MayFollowFirst f r) [] done
    pub tell : Tell known done (marks_of known done)

  module _ (done : List Step) (S : Sound done) where
    apart_all : Apart (children done)
    apart_all = all_apart (MayFollowFirst f r) each_apart done S.honest

    each_once : keep_children [] (children done) ≡ children done
    each_once = all_kept (children done) apart_all

    no_changes : (c : Change) → Contains (changes done) c → ⊥
    no_changes c i = let u = from_flat changes_in c done i in by u.0 u.1 u.2
      where
        by : (x : Step) → Contains done x → Contains (changes_in x) c → ⊥
        by (Step.Record (Record.Change item)) j h = (place (MayFollowFirst f r) [] done (Step.Record (Record.Change item)) S.honest j).may.1
        by (Step.Record (Record.Heartbeat t)) j h = in_nil c h
        by (Step.Record (Record.Children item)) j h = in_nil c h
        by (Step.Closing closing) j h = in_nil c h

    is_first : (b : NewChild) → Contains (children done) b → IsNewFirst f r b
    is_first b i = let u = from_flat children_in b done i in by u.0 u.1 u.2
      where
        listed : (item : ChildRecord) (before : List Step) → MayOpen f r before item → Contains (map (new_child item.start) item.children) b → IsNewFirst f r b
        listed item before D h =
            let c = from_map (new_child item.start) b item.children h in
            let v = D.child c.0 c.1 in
            record { part = v.part.0; live = v.part.1; same = c.2 ∙ (λ i. record { token = sym v.part.2 i; parents = v.parents i; start = D.start i }) }

        by : (x : Step) → Contains done x → Contains (children_in x) b → IsNewFirst f r b
        by (Step.Record (Record.Change item)) j h = absurd (in_nil b h)
        by (Step.Record (Record.Heartbeat t)) j h = absurd (in_nil b h)
        by (Step.Closing closing) j h = absurd (in_nil b h)
        by (Step.Record (Record.Children item)) j h = let p = place (MayFollowFirst f r) [] done (Step.Record (Record.Children item)) S.honest j in listed item p.before p.may.1 h

    few : (item : ChildRecord) → MayOpen f r done item → too_many (with_children (keep_children [] (children done)) item) ≡ None
    few item D =
        ap (λ z. too_many (with_children z item)) each_once
        ∙ few_kids f.parts F.few_parts (children done) (map (new_child item.start) item.children) apart_all (apart_listed item.start item.children (pairs_from (λ (x y : Child). x.token ≢ y.token) item.children D.once))
        (λ a b i j. let u = from_map (new_child item.start) b item.children j in λ g. D.new u.0 a u.1 i (g ∙ ap (λ (z : NewChild). z.token) u.2))
        (λ b i. let v = is_first b i in (v.part, v.live.there, sym (ap (λ (z : NewChild). z.token) v.same)))
        (λ b j. let u = from_map (new_child item.start) b item.children j in let v = D.child u.0 u.1 in (v.part.0, v.part.1.there, v.part.2 ∙ sym (ap (λ (z : NewChild). z.token) u.2)))

    right : (item : ChildRecord) → MayOpen f r done item → list_breach args (so_far known done) item ≡ None
    right item D =
        or_none (start_breach args (marks_of known done) item.start) _
        (map_none (Breach.ChildStart item.start) (start_offends args (marks_of known done) args.token item.start) (ap (λ z. start_offends args (marks_of known done) z item.start) token ∙ only_none (not (eqb item.start args.start)) args.start (not_from_true (eqb item.start args.start) (eq-eqb item.start args.start D.start))))
        (or_none (children_breach args.token (first_differing (so_far known done).children item.start item.children) item.children) (too_many (with_children (so_far known done).children item))
        (ap (λ z. children_breach z (first_differing (so_far known done).children item.start item.children) item.children) token
        ∙ map_none (λ token. Breach.ChildDiffers token token) (first_with_parents item.children) (none_named item.children (λ c i. (D.child c i).parents)))
        (few item D))

    add : (item : ChildRecord) → MayOpen f r done item → adds known (so_far known done) (Record.Children item) ≡ true
    add item D =
        let c = some_child item.children D.some in
        let few = D.few in
        let lists = S.tell.lists in
        and_from (has_new_child (keep_children [] (children done)) item.children) (ltb (marks_of known done).lists 8192)
        (ap (λ z. has_new_child z item.children) each_once
        ∙ some_any (λ c. not (is_listed (children done) c.token)) c.0 item.children c.1 (ap (λ z. not (is_some z)) (not_listed (children done) c.0.token (λ b i. D.new c.0 b c.1 i))))
        (lt-ltb (marks_of known done).lists 8192 (omega (arith, few, lists)))

    sound_more : (item : ChildRecord) → MayFollowFirst f r done (Step.Record (Record.Children item)) → Sound (done ++ Step.Record (Record.Children item) ∷ [])
    sound_more item M =
        record {
          honest = more (MayFollowFirst f r) done (Step.Record (Record.Children item)) S.honest M;
          tell = subst (λ z. Tell known (done ++ Step.Record (Record.Children item) ∷ []) z) (sym (marks_more known done (Step.Record (Record.Children item)))) (tell_list known done (marks_of known done) S.tell item);
        }

    module _ (M : MayFollowFirst f r done (Step.Closing Closing.Finished)) where
      closed_right : IsFaithfulFirst f (closed_by args (so_far known done) Closing.Finished)
      closed_right =
          record {
            changes = nothing_kept known (changes done) no_changes;
            ended = refl;
            children = λ x. subst (λ z. Contains z x ↔ IsNewFirst f r x) (sym each_once) (
              is_first x,
              λ (h : IsNewFirst f r x).
                  let b = M.1 h.part h.live in
                  let v = is_first b.0 b.1 in
                  let t : v.part.token ≡ h.part.token = sym (ap (λ (z : NewChild). z.token) v.same) ∙ b.2 in
                  let w : b.0 ≡ x = v.same ∙ ap (λ (z : List ℕ). record { token = z; parents = []; start = r }) t ∙ sym h.same in
                  subst (λ z. Contains (children done) z) w b.1,
            );
            once = subst (λ z. AllPairs (λ x y. x.token ≢ y.token) z) (sym each_once) (pairs_to (λ (x y : NewChild). x.token ≢ y.token) (children done) apart_all);
          }

      end_right : end_breach args known (so_far known done) Closing.Finished ≡ None
      end_right =
          let h = F.layout.held (record { bytes = [] }) r late in
          let b = M.1 h.0 (record { there = h.1; live = h.2.live }) in
          ap (λ z. end_breach_of args known (so_far known done) z Closing.Finished) token
          ∙ only_none (has_none (keep_children [] (children done))) (Breach.InitialWrong (marks_of known done).records (marks_of known done).records) (ap has_none each_once ∙ has_one (children done) b.0 b.1)

    step : (n : Tally) (item : ChildRecord) (xs : List Step) → MayFollowFirst f r done (Step.Record (Record.Children item)) → ((o : Tally) → SuitsFirst f args.token (outcome_behind args known limits (done ++ Step.Record (Record.Children item) ∷ []) o xs)) → SuitsFirst f args.token (outcome_behind args known limits done n (Step.Record (Record.Children item) ∷ xs))
    step n item xs M again =
        subst (λ o. SuitsFirst f args.token (or_breaks o (cond (adds known (so_far known done) (Record.Children item)) (outcome_behind args known limits (done ++ Step.Record (Record.Children item) ∷ []) (counted_in n (Record.Children item)) xs) (cond (leb 8192 (idled n).idle) Stalls (outcome_behind args known limits (done ++ Step.Record (Record.Children item) ∷ []) (idled n) xs))))) (sym (right item M.1))
        (subst (λ b. SuitsFirst f args.token (cond b (outcome_behind args known limits (done ++ Step.Record (Record.Children item) ∷ []) (counted_in n (Record.Children item)) xs) (cond (leb 8192 (idled n).idle) Stalls (outcome_behind args known limits (done ++ Step.Record (Record.Children item) ∷ []) (idled n) xs)))) (sym (add item M.1)) (again (counted_in n (Record.Children item))))

    finishes : (n : Tally) (xs : List Step) → MayFollowFirst f r done (Step.Closing Closing.Finished) → SuitsFirst f args.token (outcome_behind args known limits done n (Step.Closing Closing.Finished ∷ xs))
    finishes n xs M = subst (λ o. SuitsFirst f args.token (or_breaks o (Gives (closed_by args (so_far known done) Closing.Finished)))) (sym (end_right M)) (refl, closed_right M)

  gives : (done : List Step) (n : Tally) (xs : List Step) → Sound done → Follows (MayFollowFirst f r) done xs → SuitsFirst f args.token (outcome_behind args known limits done n xs)
  gives done n [] S H = tt
  gives done n (Step.Record (Record.Change item) ∷ xs) S H = absurd H.0.1
  gives done n (Step.Record (Record.Heartbeat t) ∷ xs) S H = absurd H.0.1
  gives done n (Step.Record (Record.Children item) ∷ xs) S H = step done S n item xs H.0 (λ o. gives (done ++ Step.Record (Record.Children item) ∷ []) o xs (sound_more done S item H.0) H.1)
  gives done n (Step.Closing Closing.Finished ∷ xs) S H = finishes done S n xs H.0
  gives done n (Step.Closing (Closing.CaughtUp t) ∷ xs) S H = absurd H.0.1
  gives done n (Step.Closing Closing.Cut ∷ xs) S H = absurd H.0.1

  pub first_faithful : (xs : List Step) → Follows (MayFollowFirst f r) [] xs → SuitsFirst f args.token (outcome_behind args known limits [] none_counted xs)
  first_faithful xs H = gives [] none_counted xs (record { honest = tt; tell = tell_none known }) H
