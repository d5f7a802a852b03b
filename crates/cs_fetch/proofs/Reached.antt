-- What the loop of `fetch` keeps: what becomes of all steps is what becomes of those that are left, from here.
use Rattle.std.proofs.Common.{◌≡◌, Bool, true, false, cond, List, [], ◌∷◌, ◌++◌, fold, Option, Some, None, refl, ap, ◌∙◌, sym, leb, append-nil, append_assoc}
use Rattle.std.proofs.lemmas.Grind.{flat_map-append}
use Rattle.cs_types.specs.declared.change.Change.{Change}
use Rattle.cs_records.specs.declared.records.Record.{Record}
use Rattle.cs_link.specs.declared.batch.Known.{Known}
use Rattle.cs_link.specs.declared.batch.Limits.{Limits}
use Rattle.cs_link.specs.declared.breach.Breach.{Breach}
use Rattle.cs_link.specs.declared.reading.Closing.{Closing}
use Rattle.cs_link.specs.declared.reading.ReadArgs.{ReadArgs}
use Rattle.cs_link.specs.declared.reading.Step.{Step}
use Rattle.cs_fetch.specs.declared.so_far.Marks.{Marks}
use Rattle.cs_fetch.specs.declared.so_far.SoFar.{SoFar}
use Rattle.cs_fetch.specs.declared.so_far.Tally.{Tally}
use Rattle.cs_fetch.specs.declared.taken.Went.{Went}
use Rattle.cs_fetch.specs.Breach.{record_breach, end_breach}
use Rattle.cs_fetch.specs.Fetch.{counted_in, idled, is_full, none_counted, Outcome, Gives, Breaks, Stalls, or_breaks, closed_by, filled, outcome_behind, outcome_of}
use Rattle.cs_fetch.specs.Keeping.{is_new, keep, keep_children}
use Rattle.cs_link.specs.Reading.{changes_in, children_in, changes, children}
use Rattle.cs_fetch.specs.SoFar.{marked, unmarked, marks_of, new_changes, new_children, so_far, adds, with_record}
use Rattle.cs_fetch.specs.Went.{went_of}
use Rattle.cs_fetch.proofs.Naming.{keep_more}

-- ---- one more step

pub changes_more : (xs : List Step) (x : Step) → changes (xs ++ x ∷ []) ≡ changes xs ++ changes_in x
changes_more xs x = flat_map-append changes_in xs (x ∷ []) ∙ ap (λ l. changes xs ++ l) (append-nil (changes_in x))

pub children_more : (xs : List Step) (x : Step) → children (xs ++ x ∷ []) ≡ children xs ++ children_in x
children_more xs x = flat_map-append children_in xs (x ∷ []) ∙ ap (λ l. children xs ++ l) (append-nil (children_in x))

fold_more : (m : Marks) (xs : List Step) (x : Step) → fold marked m (xs ++ x ∷ []) ≡ marked (fold marked m xs) x
fold_more m [] x = refl
fold_more m (y ∷ xs) x = fold_more (marked m y) xs x

pub marks_more : (known : Known) (xs : List Step) (x : Step) → marks_of known (xs ++ x ∷ []) ≡ marked (marks_of known xs) x
marks_more known xs x = fold_more (unmarked known) xs x

pub keep_all : (known : Known) (kept xs ys : List Change) → keep known kept (xs ++ ys) ≡ keep known (keep known kept xs) ys
keep_all known kept [] ys = refl
keep_all known kept (x ∷ xs) ys = keep_all known (cond (is_new known kept x) (kept ++ x ∷ []) kept) xs ys

new_more : (known : Known) (xs : List Step) (x : Step) → new_changes known (xs ++ x ∷ []) ≡ keep known (new_changes known xs) (changes_in x)
new_more known xs x = ap (keep known []) (changes_more xs x) ∙ keep_all known [] (changes xs) (changes_in x)

listed_more : (xs : List Step) (x : Step) → new_children (xs ++ x ∷ []) ≡ keep_children (new_children xs) (children_in x)
listed_more xs x = ap (keep_children []) (children_more xs x) ∙ keep_more [] (children xs) (children_in x)

pub so_far_more : (known : Known) (done : List Step) (item : Record) → so_far known (done ++ Step.Record item ∷ []) ≡ with_record known (so_far known done) item
so_far_more known done (Record.Change item) = λ i. record { marks = marks_more known done (Step.Record (Record.Change item)) i; changes = new_more known done (Step.Record (Record.Change item)) i; children = listed_more done (Step.Record (Record.Change item)) i }
so_far_more known done (Record.Heartbeat at) = λ i. record { marks = marks_more known done (Step.Record (Record.Heartbeat at)) i; changes = new_more known done (Step.Record (Record.Heartbeat at)) i; children = listed_more done (Step.Record (Record.Heartbeat at)) i }
so_far_more known done (Record.Children item) = λ i. record { marks = marks_more known done (Step.Record (Record.Children item)) i; changes = new_more known done (Step.Record (Record.Children item)) i; children = listed_more done (Step.Record (Record.Children item)) i }

-- ---- the loop

pub record IsReached (args : ReadArgs) (known : Known) (limits : Limits) (done : List Step) (s : SoFar) (tally : Tally) : Type 0 where
  pub state : s ≡ so_far known done
  pub all : (rest : List Step) → outcome_of args known limits (done ++ rest) ≡ outcome_behind args known limits done tally rest

pub reached_none : (args : ReadArgs) (known : Known) (limits : Limits) (s : SoFar) (tally : Tally) → s ≡ so_far known [] → tally ≡ none_counted → IsReached args known limits [] s tally
reached_none args known limits s tally h t = record { state = h; all = λ rest. ap (λ z. outcome_behind args known limits [] z rest) (sym t) }

module _ (args : ReadArgs) (known : Known) (limits : Limits) (done : List Step) (s : SoFar) (tally : Tally) (R : IsReached args known limits done s tally) where
  module _ (item : Record) where
    abbrev here : List Step → Option Breach → Bool → Outcome
    here rest breach b =
        or_breaks breach
        (cond b
        (cond (is_full limits (counted_in tally item) item) (Gives (filled args (so_far known (done ++ Step.Record item ∷ [])))) (outcome_behind args known limits (done ++ Step.Record item ∷ []) (counted_in tally item) rest))
        (cond (leb 8192 (idled tally).idle) Stalls (outcome_behind args known limits (done ++ Step.Record item ∷ []) (idled tally) rest)))

    abbrev by_went : List Step → Went → Outcome
    by_went rest (Went.Breaks breach) = Breaks breach
    by_went rest Went.Fills = Gives (filled args (so_far known (done ++ Step.Record item ∷ [])))
    by_went rest Went.Stalls = Stalls
    by_went rest (Went.On t) = outcome_behind args known limits (done ++ Step.Record item ∷ []) t rest

    is_by : (rest : List Step) (breach : Option Breach) (b : Bool) → here rest breach b ≡ by_went rest (went_of limits tally item breach b)
    is_by rest (Some x) b = refl
    is_by rest None true = by (is_full limits (counted_in tally item) item)
      where
        by : (z : Bool) → cond z (Gives (filled args (so_far known (done ++ Step.Record item ∷ [])))) (outcome_behind args known limits (done ++ Step.Record item ∷ []) (counted_in tally item) rest) ≡ by_went rest (cond z Went.Fills (Went.On (counted_in tally item)))
        by true = refl
        by false = refl
    is_by rest None false = by (leb 8192 (idled tally).idle)
      where
        by : (z : Bool) → cond z Stalls (outcome_behind args known limits (done ++ Step.Record item ∷ []) (idled tally) rest) ≡ by_went rest (cond z Went.Stalls (Went.On (idled tally)))
        by true = refl
        by false = refl

    abbrev Turns : Went → Type 0
    Turns w = w ≡ went_of limits tally item (record_breach args s item) (adds known s item)

    went : (w : Went) → Turns w → (rest : List Step) → outcome_of args known limits ((done ++ Step.Record item ∷ []) ++ rest) ≡ by_went rest w
    went w h rest =
        ap (outcome_of args known limits) (append_assoc done (Step.Record item ∷ []) rest) ∙ R.all (Step.Record item ∷ rest)
        ∙ is_by rest (record_breach args (so_far known done) item) (adds known (so_far known done) item)
        ∙ ap (by_went rest) (ap (λ z. went_of limits tally item (record_breach args z item) (adds known z item)) (sym R.state) ∙ sym h)

    last : (w : Went) → Turns w → outcome_of args known limits (done ++ Step.Record item ∷ []) ≡ by_went [] w
    last w h = ap (outcome_of args known limits) (sym (append-nil (done ++ Step.Record item ∷ []))) ∙ went w h []

    on_right : (t : Tally) (o : Option Breach) (b : Bool) → Went.On t ≡ went_of limits tally item o b → o ≡ None
    on_right t None b h = refl
    on_right t (Some x) b h = cc

    fills_right : (o : Option Breach) (b : Bool) → Went.Fills ≡ went_of limits tally item o b → o ≡ None
    fills_right None b h = refl
    fills_right (Some x) b h = cc

    after_is : (after : SoFar) → after ≡ with_record known s item → after ≡ so_far known (done ++ Step.Record item ∷ [])
    after_is after a = a ∙ ap (λ z. with_record known z item) R.state ∙ sym (so_far_more known done item)

    pub reached_on : (t : Tally) (after : SoFar) → Went.On t ≡ went_of limits tally item (record_breach args s item) (adds known s item) → (record_breach args s item ≡ None → after ≡ with_record known s item) → IsReached args known limits (done ++ Step.Record item ∷ []) after t
    reached_on t after h a = record { state = after_is after (a (on_right t (record_breach args s item) (adds known s item) h)); all = went (Went.On t) h }

    pub stops_full : (after : SoFar) → Went.Fills ≡ went_of limits tally item (record_breach args s item) (adds known s item) → (record_breach args s item ≡ None → after ≡ with_record known s item) → outcome_of args known limits (done ++ Step.Record item ∷ []) ≡ Gives (filled args after)
    stops_full after h a = last Went.Fills h ∙ ap (λ z. Gives (filled args z)) (sym (after_is after (a (fills_right (record_breach args s item) (adds known s item) h))))

    pub stops_stalled : Went.Stalls ≡ went_of limits tally item (record_breach args s item) (adds known s item) → outcome_of args known limits (done ++ Step.Record item ∷ []) ≡ Stalls
    stops_stalled h = last Went.Stalls h

    pub stops_breaks : (breach : Breach) → Went.Breaks breach ≡ went_of limits tally item (record_breach args s item) (adds known s item) → outcome_of args known limits (done ++ Step.Record item ∷ []) ≡ Breaks breach
    stops_breaks breach h = last (Went.Breaks breach) h

  module _ (closing : Closing) where
    ending : (o : Option Breach) → end_breach args known s closing ≡ o → outcome_of args known limits (done ++ Step.Closing closing ∷ []) ≡ or_breaks o (Gives (closed_by args s closing))
    ending o h =
        R.all (Step.Closing closing ∷ []) ∙ ap (λ z. or_breaks (end_breach args known z closing) (Gives (closed_by args z closing))) (sym R.state)
        ∙ ap (λ z. or_breaks z (Gives (closed_by args s closing))) h

    pub stops_closed : end_breach args known s closing ≡ None → outcome_of args known limits (done ++ Step.Closing closing ∷ []) ≡ Gives (closed_by args s closing)
    stops_closed h = ending None h

    pub end_breaks : (breach : Breach) → end_breach args known s closing ≡ Some breach → outcome_of args known limits (done ++ Step.Closing closing ∷ []) ≡ Breaks breach
    end_breaks breach h = ending (Some breach) h
