-- What contracts see of a link over a state before and after a call, by what it keeps.
use Rattle.std.proofs.Common.{◌≡◌, ◌≢◌, ℕ, ◌+◌, ◌-◌, Bool, true, false, not, List, [], ◌∷◌, ◌++◌, length, Option, None, Some, IfSome, slice_get, refl, sym, ap, subst, ◌∙◌, append_assoc, length-append, true≢false, arith}
use Rattle.std.specs.Prelude.{Ok}
use Rattle.std.proofs.Math.Seq.{get_or-append_seam}
use Rattle.std.proofs.lemmas.Option.{slice_get-get_or}
use Rattle.cs_types.specs.Stamp.{IsStamp}
use Rattle.cs_link.specs.declared.reading.ReadArgs.{ReadArgs}
use Rattle.cs_link.specs.declared.reading.Step.{Step}
use Rattle.cs_link.specs.declared.refusal.ReadRefusal.{ReadRefusal}
use Rattle.cs_link.specs.Causes.{counted}
use Rattle.cs_link.specs.Reading.{is_closing}
use Rattle.cs_script.specs.Database.{Database}
use Rattle.cs_read.specs.declared.reading.Reading.{Reading}
use Rattle.cs_read.specs.Content.{Content, IsReading, steps_ahead}
use Rattle.cs_read.specs.Answers.{stream_steps}
use Rattle.cs_read.specs.Honest.{IsState, given_as}
use Rattle.cs_server.specs.declared.kept.Kept.{Kept}
use Rattle.cs_server.specs.declared.kept.Opening.{Opening}
use Rattle.cs_server.specs.Going.{IsKeptIndex, IsGoing, HasGiven, HasMore, IsBegun, IsOpening, IsLink, content_at, left_of, link_of}
use Rattle.cs_server.specs.State.{last_of, answer_to, next_step, is_taken, after_open, after_step}
use Rattle.cs_server.specs.Typed.{place_named, read_at, read_typed, refusal_to, refusal_of, steps_of, steps_given}
use Rattle.cs_server.proofs.Ends.{ends, ends_with, not_empty, stream_ends, answer_ends}

-- the element between two lists
at_seam : {A : Type 0} (xs : List A) (x : A) (ys : List A) → slice_get (xs ++ x ∷ ys) (length xs) ≡ Some x
at_seam xs x ys = slice_get-get_or (xs ++ x ∷ ys) (length xs) x (omega (arith, length-append xs (x ∷ ys))) ∙ ap (λ y. Some y) (get_or-append_seam xs x ys x)

last_push : (asked : List ReadArgs) (args : ReadArgs) → last_of (asked ++ args ∷ []) ≡ Some args
last_push asked args =
    let end : length (asked ++ args ∷ []) - 1 ≡ length asked = omega (arith, length-append asked (args ∷ [])) in
    ap (λ n. slice_get (asked ++ args ∷ []) n) end ∙ at_seam asked args []

-- ---- the steps over an index

-- it gives a step
pub gives_step : (db : Database) (all : List Step) (kept : Option Kept) (before : Option Reading) (k : Kept) (r now : Reading) (c : Content) (step : Step) → kept ≡ Some k → before ≡ Some r → c ≡ content_at db k.place → IsReading c now → steps_ahead c r ≡ step ∷ steps_ahead c now
    → IsGoing db all kept before → HasGiven db all kept before (Some now) step
gives_step db all kept before k r now c step kept_is before_is c_is holds gives g =
    let was : left_of db kept before ≡ steps_ahead (content_at db k.place) r = λ i. left_of db (kept_is i) (before_is i) in
    let left : left_of db kept (Some now) ≡ steps_ahead (content_at db k.place) now = ap (λ (o : Option Kept). left_of db o (Some now)) kept_is in
    let moved : steps_ahead (content_at db k.place) r ≡ step ∷ steps_ahead (content_at db k.place) now = subst (λ (x : Content). steps_ahead x r ≡ step ∷ steps_ahead x now) c_is gives in
    let is : left_of db kept before ≡ step ∷ left_of db kept (Some now) = was ∙ moved ∙ ap (λ (l : List Step). step ∷ l) (sym left) in
    record {
      going = record {
        index = k;
        reading = now;
        kept_is = kept_is;
        going_is = refl;
        holds = subst (λ (x : Content). IsReading x now) c_is holds;
        front = g.front ++ step ∷ [];
        all_is = append_assoc g.front (step ∷ []) (left_of db kept (Some now)) ∙ ap (λ (l : List Step). g.front ++ l) (sym is) ∙ g.all_is;
      };
      step_is = is;
    }

-- ---- an `open`

-- a READ over an index that it begins is not refused, and is to give all of its steps
pub begun_is : (db : Database) (moment : ℕ) (args : ReadArgs) (at : ℕ) (k : Kept) (r : Reading) → place_named args.stream db.streams ≡ Some at → IsBegun db at args moment k r
    → (refusal_of db args moment ≡ None) × (steps_ahead (content_at db k.place) r ≡ steps_of db args moment)
begun_is db moment args at k r named b = (
  ap (λ (o : Option ℕ). refusal_to (read_at db o args) moment) named ∙ b.taken,
  b.all_is ∙ ap (λ (o : Option ℕ). stream_steps db (read_at db o args) moment) (sym named),
)

module _ (db : Database) (moment caught_up : ℕ) (asked now : List ReadArgs) (args : ReadArgs) (push : now ≡ asked ++ args ∷ []) where
  answer_is : answer_to db moment (last_of now) ≡ steps_given db args moment
  answer_is = ap (λ (l : List ReadArgs). answer_to db moment (last_of l)) push ∙ ap (λ (o : Option ReadArgs). answer_to db moment o) (last_push asked args)

  -- one that is refused
  pub refused_view : (refusal : ReadRefusal) (kept : Option Kept) (going : Option Reading) (reading : Bool) → refusal_of db args moment ≡ Some refusal
      → link_of db moment caught_up now kept going false ≡ after_open (link_of db moment caught_up asked kept going reading) args
  refused_view refusal kept going reading e =
      let none : answer_to db moment (last_of now) ≡ [] = answer_is ∙ ap (λ (o : Option ReadRefusal). given_as o (steps_of db args moment)) e in
      let given : length (answer_to db moment (last_of now)) - length (left_of db kept going) ≡ 0 = omega (arith, ap (λ (l : List Step). length l) none) in
      let taken : false ≡ is_taken (refusal_of db args moment) = sym (ap is_taken e) in
      λ i. record { database = db; moment = moment; caught_up = caught_up; asked = push i; given = given i; reading = taken i }

  -- one that is taken
  module _ (none : refusal_of db args moment ≡ None) (k : Kept) (r : Reading) (all_is : steps_ahead (content_at db k.place) r ≡ steps_of db args moment) where
    all_given : answer_to db moment (last_of now) ≡ steps_of db args moment
    all_given = answer_is ∙ ap (λ (o : Option ReadRefusal). given_as o (steps_of db args moment)) none

    pub taken_view : (kept : Option Kept) (going : Option Reading) (reading : Bool) → link_of db moment caught_up now (Some k) (Some r) true ≡ after_open (link_of db moment caught_up asked kept going reading) args
    taken_view kept going reading =
        let given : length (answer_to db moment (last_of now)) - length (left_of db (Some k) (Some r)) ≡ 0 = omega (arith, ap (λ (l : List Step). length l) all_given, ap (λ (l : List Step). length l) all_is) in
        let taken : true ≡ is_taken (refusal_of db args moment) = sym (ap is_taken none) in
        λ i. record { database = db; moment = moment; caught_up = caught_up; asked = push i; given = given i; reading = taken i }

    pub taken_link : IsReading (content_at db k.place) r → IsState db → IsStamp moment → IsKeptIndex db k → IsLink db moment now (Some k) (Some r) true
    taken_link holds state stamp index = record {
      state = state;
      stamp = stamp;
      index = index;
      goes = λ e. record {
        is = record { index = k; reading = r; kept_is = refl; going_is = refl; holds = holds; front = []; all_is = all_is ∙ sym all_given };
        more = λ empty. not_empty (steps_of db args moment) (stream_ends db moment (read_typed db args) none) (sym all_is ∙ empty);
      };
    }

-- what an `open` makes, over the index that is kept or over another one
module _ (db : Database) (moment caught_up : ℕ) (asked now : List ReadArgs) (args : ReadArgs) (push : now ≡ asked ++ args ∷ []) (kept : Option Kept) where
  module _ (r : Reading) (made : IsOpening db (place_named args.stream db.streams) args moment kept (Opening.Again r)) where
    pub again_link : IsState db → IsStamp moment → IfSome kept (IsKeptIndex db) → IsLink db moment now kept (Some r) true
    again_link state stamp index =
        let t = begun_is db moment args made.1 made.0 r made.3 made.4 in
        let held : IfSome (Some made.0) (IsKeptIndex db) = subst (λ (o : Option Kept). IfSome o (IsKeptIndex db)) made.2 index in
        subst (λ (o : Option Kept). IsLink db moment now o (Some r) true) (sym made.2) (taken_link db moment caught_up asked now args push t.0 made.0 r t.1 made.4.holds state stamp held)

    pub again_view : (going : Option Reading) (reading : Bool) → (refusal_of db args moment ≡ None) × (link_of db moment caught_up now kept (Some r) true ≡ after_open (link_of db moment caught_up asked kept going reading) args)
    again_view going reading =
        let t = begun_is db moment args made.1 made.0 r made.3 made.4 in
        (t.0, subst (λ (o : Option Kept). link_of db moment caught_up now o (Some r) true ≡ after_open (link_of db moment caught_up asked kept going reading) args) (sym made.2) (taken_view db moment caught_up asked now args push t.0 made.0 r t.1 kept going reading))

  module _ (k : Kept) (r : Reading) (made : IsOpening db (place_named args.stream db.streams) args moment kept (Opening.Anew k r)) where
    pub anew_link : IsState db → IsStamp moment → IsLink db moment now (Some k) (Some r) true
    anew_link state stamp =
        let t = begun_is db moment args made.0 k r made.1 made.3 in
        taken_link db moment caught_up asked now args push t.0 k r t.1 made.3.holds state stamp made.2

    pub anew_view : (going : Option Reading) (reading : Bool) → (refusal_of db args moment ≡ None) × (link_of db moment caught_up now (Some k) (Some r) true ≡ after_open (link_of db moment caught_up asked kept going reading) args)
    anew_view going reading =
        let t = begun_is db moment args made.0 k r made.1 made.3 in
        (t.0, taken_view db moment caught_up asked now args push t.0 k r t.1 kept going reading)

-- ---- a `next`

module _ (all : List Step) (front : List Step) (before after : List Step) (step : Step) (all_is : front ++ before ≡ all) (step_is : before ≡ step ∷ after) where
  split : front ++ step ∷ after ≡ all
  split = ap (λ (l : List Step). front ++ l) (sym step_is) ∙ all_is

  place : length all - length before ≡ length front
  place = omega (arith, ap (λ (l : List Step). length l) all_is, length-append front before)

  -- it is the next step of all
  is_next : slice_get all (length all - length before) ≡ Some step
  is_next = ap (λ n. slice_get all n) place ∙ ap (λ (l : List Step). slice_get l (length front)) (sym split) ∙ at_seam front step after

  -- one step more was given
  one_more : length all - length after ≡ (length all - length before) + 1
  one_more = omega (arith, ap (λ (l : List Step). length l) all_is, length-append front before, ap (λ (l : List Step). length l) step_is)

  -- behind a step that is no end there is another
  goes_on : ends all ≡ true → is_closing step ≡ false → after ≢ []
  goes_on e open_step none =
      true≢false (sym e ∙ ap ends (sym split ∙ ap (λ (l : List Step). front ++ step ∷ l) none) ∙ ends_with front step ∙ open_step)

module _ (db : Database) (moment caught_up : ℕ) (asked : List ReadArgs) (kept : Option Kept) (before after : Option Reading) (step : Step) (old : HasMore db (answer_to db moment (last_of asked)) kept before) (gave : HasGiven db (answer_to db moment (last_of asked)) kept before after step) where
  pub given_next : (reading : Bool) → next_step (link_of db moment caught_up asked kept before reading) ≡ Some step
  given_next reading = is_next (answer_to db moment (last_of asked)) old.is.front (left_of db kept before) (left_of db kept after) step old.is.all_is gave.step_is

  pub given_view : (count : ℕ) (going reading : Bool) → count ≡ counted caught_up (Ok step) → going ≡ not (is_closing step) → link_of db moment count asked kept after going ≡ after_step (link_of db moment caught_up asked kept before reading) step
  given_view count going reading count_is going_is =
      let given = one_more (answer_to db moment (last_of asked)) old.is.front (left_of db kept before) (left_of db kept after) step old.is.all_is gave.step_is in
      λ i. record { database = db; moment = moment; caught_up = count_is i; asked = asked; given = given i; reading = going_is i }

  ended : ends (answer_to db moment (last_of asked)) ≡ true
  ended = answer_ends db moment (last_of asked) (λ none. old.more (last_part old.is.front (left_of db kept before) (old.is.all_is ∙ none)))
    where
      last_part : (xs ys : List Step) → xs ++ ys ≡ [] → ys ≡ []
      last_part [] ys e = e
      last_part (x ∷ xs) ys e = cc

  pub given_link : (going : Bool) → going ≡ not (is_closing step) → IsState db → IsStamp moment → IfSome kept (IsKeptIndex db) → IsLink db moment asked kept after going
  given_link going going_is state stamp index = record {
    state = state;
    stamp = stamp;
    index = index;
    goes = λ e. record {
      is = gave.going;
      more = goes_on (answer_to db moment (last_of asked)) old.is.front (left_of db kept before) (left_of db kept after) step old.is.all_is gave.step_is ended (open_step (is_closing step) (sym going_is ∙ e));
    };
  }
    where
      open_step : (b : Bool) → not b ≡ true → b ≡ false
      open_step true h = sym h
      open_step false h = refl
