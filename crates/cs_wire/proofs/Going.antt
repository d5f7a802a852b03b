-- A READ on its way, from call to call.
use Rattle.std.proofs.Common.{◌≡◌, ◌∙◌, sym, ap, subst, refl, ℕ, ◌+◌, ◌-◌, ◌≤◌, Bool, true, false, true≢false, ◌||◌, List, [], ◌∷◌, ◌++◌, length, take, drop, arith, Some, None, Ok, Err}
use Rattle.std.proofs.Math.Logic.{∥∥₁_elim, ∥∥₁_prop, ∥∥₁_map}
use Rattle.std.specs.Coded.{Coded-set, coded_ℕ, coded_bool, coded_list, coded_option, le_prop}
use Rattle.std.specs.declared.option.Option.{Option}
use Rattle.std.specs.declared.result.Result.{Result}
use Rattle.cs_link.specs.declared.reading.ReadArgs.{ReadArgs}
use Rattle.cs_link.specs.declared.refusal.LinkAnswer.{LinkAnswer}
use Rattle.std.specs.Io.KnownBytes.{Appends, Consumes}
use Rattle.std.proofs.Math.Seq.{take-append_seam}
use Rattle.std.proofs.lemmas.List.{append_assoc, append-nil, length-append, take-append-le, drop-append-le}
use Rattle.cs_link.specs.declared.reading.Step.{Step}
use Rattle.cs_link.specs.Reading.{is_closing}
use Rattle.cs_wire.specs.Held.{ReadsMore}
use Rattle.cs_http.specs.Front.{IsHeadText}
use Rattle.cs_http.specs.Request.{request_text}
use Rattle.cs_wire.specs.Steps.{last_in, steps_in, has_closing}
use Rattle.cs_wire.specs.Taken.{TakesLine}
use Rattle.cs_wire.specs.Told.{SoFarRead, known, used, body, AskedSo, IsOnItsWay, IsUnclosed, IsGoingOn, IsGoing}
use Rattle.cs_wire.proofs.Cutting.{steps_more, last_more}

pub appends_some : (g bytes : List ℕ) (o : Option (List ℕ)) → Appends (Some g) o bytes → o ≡ Some (g ++ bytes)
appends_some g bytes None h = absurd h
appends_some g bytes (Some x) h = ap Some h

pub consumes_some : (r bytes : List ℕ) (o : Option (List ℕ)) → Consumes (Some r) o bytes → (o ≡ Some (known o)) × (r ≡ bytes ++ known o)
consumes_some r bytes None h = absurd h
consumes_some r bytes (Some x) h = (refl, h)

-- what is used is what stands before the bytes held
pub used_is : (xs held : List ℕ) → used (Some (xs ++ held)) held ≡ xs
used_is xs held =
    let size : length (xs ++ held) - length held ≡ length xs = omega (arith, length-append xs held) in
    ap (λ n. take n (xs ++ held)) size ∙ take-append_seam xs held

-- a READ that uses these bytes
pub goes : (text : List ℕ) (a : SoFarRead) (xs rest : List ℕ) → a.gone ≡ Some (xs ++ a.held) → a.left ≡ Some rest → text ≡ xs ++ a.held ++ rest
    → a.head ≤ length xs → ∥ IsHeadText (take a.head xs) 200 ∥₁ → last_in (drop a.head xs) ≡ [] → IsOnItsWay text a × (used a.gone a.held ≡ xs)
goes text a xs rest g l w fits h e =
    let same : used a.gone a.held ≡ xs = ap (λ o. used o a.held) g ∙ used_is xs a.held in
    let left : known a.left ≡ rest = ap known l in (
      record {
        gone_is = g ∙ ap (λ ys. Some (ys ++ a.held)) (sym same);
        left_is = l ∙ ap Some (sym left);
        whole = w ∙ ap (λ ys. ys ++ a.held ++ rest) (sym same) ∙ ap (λ ys. used a.gone a.held ++ a.held ++ ys) (sym left);
        fits = subst (λ (ys : List ℕ). a.head ≤ length ys) (sym same) fits;
        head_is = subst (λ (ys : List ℕ). ∥ IsHeadText (take a.head ys) 200 ∥₁) (sym same) h;
        ended = ap (λ ys. last_in (drop a.head ys)) same ∙ e;
      },
      same,
    )

-- bytes are read, and some of them are used
pub moves : (text : List ℕ) (a b : SoFarRead) (cut : List ℕ) → ReadsMore a.gone b.gone a.left b.left a.held (cut ++ b.held) → b.head ≡ a.head → IsOnItsWay text a → last_in (body a ++ cut) ≡ []
    → IsOnItsWay text b × (body b ≡ body a ++ cut)
moves text a b cut r same way e =
    let u : List ℕ = used a.gone a.held in
    let read : b.gone ≡ Some (u ++ a.held ++ r.bytes) = appends_some (u ++ a.held) r.bytes b.gone (subst (λ (o : Option (List ℕ)). Appends o b.gone r.bytes) way.gone_is r.read) in
    let left = consumes_some (known a.left) r.bytes b.left (subst (λ (o : Option (List ℕ)). Consumes o b.left r.bytes) way.left_is r.taken) in
    let turn : u ++ a.held ++ r.bytes ≡ u ++ cut ++ b.held = append_assoc u a.held r.bytes ∙ ap (λ ys. u ++ ys) (sym r.kept) ∙ sym (append_assoc u cut b.held) in
    let whole : text ≡ u ++ cut ++ b.held ++ known b.left =
    way.whole ∙ ap (λ ys. u ++ a.held ++ ys) left.1 ∙ sym (append_assoc (u ++ a.held) r.bytes (known b.left)) ∙ ap (λ ys. ys ++ known b.left) turn in
    let fits : a.head ≤ length (u ++ cut) = omega (arith, way.fits, length-append u cut) in
    let front : take a.head (u ++ cut) ≡ take a.head u = take-append-le a.head u cut way.fits in
    let behind : drop a.head (u ++ cut) ≡ body a ++ cut = drop-append-le a.head u cut way.fits in
    let made = goes text b (u ++ cut) (known b.left) (read ∙ ap Some turn) left.0 whole
    (subst (λ (n : ℕ). n ≤ length (u ++ cut)) (sym same) fits)
    (subst (λ (n : ℕ). ∥ IsHeadText (take n (u ++ cut)) 200 ∥₁) (sym same) (subst (λ (ys : List ℕ). ∥ IsHeadText ys 200 ∥₁) (sym front) way.head_is))
    (ap (λ n. last_in (drop n (u ++ cut))) same ∙ ap last_in behind ∙ e) in
    (made.0, ap (λ ys. drop b.head ys) made.1 ∙ ap (λ n. drop n (u ++ cut)) same ∙ behind)

-- bytes are read alone
pub reads_on : (text : List ℕ) (a b : SoFarRead) → ReadsMore a.gone b.gone a.left b.left a.held b.held → b.head ≡ a.head → IsOnItsWay text a → IsOnItsWay text b × (body b ≡ body a)
reads_on text a b r same way =
    let m = moves text a b [] r same way (ap last_in (append-nil (body a)) ∙ way.ended) in
    (m.0, m.1 ∙ append-nil (body a))

-- a line is taken
pub takes_on : (text : List ℕ) (a b : SoFarRead) (step : Step) → TakesLine a.gone b.gone a.left b.left a.held b.held step → b.head ≡ a.head → IsOnItsWay text a
    → IsOnItsWay text b × (steps_in (body b) ≡ steps_in (body a) ++ step ∷ [])
takes_on text a b step t same way =
    let cut : List ℕ = t.line ++ 10 ∷ [] in
    let read = subst (λ (ys : List ℕ). ReadsMore a.gone b.gone a.left b.left a.held ys) (sym (append_assoc t.line (10 ∷ []) b.held)) t.read in
    let m = moves text a b cut read same way (last_more (body a) t.line way.ended t.whole) in
    (m.0, ap steps_in m.1 ∙ steps_more (body a) t.line step way.ended t.whole t.stands)

-- ---- what is kept as a fact alone is known as it was

numbers_set : (xs ys : List ℕ) → IsProp (xs ≡ ys)
numbers_set xs ys = Coded-set (coded_list coded_ℕ) xs ys

known_set : (xs ys : Option (List ℕ)) → IsProp (xs ≡ ys)
known_set xs ys = Coded-set (coded_option (coded_list coded_ℕ)) xs ys

pub plain_way : (text : List ℕ) (a : SoFarRead) → ∥ IsOnItsWay text a ∥₁ → IsOnItsWay text a
plain_way text a h =
    record {
      gone_is = ∥∥₁_elim h (known_set _ _) (λ w. w.gone_is);
      left_is = ∥∥₁_elim h (known_set _ _) (λ w. w.left_is);
      whole = ∥∥₁_elim h (numbers_set _ _) (λ w. w.whole);
      fits = ∥∥₁_elim h le_prop (λ w. w.fits);
      head_is = ∥∥₁_elim h ∥∥₁_prop (λ w. w.head_is);
      ended = ∥∥₁_elim h (numbers_set _ _) (λ w. w.ended);
    }

bits_set : (x y : Bool) → IsProp (x ≡ y)
bits_set x y = Coded-set coded_bool x y

number_set : (x y : ℕ) → IsProp (x ≡ y)
number_set x y = Coded-set coded_ℕ x y

plain_unclosed : (text : List ℕ) (given : ℕ) (a : SoFarRead) → ∥ IsUnclosed text given a ∥₁ → IsUnclosed text given a
plain_unclosed text given a h =
    record {
      way = plain_way text a (∥∥₁_map h (λ w. w.way));
      unclosed = ∥∥₁_elim h (bits_set _ _) (λ w. w.unclosed);
      count = ∥∥₁_elim h (number_set _ _) (λ w. w.count);
    }

plain_on : (answer : List ℕ → List ℕ) (args : ReadArgs) (opened : Result (Unit {0}) LinkAnswer) (given : ℕ) (a : SoFarRead) → ∥ IsGoingOn answer args opened given a ∥₁ → IsGoingOn answer args opened given a
plain_on answer args (Ok u) given a h = plain_unclosed (answer (request_text args)) given a h
plain_on answer args (Err e) given a h = ∥∥₁_elim h (λ x y. absurd x) (λ x. x)

pub plain_going : (answer : List ℕ → List ℕ) (asked : Option AskedSo) (a : Option SoFarRead) (stopped : Option LinkAnswer) (given : ℕ) → ∥ IsGoing answer asked a stopped given ∥₁ → IsGoing answer asked a stopped given
plain_going answer None a stopped given h = ∥∥₁_elim h (λ x y. absurd x) (λ x. x)
plain_going answer (Some asked) None stopped given h = ∥∥₁_elim h (λ x y. absurd x) (λ x. x)
plain_going answer (Some asked) (Some a) (Some e) given h = ∥∥₁_elim h (λ x y. absurd x) (λ x. x)
plain_going answer (Some asked) (Some a) None given h = plain_on answer asked.args asked.opened given a h

-- ---- none of the steps that were given is a closing

or_false : (a b : Bool) → (a || b) ≡ false → (a ≡ false) × (b ≡ false)
or_false true b e = absurd (true≢false e)
or_false false b e = (refl, e)

neither : (a b : Bool) → a ≡ false → b ≡ false → (a || b) ≡ false
neither a b e f = ap (λ c. c || b) e ∙ f

pub no_more_closing : (steps : List Step) (step : Step) → has_closing steps ≡ false → is_closing step ≡ false → has_closing (steps ++ step ∷ []) ≡ false
no_more_closing [] step h e = neither (is_closing step) false e refl
no_more_closing (x ∷ steps) step h e =
    let both = or_false (is_closing x) (has_closing steps) h in
    neither (is_closing x) (has_closing (steps ++ step ∷ [])) both.0 (no_more_closing steps step both.1 e)

-- a line that is no closing was taken
pub takes_one : (text : List ℕ) (given now_given : ℕ) (a b : SoFarRead) (step : Step) → TakesLine a.gone b.gone a.left b.left a.held b.held step → b.head ≡ a.head → is_closing step ≡ false → now_given ≡ given + 1 → IsUnclosed text given a → IsUnclosed text now_given b
takes_one text given now_given a b step t same open_ more u =
    let now = takes_on text a b step t same u.way in
    record {
      way = now.0;
      unclosed = ap has_closing now.1 ∙ no_more_closing (steps_in (body a)) step u.unclosed open_;
      count = ap length now.1 ∙ omega (arith, length-append (steps_in (body a)) (step ∷ []), u.count, more);
    }

-- bytes were read alone
pub reads_alone : (text : List ℕ) (given : ℕ) (a b : SoFarRead) → ReadsMore a.gone b.gone a.left b.left a.held b.held → b.head ≡ a.head → IsUnclosed text given a → IsUnclosed text given b
reads_alone text given a b r same u =
    let now = reads_on text a b r same u.way in
    record {
      way = now.0;
      unclosed = ap (λ ys. has_closing (steps_in ys)) now.1 ∙ u.unclosed;
      count = ap (λ ys. length (steps_in ys)) now.1 ∙ u.count;
    }
