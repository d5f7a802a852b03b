-- What a link tells of its present READ, from call to call.
use Rattle.std.proofs.Common.{◌≡◌, ◌∙◌, sym, ap, subst, refl, inr, ⊎_elim, true≢false, ℕ, ◌+◌, Bool, true, false, not, List, [], length, rules, Some, None, Ok, Err, IfSome}
use Rattle.std.proofs.Math.Logic.{∥∥₁_map}
use Rattle.std.specs.declared.option.Option.{Option}
use Rattle.std.specs.declared.result.Result.{Result}
use Rattle.cs_records.specs.declared.faults.LineFault.{LineFault}
use Rattle.cs_link.specs.declared.feed.Feed.{Feed}
use Rattle.cs_link.specs.declared.reading.ReadArgs.{ReadArgs}
use Rattle.cs_link.specs.declared.reading.Step.{Step}
use Rattle.cs_link.specs.declared.refusal.LinkAnswer.{LinkAnswer}
use Rattle.cs_link.specs.Calls.{Goes, Opens, IsThisOr, begun}
use Rattle.cs_link.specs.Honest.{IsHonest, IsHonestFor, HasHonestSteps}
use Rattle.cs_link.specs.Reading.{Read, is_closing}
use Rattle.cs_wire.specs.Answers.{IsHonestAnswerText}
use Rattle.cs_wire.specs.Opened.{IsBegun}
use Rattle.cs_http.specs.Request.{request_text}
use Rattle.cs_wire.specs.Taken.{TakesLine, IsStepAnswer}
use Rattle.cs_wire.specs.Told.{SoFarRead, AskedSo, body, steps_given, bad_line_of, read_told, present_told, IsOnItsWay, IsUnclosed, IsGoingOn, IsGoing, HasStepped, StepsOn}
use Rattle.cs_wire.specs.Steps.{steps_in, has_closing}
use Rattle.cs_wire.proofs.Going.{reads_on, takes_on, plain_going, takes_one, reads_alone}
use Rattle.cs_wire.proofs.Opening.{takes, answer_honest}
use Rattle.cs_wire.proofs.Telling.{honest_so, no_bad_line, no_long_line}

-- ---- on its way

stays_unclosed : (text : List ℕ) (given : ℕ) (a b : SoFarRead) (number before now : ℕ) (e : LinkAnswer) → IsStepAnswer a.gone b.gone a.left b.left a.held b.held number before now (Err e) → b.head ≡ a.head → IsUnclosed text given a → IsUnclosed text given b
stays_unclosed text given a b number before now LinkAnswer.Failed x same way = reads_alone text given a b x.0 same way
stays_unclosed text given a b number before now (LinkAnswer.Refused refusal) x same way = absurd x
stays_unclosed text given a b number before now (LinkAnswer.BadLine n fault) x same way = reads_alone text given a b x.0 same way
stays_unclosed text given a b number before now LinkAnswer.Memory x same way = reads_alone text given a b x same way

-- what holds of an answer on its way holds of it later
going_on : (answer : List ℕ → List ℕ) (asked : Option AskedSo) (a b : SoFarRead) (stopped : Option LinkAnswer) (given now_given : ℕ) → ((text : List ℕ) → IsUnclosed text given a → IsUnclosed text now_given b) → IsGoing answer asked (Some a) stopped given → IsGoing answer asked (Some b) stopped now_given
going_on answer None a b stopped given now_given f way = absurd way
going_on answer (Some asked) a b (Some e) given now_given f way = absurd way
going_on answer (Some asked) a b None given now_given f way = by asked.opened way
  where
    by : (opened : Result (Unit {0}) LinkAnswer) → IsGoingOn answer asked.args opened given a → IsGoingOn answer asked.args opened now_given b
    by (Ok u) w = f (answer (request_text asked.args)) w
    by (Err e) w = absurd w

is_not : (b : Bool) → not b ≡ true → b ≡ false
is_not true e = absurd (true≢false (sym e))
is_not false e = refl

-- what is kept is kept where a line was taken
pub step_took : (tells reading now_reading : Bool) (answer : List ℕ → List ℕ) (asked : Option AskedSo) (o : Option SoFarRead) (a b : SoFarRead) (stopped : Option LinkAnswer) (given now_given : ℕ) (step : Step)
    → o ≡ Some a → TakesLine a.gone b.gone a.left b.left a.held b.held step → b.head ≡ a.head → reading ≡ true → now_reading ≡ not (is_closing step) → now_given ≡ given + 1
    → ∥ (tells ≡ true → reading ≡ true → IsGoing answer asked o stopped given) ∥₁ → ∥ (tells ≡ true → now_reading ≡ true → IsGoing answer asked (Some b) stopped now_given) ∥₁
step_took tells reading now_reading answer asked o a b stopped given now_given step e x same r k more h =
    ∥∥₁_map h (λ f t s. going_on answer asked a b stopped given now_given (λ text u. takes_one text given now_given a b step x same (is_not (is_closing step) (sym k ∙ s)) more u) (subst (λ (p : Option SoFarRead). IsGoing answer asked p stopped given) e (f t r)))

-- and where none was
pub step_stayed : (tells reading : Bool) (answer : List ℕ → List ℕ) (asked : Option AskedSo) (o : Option SoFarRead) (a b : SoFarRead) (stopped : Option LinkAnswer) (given number before now : ℕ) (e : LinkAnswer)
    → o ≡ Some a → IsStepAnswer a.gone b.gone a.left b.left a.held b.held number before now (Err e) → b.head ≡ a.head
    → ∥ (tells ≡ true → reading ≡ true → IsGoing answer asked o stopped given) ∥₁ → ∥ (tells ≡ true → reading ≡ true → IsGoing answer asked (Some b) stopped given) ∥₁
step_stayed tells reading answer asked o a b stopped given number before now e i x same h =
    ∥∥₁_map h (λ f t r. going_on answer asked a b stopped given given (λ text u. stays_unclosed text given a b number before now e x same u) (subst (λ (p : Option SoFarRead). IsGoing answer asked p stopped given) i (f t r)))

-- what never fails later never fails behind a step
pub quiet_on : {L C : Type 0} (o : Option L) (l l2 : L) → o ≡ Some l → (conn : L → C) (same : C → C → Type 0) (faults : C → ℕ) → ((a b c : C) → same a b → same b c → same a c) → (T : Type 0) → same (conn l) (conn l2)
    → ∥ (T → IfSome o (λ x. (e : C) → same (conn x) e → faults e ≡ 0)) ∥₁ → ∥ (T → IfSome (Some l2) (λ x. (e : C) → same (conn x) e → faults e ≡ 0)) ∥₁
quiet_on {L} {C} o l l2 i conn same faults joins T s h =
    ∥∥₁_map h (λ f t k u. subst (λ (z : Option L). IfSome z (λ x. (e : C) → same (conn x) e → faults e ≡ 0)) i (f t) k (joins (conn l) (conn l2) k s u))

-- where the link tells and reads, its READ is on its way
pub is_going : (tells reading : Bool) (answer : List ℕ → List ℕ) (asked : Option AskedSo) (o : Option SoFarRead) (stopped : Option LinkAnswer) (n : ℕ) → ∥ (tells ≡ true → reading ≡ true → IsGoing answer asked o stopped n) ∥₁ → tells ≡ true → reading ≡ true → IsGoing answer asked o stopped n
is_going tells reading answer asked o stopped n h t r = plain_going answer asked o stopped n (∥∥₁_map h (λ f. f t r))

-- ---- the present READ

-- what the state is told to be after an answer
abbrev pub stops : Option LinkAnswer → Result Step LinkAnswer → Option LinkAnswer
stops stopped (Ok step) = stopped
stops stopped (Err e) = Some e

abbrev told : ReadArgs → ℕ → Option (ℕ × LineFault) → List Step → Option (Option Read)
told args m bad steps = Some (Some (record { args = args; moment = m; opened = Ok tt; steps = steps; bad_line = bad }))

-- the step that was given is added, or the bad line
goes_on : (text : List ℕ) (args : ReadArgs) (m : ℕ) (a b : SoFarRead) (result : Result Step LinkAnswer) → StepsOn a b result → IsOnItsWay text a
    → Goes (Some (read_told m (Some (record { args = args; opened = Ok tt })) (Some a) None)) (Some (read_told m (Some (record { args = args; opened = Ok tt })) (Some b) (stops None result))) result
goes_on text args m a b (Ok step) x way = ap (told args m None) (takes_on text a b step x.1 x.0 way).1
goes_on text args m a b (Err LinkAnswer.Failed) x way = ap (told args m None) (ap steps_in (reads_on text a b x.1.0 x.0 way).1)
goes_on text args m a b (Err (LinkAnswer.Refused refusal)) x way = absurd x.1
goes_on text args m a b (Err (LinkAnswer.BadLine n fault)) x way = ap (told args m (Some (n, fault))) (ap steps_in (reads_on text a b x.1.0 x.0 way).1)
goes_on text args m a b (Err LinkAnswer.Memory) x way = ap (told args m None) (ap steps_in (reads_on text a b x.1 x.0 way).1)

present_next : (answer : List ℕ → List ℕ) (tells : Bool) (m : ℕ) (asked : Option AskedSo) (o p : Option SoFarRead) (stopped : Option LinkAnswer) (n : ℕ) (result : Result Step LinkAnswer)
    → HasStepped o p result → (tells ≡ true → IsGoing answer asked o stopped n) → Goes (present_told tells m asked o stopped) (present_told tells m asked p (stops stopped result)) result
present_next answer false m asked o p stopped n result x way = tt
present_next answer true m asked None p stopped n result x way = absurd x
present_next answer true m asked (Some a) None stopped n result x way = absurd x
present_next answer true m None (Some a) (Some b) stopped n result x way = absurd (way refl)
present_next answer true m (Some asked) (Some a) (Some b) (Some e) n result x way = absurd (way refl)
present_next answer true m (Some asked) (Some a) (Some b) None n result x way = by asked.opened refl (way refl)
  where
    by : (opened : Result (Unit {0}) LinkAnswer) → asked.opened ≡ opened → IsGoingOn answer asked.args opened n a
        → Goes (present_told true m (Some asked) (Some a) None) (present_told true m (Some asked) (Some b) (stops None result)) result
    by (Ok u) e w = subst (λ (y : Result (Unit {0}) LinkAnswer). Goes (Some (read_told m (Some (record { args = asked.args; opened = y })) (Some a) None)) (Some (read_told m (Some (record { args = asked.args; opened = y })) (Some b) (stops None result))) result) (sym e) (goes_on (answer (request_text asked.args)) asked.args m a b result x w.way)
    by (Err f) e w = absurd w

same_told : (t t2 : Bool) (m m2 : ℕ) (q q2 : Option AskedSo) (p : Option SoFarRead) (s s2 : Option LinkAnswer) → t2 ≡ t → m2 ≡ m → q2 ≡ q → s2 ≡ s → present_told t2 m2 q2 p s2 ≡ present_told t m q p s
same_told t t2 m m2 q q2 p s s2 a b c d =
    ap (λ x. present_told x m2 q2 p s2) a ∙ ap (λ x. present_told t x q2 p s2) b ∙ ap (λ x. present_told t m x p s2) c ∙ ap (λ x. present_told t m q p x) d

-- `next` adds its step, or its bad line, to the READ
pub next_present : (answer : List ℕ → List ℕ) (t t2 r : Bool) (m m2 : ℕ) (q q2 : Option AskedSo) (o p : Option SoFarRead) (s s2 : Option LinkAnswer) (n : ℕ) (given result : Result Step LinkAnswer)
    → t2 ≡ t → m2 ≡ m → q2 ≡ q → s2 ≡ stops s result → given ≡ result → HasStepped o p given → r ≡ true → ∥ (t ≡ true → r ≡ true → IsGoing answer q o s n) ∥₁
    → Goes (present_told t m q o s) (present_told t2 m2 q2 p s2) result
next_present answer t t2 r m m2 q q2 o p s s2 n given result a b c d e x k h =
    subst (λ (z : Option (Option Read)). Goes (present_told t m q o s) z result) (sym (same_told t t2 m m2 q q2 p (stops s result) s2 a b c d))
    (present_next answer t m q o p s n result (subst (λ (z : Result Step LinkAnswer). HasStepped o p z) e x) (λ v. is_going t r answer q o s n h v k))

-- ---- honesty

-- the dialer's law, for what it tells of feeds
abbrev pub IsLaw : Bool → ℕ → (List ℕ → Option Feed) → (List ℕ → List ℕ) → Type 0
IsLaw t m told answer = (args : ReadArgs) (f : Feed) → t ≡ true → told args.stream ≡ Some f → IsHonestAnswerText f args m (answer (request_text args))

honest_after : (f : Feed) (args : ReadArgs) (m : ℕ) (text : List ℕ) (a b : SoFarRead) (result : Result Step LinkAnswer) → IsHonestAnswerText f args m text → StepsOn a b result → IsOnItsWay text a
    → IsHonest f (record { args = args; moment = m; opened = Ok tt; steps = steps_in (body b); bad_line = bad_line_of (stops None result) })
honest_after f args m text a b (Ok step) h x way = honest_so f args m text b h (takes_on text a b step x.1 x.0 way).0
honest_after f args m text a b (Err LinkAnswer.Failed) h x way = honest_so f args m text b h (reads_on text a b x.1.0 x.0 way).0
honest_after f args m text a b (Err (LinkAnswer.Refused refusal)) h x way = absurd x.1
honest_after f args m text a b (Err (LinkAnswer.BadLine n fault)) h x way =
    let now = (reads_on text a b x.1.0 x.0 way).0 in
    absurd (⊎_elim (no_bad_line f args m text b fault h now) (λ y. no_long_line f args m text b h now y.1) x.1.1)
honest_after f args m text a b (Err LinkAnswer.Memory) h x way = honest_so f args m text b h (reads_on text a b x.1 x.0 way).0

honest_next : (answer : List ℕ → List ℕ) (t : Bool) (m : ℕ) (q : Option AskedSo) (o p : Option SoFarRead) (s : Option LinkAnswer) (n : ℕ) (result : Result Step LinkAnswer) (told : List ℕ → Option Feed) → IsLaw t m told answer
    → HasStepped o p result → (t ≡ true → IsGoing answer q o s n) → (stream : List ℕ) → IsHonestFor stream (told stream) (present_told t m q o s) → IsHonestFor stream (told stream) (present_told t m q p (stops s result))
honest_next answer false m q o p s n result told law x way stream was = absurd (search (rules, was.presents))
honest_next answer true m q None p s n result told law x way stream was = absurd x
honest_next answer true m q (Some a) None s n result told law x way stream was = absurd x
honest_next answer true m None (Some a) (Some b) s n result told law x way stream was = absurd (way refl)
honest_next answer true m (Some asked) (Some a) (Some b) (Some e) n result told law x way stream was = absurd (way refl)
honest_next answer true m (Some asked) (Some a) (Some b) None n result told law x way stream was =
    record { feed = was.feed; tells = was.tells; is_feed = was.is_feed; read = read_told m (Some asked) (Some b) (stops None result); presents = refl; honest = λ e. by e asked.opened (way refl) }
  where
    by : asked.args.stream ≡ stream → (opened : Result (Unit {0}) LinkAnswer) → IsGoingOn answer asked.args opened n a
        → IsHonest was.feed (record { args = asked.args; moment = m; opened = opened; steps = steps_given opened (Some b); bad_line = bad_line_of (stops None result) })
    by e (Ok u) w = honest_after was.feed asked.args m (answer (request_text asked.args)) a b result (law asked.args was.feed refl (ap told e ∙ was.tells)) x w.way
    by e (Err f) w = absurd w

-- a link that was honest is honest after `next`
pub next_honest : (answer : List ℕ → List ℕ) (t t2 r : Bool) (m m2 : ℕ) (q q2 : Option AskedSo) (o p : Option SoFarRead) (s s2 : Option LinkAnswer) (n : ℕ) (given result : Result Step LinkAnswer) (told told2 : List ℕ → Option Feed) → IsLaw t m told answer
    → t2 ≡ t → m2 ≡ m → q2 ≡ q → s2 ≡ stops s result → given ≡ result → HasStepped o p given → r ≡ true → ∥ (t ≡ true → r ≡ true → IsGoing answer q o s n) ∥₁
    → ((stream : List ℕ) → told2 stream ≡ told stream) → (stream : List ℕ) → IsHonestFor stream (told stream) (present_told t m q o s) → IsHonestFor stream (told2 stream) (present_told t2 m2 q2 p s2)
next_honest answer t t2 r m m2 q q2 o p s s2 n given result told told2 law a b c d e x k h feeds stream was =
    let now = honest_next answer t m q o p s n result told law (subst (λ (z : Result Step LinkAnswer). HasStepped o p z) e x) (λ v. is_going t r answer q o s n h v k) stream was in
    subst (λ (z : Option Feed). IsHonestFor stream z (present_told t2 m2 q2 p s2)) (sym (feeds stream))
    (subst (λ (z : Option (Option Read)). IsHonestFor stream (told stream) z) (sym (same_told t t2 m m2 q q2 p (stops s result) s2 a b c d)) now)

-- ---- `open`

no_steps : (f : Feed) (args : ReadArgs) (m : ℕ) (opened : Result (Unit {0}) LinkAnswer) (token : Option (List ℕ)) → HasHonestSteps f (record { args = args; moment = m; opened = opened; steps = []; bad_line = None }) token
no_steps f args m opened None = tt
no_steps f args m opened (Some token) = λ p i e. tt

began_honest : (f : Feed) (args : ReadArgs) (m : ℕ) (text : List ℕ) (p : Option SoFarRead) (result : Result (Unit {0}) LinkAnswer) → IsHonestAnswerText f args m text → IsBegun text p result
    → IsHonest f (record { args = args; moment = m; opened = result; steps = steps_given result p; bad_line = None })
began_honest f args m text None (Ok u) h x = absurd x
began_honest f args m text None (Err LinkAnswer.Failed) h x = record { answer = tt; steps = no_steps f args m (Err LinkAnswer.Failed) args.token; lines = refl }
began_honest f args m text None (Err (LinkAnswer.Refused refusal)) h x = absurd x
began_honest f args m text None (Err (LinkAnswer.BadLine number fault)) h x = absurd x
began_honest f args m text None (Err LinkAnswer.Memory) h x = record { answer = tt; steps = no_steps f args m (Err LinkAnswer.Memory) args.token; lines = refl }
began_honest f args m text (Some a) (Ok u) h x = honest_so f args m text a h (takes text a x.gone x.left x.fresh x.opened).0
began_honest f args m text (Some a) (Err e) h x = record { answer = answer_honest f args m text a x.gone x.left h x.fresh x.before (Err e) x.opened; steps = no_steps f args m (Err e) args.token; lines = refl }

-- a link that was honest is honest after `open`
pub open_honest : (answer : List ℕ → List ℕ) (t t2 : Bool) (m m2 : ℕ) (q : Option AskedSo) (o p : Option SoFarRead) (s : Option LinkAnswer) (args : ReadArgs) (given result : Result (Unit {0}) LinkAnswer) (told told2 : List ℕ → Option Feed) → IsLaw t2 m2 told2 answer
    → t2 ≡ t → given ≡ result → (t2 ≡ true → IsBegun (answer (request_text args)) p given)
    → ((stream : List ℕ) → told2 stream ≡ told stream) → (stream : List ℕ) → IsHonestFor stream (told stream) (present_told t m q o s) → IsHonestFor stream (told2 stream) (present_told t2 m2 (Some (record { args = args; opened = given })) p None)
open_honest answer false t2 m m2 q o p s args given result told told2 law a e x feeds stream was = absurd (search (rules, was.presents))
open_honest answer true t2 m m2 q o p s args given result told told2 law a e x feeds stream was =
    subst (λ (z : Bool). IsHonestFor stream (told2 stream) (present_told z m2 (Some (record { args = args; opened = given })) p None)) (sym a)
    (record {
      feed = was.feed;
      tells = feeds stream ∙ was.tells;
      is_feed = was.is_feed;
      read = read_told m2 (Some (record { args = args; opened = given })) p None;
      presents = refl;
      honest = λ k. began_honest was.feed args m2 (answer (request_text args)) p given (law args was.feed a (feeds args.stream ∙ ap told k ∙ was.tells)) (x a);
    })

no_steps_yet : (text : List ℕ) (p : Option SoFarRead) (result : Result (Unit {0}) LinkAnswer) → IsBegun text p result → steps_given result p ≡ []
no_steps_yet text None (Ok u) x = absurd x
no_steps_yet text (Some a) (Ok u) x = ap steps_in (takes text a x.gone x.left x.fresh x.opened).1
no_steps_yet text p (Err e) x = refl

this_or : {A : Type 0} (before this after : A) (result : Result (Unit {0}) LinkAnswer) → after ≡ this → IsThisOr before this after result
this_or before this after (Ok u) e = e
this_or before this after (Err LinkAnswer.Failed) e = e
this_or before this after (Err (LinkAnswer.Refused refusal)) e = e
this_or before this after (Err (LinkAnswer.BadLine number fault)) e = e
this_or before this after (Err LinkAnswer.Memory) e = inr e

-- `open` begins a READ with these arguments
pub open_present : (answer : List ℕ → List ℕ) (t t2 : Bool) (m m2 : ℕ) (q : Option AskedSo) (o p : Option SoFarRead) (s : Option LinkAnswer) (args : ReadArgs) (result : Result (Unit {0}) LinkAnswer)
    → t2 ≡ t → (t2 ≡ true → IsBegun (answer (request_text args)) p result) → Opens (present_told t m q o s) (present_told t2 m2 (Some (record { args = args; opened = result })) p None) args m2 result
open_present answer false t2 m m2 q o p s args result a x = tt
open_present answer true t2 m m2 q o p s args result a x =
    let this : present_told t2 m2 (Some (record { args = args; opened = result })) p None ≡ Some (Some (begun args m2 result)) =
    ap (λ z. present_told z m2 (Some (record { args = args; opened = result })) p None) a
    ∙ ap (λ ss. Some (Some (record { args = args; moment = m2; opened = result; steps = ss; bad_line = None }))) (no_steps_yet (answer (request_text args)) p result (x a)) in
    this_or (Some (read_told m q o s)) (Some (Some (begun args m2 result))) _ result this

-- a READ that was taken is on its way
pub open_going : (answer : List ℕ → List ℕ) (t r : Bool) (p : Option SoFarRead) (args : ReadArgs) (u : Unit {0}) (given : Result (Unit {0}) LinkAnswer) → given ≡ Ok u → (t ≡ true → IsBegun (answer (request_text args)) p given)
    → ∥ (t ≡ true → r ≡ true → IsGoing answer (Some (record { args = args; opened = given })) p None 0) ∥₁
open_going answer t r p args u (Ok v) e x = ∣ (λ a k. by p (x a)) ∣₁
  where
    by : (y : Option SoFarRead) → IsBegun (answer (request_text args)) y (Ok v) → IsGoing answer (Some (record { args = args; opened = Ok v })) y None 0
    by None z = absurd z
    by (Some a) z =
        let now = takes (answer (request_text args)) a z.gone z.left z.fresh z.opened in
        record { way = now.0; unclosed = ap (λ ys. has_closing (steps_in ys)) now.1; count = ap (λ ys. length (steps_in ys)) now.1 }
open_going answer t r p args u (Err f) e x = absurd (search (rules, e))

abbrev asked_so : ReadArgs → Result (Unit {0}) LinkAnswer → Option AskedSo
asked_so args opened = Some (record { args = args; opened = opened })

same_asked : (args args2 : ReadArgs) (opened opened2 : Result (Unit {0}) LinkAnswer) → args2 ≡ args → opened2 ≡ opened → asked_so args2 opened2 ≡ asked_so args opened
same_asked args args2 opened opened2 a b = ap (λ x. asked_so x opened2) a ∙ ap (λ x. asked_so args x) b

pub opens_present : (answer : List ℕ → List ℕ) (t t2 : Bool) (m m2 : ℕ) (q : Option AskedSo) (o p : Option SoFarRead) (s : Option LinkAnswer) (args args2 : ReadArgs) (opened given result : Result (Unit {0}) LinkAnswer)
    → args2 ≡ args → opened ≡ given → given ≡ result → t2 ≡ t → (t2 ≡ true → IsBegun (answer (request_text args)) p given)
    → Opens (present_told t m q o s) (present_told t2 m2 (asked_so args2 opened) p None) args m2 result
opens_present answer t t2 m m2 q o p s args args2 opened given result a b c e x =
    subst (λ (z : Option AskedSo). Opens (present_told t m q o s) (present_told t2 m2 z p None) args m2 result) (sym (same_asked args args2 result opened a (b ∙ c)))
    (open_present answer t t2 m m2 q o p s args result e (subst (λ (z : Result (Unit {0}) LinkAnswer). t2 ≡ true → IsBegun (answer (request_text args)) p z) c x))

pub opens_honest : (answer : List ℕ → List ℕ) (t t2 : Bool) (m m2 : ℕ) (q : Option AskedSo) (o p : Option SoFarRead) (s : Option LinkAnswer) (args args2 : ReadArgs) (opened given : Result (Unit {0}) LinkAnswer) (told told2 : List ℕ → Option Feed) → IsLaw t2 m2 told2 answer
    → args2 ≡ args → opened ≡ given → t2 ≡ t → (t2 ≡ true → IsBegun (answer (request_text args)) p given)
    → ((stream : List ℕ) → told2 stream ≡ told stream) → (stream : List ℕ) → IsHonestFor stream (told stream) (present_told t m q o s) → IsHonestFor stream (told2 stream) (present_told t2 m2 (asked_so args2 opened) p None)
opens_honest answer t t2 m m2 q o p s args args2 opened given told told2 law a b e x feeds stream was =
    subst (λ (z : Option AskedSo). IsHonestFor stream (told2 stream) (present_told t2 m2 z p None)) (sym (same_asked args args2 given opened a b))
    (open_honest answer t t2 m m2 q o p s args given given told told2 law e refl x feeds stream was)

pub opens_going : (answer : List ℕ → List ℕ) (t r : Bool) (p : Option SoFarRead) (args args2 : ReadArgs) (u : Unit {0}) (opened given : Result (Unit {0}) LinkAnswer) → args2 ≡ args → opened ≡ given → given ≡ Ok u → (t ≡ true → IsBegun (answer (request_text args)) p given)
    → ∥ (t ≡ true → r ≡ true → IsGoing answer (asked_so args2 opened) p None 0) ∥₁
opens_going answer t r p args args2 u opened given a b c x =
    subst (λ (z : Option AskedSo). ∥ (t ≡ true → r ≡ true → IsGoing answer z p None 0) ∥₁) (sym (same_asked args args2 given opened a b)) (open_going answer t r p args u given c x)
