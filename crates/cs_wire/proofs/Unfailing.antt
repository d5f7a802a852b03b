-- Over a connection that never fails `next` does not fail: an answer on its way has more lines.
use Rattle.std.proofs.Common.{◌≡◌, ◌∙◌, sym, ap, subst, refl, inl, inr, ⊎_elim, true≢false, ℕ, Bool, true, false, ◌||◌, List, [], ◌∷◌, ◌++◌, rules, Some, None, Ok, Err, IfSome, ◌+◌, length}
use Rattle.std.proofs.Math.Logic.{∥∥₁_elim}
use Rattle.std.specs.Coded.{Coded-set, coded_ℕ}
use Rattle.std.specs.Option.{option_map}
use Rattle.std.specs.declared.option.Option.{Option}
use Rattle.std.specs.declared.result.Result.{Result}
use Rattle.cs_link.specs.declared.feed.Feed.{Feed}
use Rattle.cs_link.specs.declared.reading.Closing.{Closing}
use Rattle.cs_link.specs.declared.reading.ReadArgs.{ReadArgs}
use Rattle.cs_link.specs.declared.reading.Step.{Step}
use Rattle.cs_link.specs.declared.refusal.LinkAnswer.{LinkAnswer}
use Rattle.cs_link.specs.Reading.{Read, is_closing}
use Rattle.cs_http.specs.Request.{request_text}
use Rattle.cs_wire.specs.Answers.{IsHonestAnswerText}
use Rattle.cs_wire.specs.Steps.{steps_in, has_closing}
use Rattle.cs_wire.specs.Taken.{IsCut}
use Rattle.cs_wire.specs.Told.{SoFarRead, AskedSo, body, present_told, IsUnclosed, IsGoingOn, IsGoing, HasStepped, IsNumbered, steps_given}
use Rattle.cs_wire.proofs.Headless.{rose_above}
use Rattle.cs_wire.proofs.Ending.{all_given}
use Rattle.cs_wire.proofs.Going.{reads_alone}
use Rattle.cs_wire.proofs.Present.{IsLaw, is_going}
use Rattle.cs_wire.proofs.Telling.{never_refused}

or_true : (a : Bool) → (a || true) ≡ true
or_true true = refl
or_true false = refl

has_last : (before : List Step) (closing : Closing) → has_closing (before ++ Step.Closing closing ∷ []) ≡ true
has_last [] closing = refl
has_last (x ∷ before) closing = ap (λ b. is_closing x || b) (has_last before closing) ∙ or_true (is_closing x)

-- no honest answer ends before it is closed
never_ends : (f : Feed) (args : ReadArgs) (m : ℕ) (text : List ℕ) (given : ℕ) (a : SoFarRead) → IsHonestAnswerText f args m text → IsUnclosed text given a → IsCut a.left a.held → ⊥
never_ends f args m text given a (inr r) u c = never_refused f args m text a r u.way
never_ends f args m text given a (inl g) u c =
    let closed : has_closing (steps_in (body a)) ≡ true = ap has_closing (all_given f args m text a g u.way c ∙ g.closes) ∙ has_last g.before g.closing in
    true≢false (sym closed ∙ u.unclosed)

abbrev args_or : ReadArgs → Option (Option Read) → ReadArgs
args_or args None = args
args_or args (Some None) = args
args_or args (Some (Some read)) = read.args

pub next_never_fails : (answer : List ℕ → List ℕ) (t r : Bool) (m : ℕ) (q : Option AskedSo) (o p : Option SoFarRead) (s : Option LinkAnswer) (n : ℕ) (told : List ℕ → Option Feed) → IsLaw t m told answer
    → HasStepped o p (Err LinkAnswer.Failed) → IfSome p (λ b. b.faults ≡ 0) → r ≡ true → ∥ (t ≡ true → r ≡ true → IsGoing answer q o s n) ∥₁
    → (read : Read) (f : Feed) → present_told t m q o s ≡ Some (Some read) → told read.args.stream ≡ Some f → ⊥
next_never_fails answer false r m q o p s n told law x c k h read f e feeds = absurd (search (rules, e))
next_never_fails answer true r m None o p s n told law x c k h read f e feeds = absurd (search (rules, e))
next_never_fails answer true r m (Some asked) None p s n told law x c k h read f e feeds = absurd x
next_never_fails answer true r m (Some asked) (Some a) None s n told law x c k h read f e feeds = absurd x
next_never_fails answer true r m (Some asked) (Some a) (Some b) s n told law x c k h read f e feeds =
    by s (is_going true r answer (Some asked) (Some a) s n h refl k)
  where
    same : asked.args ≡ read.args
    same = ap (args_or asked.args) e

    on : (opened : Result (Unit {0}) LinkAnswer) → IsGoingOn answer asked.args opened n a → ⊥
    on (Ok u) w =
        never_ends f asked.args m (answer (request_text asked.args)) n b (law asked.args f refl (ap (λ z. told z.stream) same ∙ feeds)) (reads_alone (answer (request_text asked.args)) n a b x.1.0 x.0 w) (⊎_elim (λ u. absurd (rose_above a.faults b.faults u c)) (λ y. y) x.1.1)
    on (Err g) w = absurd w

    by : (y : Option LinkAnswer) → IsGoing answer (Some asked) (Some a) y n → ⊥
    by None w = on asked.opened w
    by (Some g) w = absurd w

-- an answer as it was read over a connection that never fails has no fault
pub quiet_read : {L : Type 0} (seen : L → SoFarRead) (P : L → Type 0) → ((l : L) → P l → (seen l).faults ≡ 0) → (o : Option L) → ∥ IfSome o P ∥₁ → IfSome (option_map seen o) (λ b. b.faults ≡ 0)
quiet_read seen P now None h = tt
quiet_read seen P now (Some l) h = ∥∥₁_elim h (Coded-set coded_ℕ _ _) (now l)

pub step_never_fails : (answer : List ℕ → List ℕ) (t r : Bool) (m : ℕ) (q : Option AskedSo) (o p : Option SoFarRead) (s : Option LinkAnswer) (n : ℕ) (told : List ℕ → Option Feed) → IsLaw t m told answer → (result : Result Step LinkAnswer)
    → HasStepped o p result → result ≡ Err LinkAnswer.Failed → IfSome p (λ b. b.faults ≡ 0) → r ≡ true → ∥ (t ≡ true → r ≡ true → IsGoing answer q o s n) ∥₁
    → (read : Read) (f : Feed) → present_told t m q o s ≡ Some (Some read) → told read.args.stream ≡ Some f → ⊥
step_never_fails answer t r m q o p s n told law result x e c k h read f i feeds =
    next_never_fails answer t r m q o p s n told law (subst (λ (z : Result Step LinkAnswer). HasStepped o p z) e x) c k h read f i feeds

abbrev steps_or : List Step → Option (Option Read) → List Step
steps_or steps None = steps
steps_or steps (Some None) = steps
steps_or steps (Some (Some read)) = read.steps

-- so many lines were taken as the present READ has steps
pub numbered : (answer : List ℕ → List ℕ) (t r : Bool) (m : ℕ) (q : Option AskedSo) (o : Option SoFarRead) (s : Option LinkAnswer) (n : ℕ) (e : LinkAnswer) → r ≡ true → ∥ (t ≡ true → r ≡ true → IsGoing answer q o s n) ∥₁
    → (read : Read) → present_told t m q o s ≡ Some (Some read) → IsNumbered (n + 1) e → IsNumbered (length read.steps + 1) e
numbered answer false r m q o s n e k h read i x = absurd (search (rules, i))
numbered answer true r m None o s n e k h read i x = absurd (search (rules, i))
numbered answer true r m (Some asked) o s n e k h read i x = by o s asked.opened refl i (is_going true r answer (Some asked) o s n h refl k)
  where
    on : (a : SoFarRead) → IsUnclosed (answer (request_text asked.args)) n a → steps_in (body a) ≡ read.steps → IsNumbered (length read.steps + 1) e
    on a u same = subst (λ (j : ℕ). IsNumbered (j + 1) e) (sym u.count ∙ ap length same) x

    by : (y : Option SoFarRead) (z : Option LinkAnswer) (opened : Result (Unit {0}) LinkAnswer) → asked.opened ≡ opened → present_told true m (Some asked) y z ≡ Some (Some read) → IsGoing answer (Some asked) y z n → IsNumbered (length read.steps + 1) e
    by None z opened d j w = absurd w
    by (Some a) (Some f) opened d j w = absurd w
    by (Some a) None (Ok u) d j w =
        on a (subst (λ (y : Result (Unit {0}) LinkAnswer). IsGoingOn answer asked.args y n a) d w) (sym (ap (λ y. steps_given y (Some a)) d) ∙ ap (steps_or []) j)
    by (Some a) None (Err f) d j w = absurd (subst (λ (y : Result (Unit {0}) LinkAnswer). IsGoingOn answer asked.args y n a) d w)
