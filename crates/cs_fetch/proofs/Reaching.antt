-- The batch of an honest READ that caught up is complete up to the moment at which it was opened.
use Rattle.std.proofs.Common.{◌≡◌, ℕ, ◌≤◌, List, [], Option, Some, None, refl, arith, subst, Contains}
use Rattle.cs_place.specs.declared.part.Part.{Part}
use Rattle.cs_link.specs.declared.batch.Known.{Known}
use Rattle.cs_link.specs.declared.batch.Limits.{Limits}
use Rattle.cs_link.specs.declared.reading.Closing.{Closing}
use Rattle.cs_link.specs.declared.reading.ReadArgs.{ReadArgs}
use Rattle.cs_link.specs.declared.reading.Step.{Step}
use Rattle.cs_link.specs.declared.refusal.ReadRefusal.{ReadRefusal}
use Rattle.cs_fetch.specs.declared.so_far.SoFar.{SoFar}
use Rattle.cs_fetch.specs.Fetch.{closed_by}
use Rattle.cs_link.specs.Honest.{MayGive, MayFollow, MayGiveFirst, MayFollowFirst, HasHonestSteps, IsHonestAnswer}
use Rattle.cs_fetch.specs.Laws.{HonestReaches}
use Rattle.cs_link.specs.Pace.{Reaches}
use Rattle.cs_link.specs.Reading.{end_of}
use Rattle.cs_link.specs.Refusal.{IsRefusedBy}
use Rattle.cs_fetch.proofs.Lawful.{there}
use Rattle.cs_fetch.proofs.Lists.{place}
use Rattle.cs_fetch.proofs.Walking.{Lasts, walks}

-- no moment that was caught up with is below this one
abbrev IsLate : ℕ → Step → Type 0
IsLate moment (Step.Record item) = Unit {0}
IsLate moment (Step.Closing Closing.Finished) = Unit {0}
IsLate moment (Step.Closing (Closing.CaughtUp at)) = moment ≤ at
IsLate moment (Step.Closing Closing.Cut) = Unit {0}

closed_reaches : (moment : ℕ) (args : ReadArgs) (s : SoFar) (closing : Closing) → IsLate moment (Step.Closing closing) → Reaches moment (closed_by args s closing)
closed_reaches moment args s Closing.Finished l = tt
closed_reaches moment args s (Closing.CaughtUp at) l = omega (arith, l)
closed_reaches moment args s Closing.Cut l = tt

reach_lasts : (moment : ℕ) (args : ReadArgs) (known : Known) (limits : Limits) → Lasts args known limits (IsLate moment) (λ s t. Unit {0}) (Reaches moment)
reach_lasts moment args known limits = record {
  adds_some = λ s t item m p w a. tt;
  adds_none = λ s t item m p w a n. tt;
  fills = λ s t item m p w a f. tt;
  closes = λ s t closing m p w. closed_reaches moment args s closing m;
}

pub honest_reaches : HonestReaches
honest_reaches f known limits read u H o = walks read.args known limits (IsLate read.moment) (λ s t. Unit {0}) (Reaches read.moment) (reach_lasts read.moment read.args known limits) read.steps (by read.args.token refl (subst (λ z. HasHonestSteps f read z) refl H.steps)) tt
  where
    no : (refusal : ReadRefusal) → IsRefusedBy f read.args read.moment refusal → ⊥
    no = subst (λ z. IsHonestAnswer f read.args read.moment z) o H.answer

    opens : (done : List Step) (x : Step) → MayGiveFirst f read.args.start done x → IsLate read.moment x
    opens done (Step.Record item) M = tt
    opens done (Step.Closing Closing.Finished) M = tt
    opens done (Step.Closing (Closing.CaughtUp at)) M = absurd M
    opens done (Step.Closing Closing.Cut) M = tt

    late : (p : Part) (done : List Step) (x : Step) → MayGive f p read.args.start (end_of read.args) read.moment done x → IsLate read.moment x
    late p done (Step.Record item) M = tt
    late p done (Step.Closing Closing.Finished) M = tt
    late p done (Step.Closing (Closing.CaughtUp at)) M = let a = M.moment.0 in omega (arith, a)
    late p done (Step.Closing Closing.Cut) M = tt

    by : (token : Option (List ℕ)) → read.args.token ≡ token → HasHonestSteps f read token → (x : Step) → Contains read.steps x → IsLate read.moment x
    by None s S x i = opens _ x (place (MayFollowFirst f read.args.start) [] read.steps x S i).may.1
    by (Some token) s S x i =
        let p = there f read.args read.moment no token s in
        late p.0 _ x (place (MayFollow f p.0 read.args.start (end_of read.args) read.moment) [] read.steps x (S p.0 p.1 p.2) i).may.1
