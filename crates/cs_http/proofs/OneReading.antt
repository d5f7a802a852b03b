-- Bytes are read in one way only.
use Rattle.std.proofs.Common.{◌≡◌, ◌≢◌, ◌∙◌, inl, inr, sym, ap, subst, refl, ℕ, List, [], length, Result, Ok, Err, MatchResult, append-nil}
use Rattle.httparse.specs.Grammar.{HasNoRequest, NeverHasRequest, MayBecomeRequest, EndsInTarget}
use Rattle.httparse.proofs.GrammarLemmas.{request_unique}
use Rattle.cs_http.specs.declared.fault.WireFault.{WireFault}
use Rattle.cs_http.specs.declared.reading.Request.{Request}
use Rattle.cs_http.specs.Reading.{request_reading, unfinished, IsHeadReading, IsReading}

-- what never has a head has none
has_none : (bytes : List ℕ) → NeverHasRequest bytes → HasNoRequest bytes
has_none bytes never = subst HasNoRequest (append-nil bytes) (never [])

same_head : (bytes : List ℕ) (a b : Result (List ℕ) WireFault) → IsHeadReading bytes a → IsHeadReading bytes b → a ≡ b
same_head bytes a b x y =
    let same = request_unique bytes x.head y.head x.rest y.rest x.reads y.reads in
    x.is ∙ ap (λ h. request_reading h x.rest) same.0 ∙ ap (request_reading y.head) same.1 ∙ sym y.is

-- bytes that may become a head are not bytes that never do
apart : (bytes : List ℕ) → MayBecomeRequest bytes → NeverHasRequest bytes → ¬ (EndsInTarget bytes) → ⊥
apart bytes (inl x) never outside = never x.0 x.1 [] x.2
apart bytes (inr x) never outside = outside x

pub one_reading : (bytes : List ℕ) (a b : Result (List ℕ) WireFault) → IsReading bytes a → IsReading bytes b → a ≡ b
one_reading bytes a b (inl x) (inl y) = same_head bytes a b x y
one_reading bytes a b (inl x) (inr (inl y)) = absurd (y.none x.head x.rest x.reads)
one_reading bytes a b (inl x) (inr (inr y)) = absurd (has_none bytes y.never x.head x.rest x.reads)
one_reading bytes a b (inr (inl x)) (inl y) = absurd (x.none y.head y.rest y.reads)
one_reading bytes a b (inr (inl x)) (inr (inl y)) = x.is ∙ sym y.is
one_reading bytes a b (inr (inl x)) (inr (inr y)) = absurd (apart bytes x.may y.never y.outside)
one_reading bytes a b (inr (inr x)) (inl y) = absurd (has_none bytes x.never y.head y.rest y.reads)
one_reading bytes a b (inr (inr x)) (inr (inl y)) = absurd (apart bytes y.may x.never x.outside)
one_reading bytes a b (inr (inr x)) (inr (inr y)) = x.is ∙ sym y.is

-- so an answer that is a reading of them is the one that there is
pub all_read : (bytes : List ℕ) (answer : Result Request WireFault) → MatchResult answer (λ q. IsReading bytes (Ok q.body)) (λ e. e ≢ WireFault.Memory → IsReading bytes (Err e))
    → (r : Result (List ℕ) WireFault) → IsReading bytes r → MatchResult answer (λ q. r ≡ Ok q.body) (λ e. e ≢ WireFault.Memory → r ≡ Err e)
all_read bytes (Ok q) is r x = one_reading bytes r (Ok q.body) x is
all_read bytes (Err e) is r x = λ n. one_reading bytes r (Err e) x (is n)

-- bytes that never have a head, and end inside of a target
pub open_target : (bytes : List ℕ) (e : WireFault) → NeverHasRequest bytes → EndsInTarget bytes → e ≡ unfinished (length bytes) → IsReading bytes (Err e)
open_target bytes e never ends is = inr (inl (record { none = has_none bytes never; may = inr ends; is = ap Err is }))

-- and those that do not
pub no_target : (bytes : List ℕ) → NeverHasRequest bytes → ¬ (EndsInTarget bytes) → IsReading bytes (Err WireFault.Head)
no_target bytes never outside = inr (inr (record { never = never; outside = outside; is = refl }))
