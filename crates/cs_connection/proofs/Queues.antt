-- What is true of each connection that is still to be given, once one was given.
use Rattle.std.proofs.Common.{◌≡◌, ◌∷◌, ◌+◌, List, length, ap, arith, Result, Ok, Err, MatchResult, sym}
use Rattle.std.specs.List.{All}
use Rattle.std.proofs.lemmas.List.Elements.{All-head, All-rest, All-same}
use Rattle.cs_connection.specs.Memory.{ConnState}

-- it is true of the one that was given
pub first-has : (P : ConnState → Type 0) (c : ConnState) (old new : List ConnState) → old ≡ c ∷ new → All P old → P c
first-has P c old new is all = All-head P c new (All-same P (c ∷ new) old (sym is) all)

-- and of the others
pub others-have : (P : ConnState → Type 0) (c : ConnState) (old new : List ConnState) → old ≡ c ∷ new → All P old → All P new
others-have P c old new is all = All-rest P c new old is all

-- whether one was given or not
pub still-have : {E : Type 0} (P : ConnState → Type 0) (old new : List ConnState) (result : Result ConnState E)
    → MatchResult result (λ c. old ≡ c ∷ new) (λ _. new ≡ old) → All P old → All P new
still-have P old new (Ok c) is all = others-have P c old new is all
still-have P old new (Err e) is all = All-same P new old is all

-- one fewer is still to be given
pub one-fewer : (c : ConnState) (old new : List ConnState) → old ≡ c ∷ new → length old ≡ length new + 1
one-fewer c old new is = omega (arith, ap length is)
