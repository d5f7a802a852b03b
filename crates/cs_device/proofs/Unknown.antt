-- Where nothing is told, a call may do anything that leaves each image as it may be.
use Rattle.std.proofs.Common.{inl, ℕ, List, arith}
use Rattle.cs_device.specs.Crash.{Leaves, anything}

pub anything_may : (does : List ℕ → List ℕ → Type 0) → ((image : List ℕ) → does image image) → Leaves does anything anything
anything_may does as_it_was =
    record { later = omega arith; now = λ image _. (image, tt, as_it_was image); nothing_else = λ _ _ _ _. inl tt; kept = λ _ _ _ _. tt }
