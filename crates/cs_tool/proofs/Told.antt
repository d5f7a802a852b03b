-- What a disk tells between two calls.
use Rattle.std.proofs.Common.{◌≡◌, ◌≤◌, ◌+◌, ℕ, List, length, Option, None, Some, IfSome, refl, ap, arith}
use Rattle.std.specs.Io.KnownBytes.{Keeps}

-- a piece of the length that was told still fits
pub still_fits : (old new : Option (List ℕ)) (n m : ℕ) → IfSome old (λ bytes. n ≡ length bytes) → Keeps old new → (old ≡ None → new ≡ None) → m ≤ n → IfSome new (λ bytes. 0 + m ≤ length bytes)
still_fits None None n m told keeps silent le = tt
still_fits None (Some ys) n m told keeps silent le = let e : Some ys ≡ None = silent refl in absurd (cc)
still_fits (Some xs) None n m told keeps silent le = absurd keeps
still_fits (Some xs) (Some ys) n m told keeps silent le = omega (arith, told, ap length keeps, le)
