-- Bytes that were read ahead of a call.
use Rattle.std.proofs.Common.{◌≡◌, ◌≤◌, ℕ, ◌+◌, ◌-◌, List, [], ◌++◌, length, take, drop, Option, None, Some, IfSome, refl, sym, ◌∙◌, ap, arith, length-take, length-drop}
use Rattle.std.proofs.lemmas.List.{drop-take, take-take, drop-drop, take_at}
use Rattle.std.specs.Io.KnownBytes.{Keeps}
use Rattle.cs_device.specs.Disk.{ReadsAt}

-- a piece of the first bytes is a piece of all
pub piece_of_front : (n from count : ℕ) (bytes : List ℕ) → from + n ≤ count → take n (drop from (take count bytes)) ≡ take n (drop from bytes)
piece_of_front n from count bytes fits =
    let more = count - from in
    let is : count ≡ from + more = omega (arith, fits) in
    ap (λ (m : ℕ). take n (drop from (take m bytes))) is ∙ ap (λ (l : List ℕ). take n l) (drop-take from more bytes) ∙ take-take n more (drop from bytes) (omega (arith, fits))

-- what is given of the bytes that were read is what stands there
pub given : (seen : Option (List ℕ)) (place at n : ℕ) (held piece : List ℕ) → ReadsAt seen place held → place ≤ at → at + n ≤ place + length held → piece ≡ take n (drop (at - place) held) → ReadsAt seen at piece
given None place at n held piece reads below fits is = tt
given (Some bytes) place at n held piece reads below fits is =
    let from = at - place in
    let size : length piece ≡ n = omega (arith, ap length is, length-take n (drop from held), length-drop from held, fits, below) in
    let there : place + from ≡ at = omega (arith, below) in
    is
    ∙ ap (λ (l : List ℕ). take n (drop from l)) reads
    ∙ piece_of_front n from (length held) (drop place bytes) (omega (arith, fits, below))
    ∙ ap (λ (l : List ℕ). take n l) (drop-drop from place bytes ∙ ap (λ (m : ℕ). drop m bytes) there)
    ∙ ap (λ (m : ℕ). take m (drop at bytes)) (sym size)

-- they stand there still
pub still_ahead : (seen now : Option (List ℕ)) (place : ℕ) (held : List ℕ) → ReadsAt seen place held → Keeps seen now → (seen ≡ None → now ≡ None) → ReadsAt now place held
still_ahead seen None place held reads keeps silent = tt
still_ahead None (Some now) place held reads keeps silent = absurd (cc (silent refl))
still_ahead (Some bytes) (Some now) place held reads keeps silent = reads ∙ ap (λ (l : List ℕ). take (length held) (drop place l)) (sym keeps)

-- none were read yet
pub none_ahead : (seen : Option (List ℕ)) (place : ℕ) (held : List ℕ) → held ≡ [] → ReadsAt seen place held
none_ahead None place held none = tt
none_ahead (Some bytes) place held none = none ∙ sym (ap (λ (l : List ℕ). take (length l) (drop place bytes)) none)

-- a read that ends within a known length
pub within_told : (seen : Option (List ℕ)) (len at n : ℕ) → IfSome seen (λ bytes. len ≡ length bytes) → at + n ≤ len → IfSome seen (λ bytes. at + n ≤ length bytes)
within_told None len at n told fits = tt
within_told (Some bytes) len at n told fits = omega (arith, told, fits)

-- a front that was filled
pub front_filled : (count size : ℕ) (piece rest : List ℕ) → length piece ≡ count → count ≤ size → take count (take size (piece ++ rest)) ≡ piece
front_filled count size piece rest is fits = take-take count size (piece ++ rest) fits ∙ take_at piece rest count is
