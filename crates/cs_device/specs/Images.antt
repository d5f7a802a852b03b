-- What a write, a cut and a disk in memory leave is among the images that a crash may leave. This project's own.
use Rattle.std.specs.Prelude.{◌≡◌, ℕ, zero, suc, ◌+◌, ◌-◌, ◌≤◌, min, List, [], ◌∷◌, ◌++◌, length, take, drop, true, false, cond, nat_le, refl, Option, None, Some}
use Rattle.std.proofs.Common.{◌∙◌, sym, ap, subst, arith, inl, inr, length-append}
use Rattle.std.proofs.lemmas.Bool.{cases_Bool}
use Rattle.std.proofs.lemmas.Bool.Decides.{nat_tests}
use Rattle.std.proofs.lemmas.List.{take_at, drop-drop, length-take, length-drop, take_all, append_assoc}
use Rattle.std.proofs.Math.Seq.{drop-append-add}
use Rattle.cs_device.specs.Disk.{IsTornAt, overwrite}
use Rattle.cs_device.specs.Crash.{IsShortened}
use Rattle.cs_device.specs.Past.{DiskCall, Wrote, CutTo, Synced, MayLeave, content, written_over}

-- a range is torn where a piece of it is written over
pub torn_by : (at count : ℕ) (piece bytes : List ℕ) → at ≤ length bytes → length piece ≤ count → IsTornAt at count bytes (overwrite at piece bytes)
torn_by at count piece bytes within short =
    let rest = drop (at + length piece) bytes in
    let whole : List ℕ = take at bytes ++ (piece ++ rest) in
    let same : overwrite at piece bytes ≡ whole = append_assoc (take at bytes) piece rest in
    let front : length (take at bytes) ≡ at = omega (arith, length-take at bytes, within) in
    let size : length whole ≡ at + (length piece + length rest) = omega (arith, length-append (take at bytes) (piece ++ rest), length-append piece rest, front) in
    let more = count - length piece in
    let to_front : at + count ≡ length (take at bytes) + count = omega (arith, front) in
    let to_piece : count ≡ length piece + more = omega (arith, short) in
    let to_rest : at + length piece + more ≡ at + count = omega (arith, short) in
    let behind : drop (at + count) whole ≡ drop (at + count) bytes =
    ap (λ (n : ℕ). drop n whole) to_front
    ∙ drop-append-add (take at bytes) (piece ++ rest) count
    ∙ ap (λ (n : ℕ). drop n (piece ++ rest)) to_piece
    ∙ drop-append-add piece rest more
    ∙ drop-drop more (at + length piece) bytes
    ∙ ap (λ (n : ℕ). drop n bytes) to_rest in
    let torn : IsTornAt at count bytes whole = record {
      before = take_at (take at bytes) (piece ++ rest) at front;
      behind = behind;
      as_long = omega (arith, size, length-drop (at + length piece) bytes, within);
      not_longer = omega (arith, size, length-drop (at + length piece) bytes, within, short);
    } in
    subst (IsTornAt at count bytes) (sym same) torn

-- as many bytes as are taken are taken
take_min : (n : ℕ) (bytes : List ℕ) → take n bytes ≡ take (length (take n bytes)) bytes
take_min zero bytes = refl
take_min (suc n) [] = refl
take_min (suc n) (b ∷ bytes) = ap (λ (l : List ℕ). b ∷ l) (take_min n bytes)

-- nothing is done to what is torn, or shortened
pub not_torn : (at count : ℕ) (bytes : List ℕ) → IsTornAt at count bytes bytes
not_torn at count bytes = record { before = refl; behind = refl; as_long = omega arith; not_longer = omega arith }

pub shortened_by : (to : ℕ) (bytes : List ℕ) (n : ℕ) → min to (length bytes) ≤ n → IsShortened to bytes (take n bytes)
shortened_by to bytes n long = record {
  front = front;
  as_long = omega (arith, length-take n bytes, long);
}
  where
    size : length (take n bytes) ≡ min n (length bytes)
    size = length-take n bytes

    front : take n bytes ≡ take (length (take n bytes)) bytes
    front = take_min n bytes

pub not_shortened : (to : ℕ) (bytes : List ℕ) → IsShortened to bytes bytes
not_shortened to bytes = record { front = sym (take_all (length bytes) bytes (omega arith)); as_long = omega arith }

-- a write tears its range
pub torn_over : (at : ℕ) (piece bytes : List ℕ) → IsTornAt at (length piece) bytes (written_over at piece bytes)
torn_over at piece bytes = elim (cases_Bool (nat_le at (length bytes))) [
  | inl is ↦
      subst (λ b. IsTornAt at (length piece) bytes (cond b (overwrite at piece bytes) bytes)) (sym is) (torn_by at (length piece) piece bytes (within is) (omega arith))
  | inr not ↦ subst (λ b. IsTornAt at (length piece) bytes (cond b (overwrite at piece bytes) bytes)) (sym not) (not_torn at (length piece) bytes)
]
  where
    within : nat_le at (length bytes) ≡ true → at ≤ length bytes
    within is = grind (arith, nat_tests)

-- a disk reads as one of its images
pub reads_image : (first : List ℕ) (past : List DiskCall) → MayLeave first past (content first past)
reads_image first [] = refl
reads_image first (Wrote at bytes true ∷ past) =
    (content first past, reads_image first past, torn_over at bytes (content first past))
reads_image first (Wrote at bytes false ∷ past) = (content first past, reads_image first past, not_torn at (length bytes) (content first past))
reads_image first (CutTo to true ∷ past) = (content first past, reads_image first past, shortened_by to (content first past) to (omega arith))
reads_image first (CutTo to false ∷ past) = (content first past, reads_image first past, not_shortened to (content first past))
reads_image first (Synced ∷ past) = refl

-- what is told is not nothing
pub tells : (bytes : List ℕ) → ◌≡◌ {A = Option (List ℕ)} (Some bytes) None → ⊥
tells bytes none = cc none
