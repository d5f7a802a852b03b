-- A disk that agrees with a text as far as it was found to, before and after it was made to hold it.
use Rattle.std.proofs.Common.{◌≡◌, ◌≤◌, ◌<◌, ℕ, ◌+◌, List, length, take, drop, inl, inr, ◌⊎◌, Option, None, Some, IfSome, refl, sym, ◌∙◌, ap, arith, ⊎_elim, length-take}
use Rattle.std.proofs.lemmas.Bool.{cases_eq}
use Rattle.std.proofs.lemmas.List.{take-take}
use Rattle.std.specs.Io.KnownBytes.{Keeps}
use Rattle.cs_device.specs.Crash.{Crash, CrashesLeave, crashes_weaker}
use Rattle.cs_redo.specs.Agreeing.{agreeing}
use Rattle.cs_redo.specs.Fronts.{Agree, WhereTold, KeepsFront, KeepsFronts, KeepsFrontsOf, FrontsStay, IsUntouched}
use Rattle.cs_redo.proofs.Counts as counts
use Rattle.cs_redo.proofs.Kept.{quiet_both, quiet_keeps, front_both}

-- what agrees so far, and a piece that agrees
pub more_agrees : (at count n : ℕ) (seen now : Option (List ℕ)) (text : List ℕ) → IfSome seen (λ bytes. agreeing bytes text ≡ at + agreeing (drop at bytes) (drop at text)) → Keeps seen now → count ≤ length (drop at text)
    → IfSome now (λ bytes. n ≡ agreeing (take (length (take count (drop at text))) (drop at bytes)) (take count (drop at text))) → IfSome seen (λ bytes. n ≡ agreeing (take count (drop at bytes)) (take count (drop at text)))
more_agrees at count n None now text so_far keeps fits found = tt
more_agrees at count n (Some bytes) None text so_far keeps fits found = absurd keeps
more_agrees at count n (Some bytes) (Some now) text so_far keeps fits found =
    let size : length (take count (drop at text)) ≡ count = omega (arith, length-take count (drop at text), fits) in
    found
    ∙ ap (λ (m : ℕ). agreeing (take m (drop at now)) (take count (drop at text))) size
    ∙ ap (λ (l : List ℕ). agreeing (take count (drop at l)) (take count (drop at text))) keeps

-- the whole piece agrees: it goes on behind it
pub goes_on : (at count n : ℕ) (seen : Option (List ℕ)) (text : List ℕ) → IfSome seen (λ bytes. agreeing bytes text ≡ at + agreeing (drop at bytes) (drop at text)) → IfSome seen (λ bytes. n ≡ agreeing (take count (drop at bytes)) (take count (drop at text))) → count ≤ n
    → IfSome seen (λ bytes. agreeing bytes text ≡ at + n + agreeing (drop (at + n) bytes) (drop (at + n) text))
goes_on at count n None text so_far found whole = tt
goes_on at count n (Some bytes) text so_far found whole =
    let few = counts.in_front count (drop at bytes) (drop at text) in
    let is : n ≡ count = omega (arith, found, few, whole) in
    let all : at + n ≤ agreeing bytes text = omega (arith, so_far, found, few, is) in
    counts.split (at + n) bytes text all

-- it does not: there it ends
pub ends_there : (at count n : ℕ) (seen : Option (List ℕ)) (text : List ℕ) → IfSome seen (λ bytes. agreeing bytes text ≡ at + agreeing (drop at bytes) (drop at text)) → IfSome seen (λ bytes. n ≡ agreeing (take count (drop at bytes)) (take count (drop at text))) → n < count
    → IfSome seen (λ bytes. at + n ≡ agreeing bytes text)
ends_there at count n None text so_far found short = tt
ends_there at count n (Some bytes) text so_far found short = omega (arith, so_far, found, counts.in_front count (drop at bytes) (drop at text), short)

-- one of both is at its end
pub ends_with_all : (at len : ℕ) (seen : Option (List ℕ)) (text : List ℕ) → IfSome seen (λ bytes. agreeing bytes text ≡ at + agreeing (drop at bytes) (drop at text)) → IfSome seen (λ bytes. len ≡ length bytes) → (len ≤ at) ⊎ (length text ≤ at)
    → IfSome seen (λ bytes. at ≡ agreeing bytes text)
ends_with_all at len None text so_far told ended = tt
ends_with_all at len (Some bytes) text so_far told (inl ended) = omega (arith, so_far, counts.ended_left bytes text at (omega (arith, told, ended)))
ends_with_all at len (Some bytes) text so_far told (inr ended) = omega (arith, so_far, counts.ended_right bytes text at ended)

-- as far as they agree the bytes are the text's
pub agree_found : (n : ℕ) (seen now : Option (List ℕ)) (text : List ℕ) → (seen ≡ None → now ≡ None) → IfSome seen (λ bytes. n ≡ agreeing bytes text) → Keeps seen now → IfSome now (Agree n text)
agree_found n seen None text silent found keeps = tt
agree_found n None (Some now) text silent found keeps = cc (silent refl)
agree_found n (Some bytes) (Some now) text silent found keeps =
    ap (λ (m : ℕ). take m now) found ∙ ap (λ (l : List ℕ). take (agreeing bytes text) l) keeps ∙ counts.same bytes text ∙ ap (λ (m : ℕ). take m text) (sym found)

-- fewer bytes agree too
fewer : (count n : ℕ) (old new : List ℕ) → count ≤ n → Agree n old new → Agree count old new
fewer count n old new few same = sym (take-take count n new few) ∙ ap (λ (l : List ℕ). take count l) same ∙ take-take count n old few

-- what keeps as much as agrees keeps all fronts that do, where the bytes are not the text itself
fronts : (n : ℕ) (text bytes old new : List ℕ) → n ≡ agreeing bytes text → (bytes ≡ text → ⊥) → Agree n old new → KeepsFronts text bytes old new
fronts n text bytes old new found other same count agrees =
    ⊎_elim (λ few. fewer count n old new (omega (arith, few, found)) same) (λ is. absurd (other is)) (counts.most count bytes text agrees)

-- the bytes are the text just where both end where they agree
data Found (n len : ℕ) (text bytes : List ℕ) : Type 0 where
  Whole : n ≡ len → n ≡ length text → Found n len text bytes
  Other : (bytes ≡ text → ⊥) → Found n len text bytes

found_of : (n len : ℕ) (text bytes : List ℕ) → n ≡ agreeing bytes text → len ≡ length bytes → Found n len text bytes
found_of n len text bytes found told = elim (cases_eq n len) [
  | inl first ↦
      elim (cases_eq n (length text)) [
        | inl second ↦ Whole first second
        | inr apart ↦ Other (λ is. apart (found ∙ ap (agreeing bytes) (sym is) ∙ counts.all bytes ∙ ap length is))
      ]
  | inr apart ↦ Other (λ is. apart (found ∙ ap (agreeing bytes) (sym is) ∙ counts.all bytes ∙ sym told))
]

-- what is left of the bytes, and of each image
pub fronts_kept : (n len : ℕ) (text : List ℕ) (a b c : Option (List ℕ)) (old new : Crash) → IfSome a (λ bytes. n ≡ agreeing bytes text) → IfSome a (λ bytes. len ≡ length bytes) → Keeps a b → WhereTold (Agree n) b c → (n ≡ len → n ≡ length text → IsUntouched b c old new)
    → WhereTold (FrontsStay text) a c
fronts_kept n len text None b c old new found told keeps front untouched = tt
fronts_kept n len text (Some x) None c old new found told keeps front untouched = absurd keeps
fronts_kept n len text (Some x) (Some y) None old new found told keeps front untouched = absurd front
fronts_kept n len text (Some x) (Some y) (Some z) old new found told keeps front untouched = elim (found_of n len text x found told) [
  | Whole first second ↦ λ count agrees. ap (λ (l : List ℕ). take count l) ((untouched first second).kept ∙ keeps)
  | Other other ↦ fronts n text x x z found other (front ∙ ap (λ (l : List ℕ). take n l) keeps)
]

pub images_kept : (n len : ℕ) (text : List ℕ) (a b c : Option (List ℕ)) (old mid new : Crash) → IfSome a (λ bytes. n ≡ agreeing bytes text) → IfSome a (λ bytes. len ≡ length bytes) → CrashesLeave old.may_leave old mid → CrashesLeave (KeepsFront n mid) mid new → (n ≡ len → n ≡ length text → IsUntouched b c mid new)
    → IfSome a (λ bytes. CrashesLeave (KeepsFrontsOf text bytes old) old new)
images_kept n len text None b c old mid new found told quiet front untouched = tt
images_kept n len text (Some x) b c old mid new found told quiet front untouched = elim (found_of n len text x found told) [
  | Whole first second ↦ all_kept text x old new (quiet_both old mid new quiet (untouched first second).quiet)
  | Other other ↦
      crashes_weaker (KeepsFront n old) (KeepsFrontsOf text x old) old new
      (λ image kept. (kept.0, kept.1, fronts n text x kept.0 image found other kept.2))
      (front_both n old mid new (quiet_keeps n old mid quiet) front)
]
  where
    all_kept : (text bytes : List ℕ) (old new : Crash) → CrashesLeave old.may_leave old new → CrashesLeave (KeepsFrontsOf text bytes old) old new
    all_kept text bytes old new quiet = crashes_weaker old.may_leave (KeepsFrontsOf text bytes old) old new (λ image may. (image, may, λ count agrees. refl)) quiet
