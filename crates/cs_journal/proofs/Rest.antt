-- Entries, a closed gate, and what a crash makes of it.
use Rattle.std.proofs.Common.{suc, ◌≡◌, ◌≤◌, ◌<◌, inl, inr, ℕ, ◌+◌, ◌-◌, List, [], ◌∷◌, ◌++◌, length, take, drop, false, Ok, Err, Result, Option, None, Some, IfSome, slice_get, refl, sym, ◌∙◌, ap, subst, arith, length-append, length-take, length-drop, take-append-drop}
use Rattle.std.proofs.lemmas.Bool.{cases_lt}
use Rattle.std.proofs.lemmas.List.{take_at, drop_all, append-nil}
use Rattle.cs_device.specs.Disk.{IsTornAt, WritesAt, CutsTo}
use Rattle.cs_device.specs.Images.{shortened_by, tells}
use Rattle.cs_device.specs.Crash.{Crash, CrashesLeave, LeavesOnly, IsShortened, crashes_weaker, crashes_both}
use Rattle.cs_journal.specs.declared.journal.Stored.{Stored}
use Rattle.cs_journal.specs.Crashes.{IsTornOf, IsCutOf, HasSamePayloads, KeepsPayloads}
use Rattle.cs_journal.specs.Rows.{IsRows, is_open, stored_of, gate_in, gate_of, place_behind}
use Rattle.cs_journal.specs.State.{IsAtRest, WhereTold}
use Rattle.cs_journal.proofs.Rows.{HasGate, rows_read, rows_split, rows_short, place_of_rows}

-- a journal's bytes: its entries, and what stands from the closed gate on
pub record Parts (gate : ℕ) (bytes : List ℕ) : Type 0 where
  pub stored : List Stored
  pub front : List ℕ
  pub rest : List ℕ
  pub whole : bytes ≡ front ++ rest
  pub rows : IsRows 0 front stored
  pub size : length front ≡ gate
  pub shut : is_open rest ≡ false
  pub some : 0 < length bytes → 0 < length rest
  pub is : stored_of bytes ≡ Ok stored

parts_of : (gate : ℕ) (bytes : List ℕ) (read : Result (List Stored) ℕ) → stored_of bytes ≡ read → gate_in read ≡ Some gate → Parts gate bytes
parts_of gate bytes (Err place) same is = absurd (cc is)
parts_of gate bytes (Ok stored) same is =
    let split = rows_split bytes 0 bytes stored same (omega arith) in
    let place : place_behind 0 stored ≡ gate = cc is in
    record { stored = stored; front = split.front; rest = split.rest; whole = split.whole; rows = split.rows; size = omega (arith, place, place_of_rows 0 split.front stored split.rows); shut = split.shut; some = split.gate; is = same }

pub parts : (gate : ℕ) (bytes : List ℕ) → gate_of bytes ≡ Some gate → Parts gate bytes
parts gate bytes is = parts_of gate bytes (stored_of bytes) refl is

-- bytes with the same entries, and a closed gate behind them
pub same_rows : (gate : ℕ) (bytes : List ℕ) (p : Parts gate bytes) (image rest : List ℕ) → image ≡ p.front ++ rest → is_open rest ≡ false → HasGate p.front rest → stored_of image ≡ stored_of bytes
same_rows gate bytes p image rest is shut some =
    let few : length p.stored ≤ length (p.front ++ rest) = omega (arith, rows_short 0 p.front p.stored p.rows, length-append p.front rest) in
    ap stored_of is ∙ rows_read (p.front ++ rest) 0 p.front rest p.stored p.rows shut some few ∙ sym p.is

pub short_shut : (rest : List ℕ) → length rest ≤ 1 → is_open rest ≡ false
short_shut [] short = refl
short_shut (a ∷ []) short = refl
short_shut (a ∷ b ∷ rest) short = absurd (omega (arith, short))

front_shut : (rest : List ℕ) (n : ℕ) → is_open rest ≡ false → is_open (take n rest) ≡ false
front_shut [] n shut = short_shut (take n []) (omega (arith, length-take {A = ℕ} n []))
front_shut (a ∷ []) n shut = short_shut (take n (a ∷ [])) (omega (arith, length-take n (a ∷ [])))
front_shut (a ∷ b ∷ rest) n shut = elim (cases_lt n 2) [
  | inl few ↦ short_shut (take n (a ∷ b ∷ rest)) (omega (arith, length-take n (a ∷ b ∷ rest), few))
  | inr more ↦ two (n - 2) n (omega (arith, more))
]
  where
    two : (m n : ℕ) → n ≡ suc (suc m) → is_open (take n (a ∷ b ∷ rest)) ≡ false
    two m n is = ap (λ (k : ℕ). is_open (take k (a ∷ b ∷ rest))) is ∙ shut

take_past : (xs ys : List ℕ) (n : ℕ) → length xs ≤ n → take n (xs ++ ys) ≡ xs ++ take (n - length xs) ys
take_past [] ys n le = ap (λ (k : ℕ). take k ys) (omega arith)
take_past (x ∷ xs) ys n le =
    let next : n ≡ suc (n - 1) = omega (arith, le) in
    let less : n - 1 - length xs ≡ n - suc (length xs) = omega arith in
    ap (λ (k : ℕ). take k (x ∷ xs ++ ys)) next ∙ ap (λ (l : List ℕ). x ∷ l) (take_past xs ys (n - 1) (omega (arith, le))) ∙ ap (λ (k : ℕ). x ∷ (xs ++ take k ys)) less

-- a cut behind the gate keeps the payloads
pub cut_keeps : (gate : ℕ) (bytes image : List ℕ) → gate_of bytes ≡ Some gate → gate < length bytes → IsShortened (gate + 1) bytes image → stored_of image ≡ stored_of bytes
cut_keeps gate bytes image is within cut =
    let p = parts gate bytes is in
    let n = length image in
    let long : gate + 1 ≤ n = omega (arith, cut.as_long, within) in
    let shape : image ≡ p.front ++ take (n - length p.front) p.rest = cut.front ∙ ap (λ (l : List ℕ). take n l) p.whole ∙ take_past p.front p.rest n (omega (arith, long, p.size)) in
    let some = p.some (omega (arith, within)) in
    same_rows gate bytes p image (take (n - length p.front) p.rest) shape (front_shut p.rest (n - length p.front) p.shut) (λ _. omega (arith, length-take (n - length p.front) p.rest, long, p.size, some))

-- and so does any last byte in the gate's place
pub last_keeps : (gate : ℕ) (bytes image : List ℕ) → gate_of bytes ≡ Some gate → take gate image ≡ take gate bytes → length image ≤ gate + 1 → gate ≤ length bytes → (0 < gate → gate < length image) → stored_of image ≡ stored_of bytes
last_keeps gate bytes image is same short within some =
    let p = parts gate bytes is in
    let front : take gate image ≡ p.front = same ∙ ap (λ (l : List ℕ). take gate l) p.whole ∙ take_at p.front p.rest gate p.size in
    let shape : image ≡ p.front ++ drop gate image = sym (take-append-drop gate image) ∙ ap (λ (l : List ℕ). l ++ drop gate image) front in
    same_rows gate bytes p image (drop gate image) shape (short_shut (drop gate image) (omega (arith, length-drop gate image, short))) (λ more. omega (arith, length-drop gate image, some (omega (arith, more, p.size))))

-- the gate's place goes with the payloads
pub same_gate : (gate : ℕ) (bytes image : List ℕ) → gate_of bytes ≡ Some gate → stored_of image ≡ stored_of bytes → gate_of image ≡ Some gate
same_gate gate bytes image is same = ap gate_in same ∙ is

-- after a cut behind the gate
pub cut_told : (gate : ℕ) (seen now : Option (List ℕ)) → IfSome seen (λ bytes. gate_of bytes ≡ Some gate) → IfSome seen (λ bytes. gate < length bytes) → CutsTo seen (gate + 1) now → (WhereTold HasSamePayloads seen now) × (IfSome seen (λ _. IfSome now (λ bytes. length bytes ≡ gate + 1)))
cut_told gate None now is within cuts = (tt, tt)
cut_told gate (Some bytes) None is within cuts = absurd cuts
cut_told gate (Some bytes) (Some now) is within cuts =
    let short = shortened_by (gate + 1) bytes (gate + 1) (omega arith) in
    (cut_keeps gate bytes now is within (subst (λ (l : List ℕ). IsShortened (gate + 1) bytes l) (sym cuts) short), omega (arith, ap length cuts, length-take (gate + 1) bytes, within))

-- where nothing was told nothing is
pub told_only : (P : List ℕ → Type 0) (seen now : Option (List ℕ)) → (seen ≡ None → now ≡ None) → IfSome seen (λ _. IfSome now P) → IfSome now P
told_only P seen None silent holds = tt
told_only P None (Some now) silent holds = absurd (tells now (silent refl))
told_only P (Some bytes) (Some now) silent holds = holds

-- a crash inside of the cut
pub cut_any_moment : (gate : ℕ) (seen : Option (List ℕ)) (old new : Crash) → IfSome seen (λ bytes. gate_of bytes ≡ Some gate) → IfSome seen (λ bytes. gate < length bytes) → IfSome seen (LeavesOnly old) → CrashesLeave (IsCutOf old (gate + 1)) old new → KeepsPayloads seen old new
cut_any_moment gate None old new is within durable crashes = tt
cut_any_moment gate (Some bytes) old new is within durable crashes =
    crashes_weaker (IsCutOf old (gate + 1)) (HasSamePayloads bytes) old new
    (λ image of. cut_keeps gate bytes image is within (subst (λ (b : List ℕ). IsShortened (gate + 1) b image) (durable of.0 of.1) of.2)) crashes

-- the gate's byte is written over
zero_written : (gate : ℕ) (bytes now : List ℕ) → gate ≤ length bytes → length bytes ≤ gate + 1 → now ≡ take gate bytes ++ (0 ∷ []) ++ drop (gate + 1) bytes → now ≡ take gate bytes ++ 0 ∷ []
zero_written gate bytes now within short is = is ∙ ap (λ (l : List ℕ). take gate bytes ++ (0 ∷ []) ++ l) (drop_all (gate + 1) bytes short) ∙ append-nil (take gate bytes ++ (0 ∷ []))

get_last : (front : List ℕ) (gate : ℕ) (rest : List ℕ) → length front ≡ gate → slice_get (front ++ 0 ∷ rest) gate ≡ Some 0
get_last front gate rest size = ap (λ (n : ℕ). slice_get (front ++ 0 ∷ rest) n) (sym size) ∙ at_seam front rest
  where
    at_seam : (front rest : List ℕ) → slice_get (front ++ 0 ∷ rest) (length front) ≡ Some 0
    at_seam [] rest = refl
    at_seam (a ∷ front) rest = at_seam front rest

pub close_told : (gate : ℕ) (seen now : Option (List ℕ)) → IfSome seen (λ bytes. gate_of bytes ≡ Some gate) → IfSome seen (λ bytes. (gate ≤ length bytes) × (length bytes ≤ gate + 1)) → WritesAt seen gate (0 ∷ []) now
    → (WhereTold HasSamePayloads seen now) × (IfSome seen (λ _. IfSome now (IsAtRest gate)))
close_told gate None now is last writes = (tt, tt)
close_told gate (Some bytes) None is last writes = absurd writes
close_told gate (Some bytes) (Some now) is last writes =
    let shape = zero_written gate bytes now last.0 last.1 writes in
    let front : length (take gate bytes) ≡ gate = omega (arith, length-take gate bytes, last.0) in
    let size : length now ≡ gate + 1 = omega (arith, ap length shape, length-append (take gate bytes) (0 ∷ []), front) in
    let same = last_keeps gate bytes now is (ap (λ (l : List ℕ). take gate l) shape ∙ take_at (take gate bytes) (0 ∷ []) gate front) (omega (arith, size)) last.0 (λ _. omega (arith, size)) in
    (same, record { place = same_gate gate bytes now is same; shut = ap (λ (l : List ℕ). slice_get l gate) shape ∙ get_last (take gate bytes) gate [] front })

-- a crash inside of that write
pub close_any_moment : (gate : ℕ) (seen : Option (List ℕ)) (old new : Crash) → IfSome seen (λ bytes. gate_of bytes ≡ Some gate) → IfSome seen (λ bytes. (gate ≤ length bytes) × (length bytes ≤ gate + 1)) → IfSome seen (LeavesOnly old) → CrashesLeave (IsTornOf old gate 1) old new → KeepsPayloads seen old new
close_any_moment gate None old new is last durable crashes = tt
close_any_moment gate (Some bytes) old new is last durable crashes = crashes_weaker (IsTornOf old gate 1) (HasSamePayloads bytes) old new (λ image of. torn image (subst (λ (b : List ℕ). IsTornAt gate 1 b image) (durable of.0 of.1) of.2)) crashes
  where
    torn : (image : List ℕ) → IsTornAt gate 1 bytes image → stored_of image ≡ stored_of bytes
    torn image t =
        let p = parts gate bytes is in
        last_keeps gate bytes image is t.before (omega (arith, t.not_longer, last)) last.0 (λ more. omega (arith, t.as_long, ap length p.whole, length-append p.front p.rest, p.size, p.some (omega (arith, more, last.0))))

-- where the payloads are kept twice they are kept
pub keeps_payloads_both : (seen mid : Option (List ℕ)) (a b c : Crash) → WhereTold HasSamePayloads seen mid → KeepsPayloads seen a b → KeepsPayloads mid b c → KeepsPayloads seen a c
keeps_payloads_both None mid a b c same first second = tt
keeps_payloads_both (Some bytes) None a b c same first second = absurd same
keeps_payloads_both (Some bytes) (Some now) a b c same first second =
    crashes_both (HasSamePayloads bytes) a b c first (crashes_weaker (HasSamePayloads now) (HasSamePayloads bytes) b c (λ image is. is ∙ same) second)

pub same_payloads_both : (seen mid now : Option (List ℕ)) → WhereTold HasSamePayloads seen mid → WhereTold HasSamePayloads mid now → WhereTold HasSamePayloads seen now
same_payloads_both None mid now first second = tt
same_payloads_both (Some a) None now first second = absurd first
same_payloads_both (Some a) (Some b) None first second = absurd second
same_payloads_both (Some a) (Some b) (Some c) first second = second ∙ first
