-- What the two writes of a `put` make of a journal at rest.
use Rattle.std.proofs.Common.{◌^◌, ◌≡◌, ◌≤◌, ◌<◌, inl, inr, ℕ, ◌+◌, ◌-◌, List, [], ◌∷◌, ◌++◌, length, take, drop, map, get_or, false, Ok, Option, None, Some, IfSome, slice_get, refl, sym, ◌∙◌, ap, subst, arith, append_assoc, length-append, length-take, take-append-drop}
use Rattle.std.proofs.lemmas.Bool.{cases_eq, cases_lt}
use Rattle.std.proofs.lemmas.Bool.Decides.{nat_tests}
use Rattle.std.proofs.lemmas.List.{take_at, take_all, drop_at, drop_more}
use Rattle.std.proofs.lemmas.Option.{slice_get_past}
use Rattle.std.proofs.lemmas.Nat.{from_le_bytes-to_le_bytes_4}
use Rattle.std.specs.Int.{from_le_bytes, to_le_bytes, w32}
use Rattle.cs_device.specs.Disk.{IsTornAt, WritesAt}
use Rattle.cs_device.specs.Images.{tells}
use Rattle.cs_device.specs.Crash.{Crash, CrashesLeave, LeavesOnly, crashes_weaker, crashes_both}
use Rattle.cs_journal.specs.declared.journal.Stored.{Stored}
use Rattle.cs_journal.specs.Crashes.{IsTornOf, IsBeforeOrAfter}
use Rattle.cs_journal.specs.Rows.{IsRows, is_open, stored_of, payloads_in, payloads_of, with_payload, behind_gate, gate_in, place_behind, limit}
use Rattle.cs_journal.specs.State.{IsAtRest, IsSettled, WhereTold}
use Rattle.cs_journal.proofs.Rows.{rows_read, rows_more, rows_short, place_of_rows}
use Rattle.cs_journal.proofs.Rest.{Parts, parts, same_rows}

-- an entry behind a gate: the length, the payload, and a closed gate with whatever stands behind it
abbrev pub header : List ℕ → List ℕ
header payload = to_le_bytes w32 (length payload)

closed_zero : (rest : List ℕ) → is_open (0 ∷ rest) ≡ false
closed_zero [] = refl
closed_zero (a ∷ rest) = refl

closed_other : (gate : ℕ) (rest : List ℕ) → (gate ≡ 1 → ⊥) → is_open (gate ∷ rest) ≡ false
closed_other gate [] other = refl
closed_other gate (a ∷ rest) other = grind (arith, nat_tests, other)

rest_begins : (rest : List ℕ) (n : ℕ) → slice_get rest 0 ≡ Some n → rest ≡ n ∷ drop 1 rest
rest_begins [] n is = absurd (cc is)
rest_begins (a ∷ rest) n is = let same : a ≡ n = cc is in ap (λ (m : ℕ). m ∷ rest) same

get_behind : (front rest : List ℕ) → slice_get (front ++ rest) (length front) ≡ slice_get rest 0
get_behind [] rest = refl
get_behind (a ∷ front) rest = get_behind front rest

map_more : (stored : List Stored) (s : Stored) → map (λ (t : Stored). t.payload) (stored ++ s ∷ []) ≡ map (λ (t : Stored). t.payload) stored ++ s.payload ∷ []
map_more [] s = refl
map_more (t ∷ stored) s = ap (λ (l : List (List ℕ)). t.payload ∷ l) (map_more stored s)

module _ (gate : ℕ) (bytes payload : List ℕ) (at_rest : IsAtRest gate bytes) (fits : length payload < 2 ^ 32) where
  abbrev pub p : Parts gate bytes
  p = parts gate bytes at_rest.place

  abbrev pub behind : List ℕ
  behind = drop 1 p.rest

  abbrev pub entry : List ℕ
  entry = behind_gate payload

  zero : p.rest ≡ 0 ∷ behind
  zero = rest_begins p.rest 0 (sym (get_behind p.front p.rest) ∙ ap (λ (n : ℕ). slice_get (p.front ++ p.rest) n) p.size ∙ ap (λ (l : List ℕ). slice_get l gate) (sym p.whole) ∙ at_rest.shut)

  whole : bytes ≡ (p.front ++ 0 ∷ []) ++ behind
  whole = p.whole ∙ ap (λ (l : List ℕ). p.front ++ l) zero ∙ sym (append_assoc p.front (0 ∷ []) behind)

  gated : length (p.front ++ 0 ∷ []) ≡ gate + 1
  gated = omega (arith, length-append p.front (0 ∷ []), p.size)

  -- whatever stands behind a closed gate
  pub behind_closed : (image : List ℕ) → take (gate + 1) image ≡ take (gate + 1) bytes → stored_of image ≡ stored_of bytes
  behind_closed image same =
      let front : take (gate + 1) image ≡ p.front ++ 0 ∷ [] = same ∙ ap (λ (l : List ℕ). take (gate + 1) l) whole ∙ take_at (p.front ++ 0 ∷ []) behind (gate + 1) gated in
      let shape : image ≡ p.front ++ (0 ∷ drop (gate + 1) image) =
      sym (take-append-drop (gate + 1) image) ∙ ap (λ (l : List ℕ). l ++ drop (gate + 1) image) front ∙ append_assoc p.front (0 ∷ []) (drop (gate + 1) image) in
      same_rows gate bytes p image (0 ∷ drop (gate + 1) image) shape (closed_zero (drop (gate + 1) image)) (λ _. omega arith)

  -- the bytes behind the gate once the entry is written
  abbrev pub after : List ℕ
  after = drop (gate + 1 + length entry) bytes

  size_of_header : length (header payload) ≡ 4
  size_of_header = refl

  says : from_le_bytes w32 (header payload) ≡ length payload
  says = from_le_bytes-to_le_bytes_4 (length payload) fits

  abbrev pub new : Stored
  new = record { gate = gate; payload = payload }

  -- an open gate in front of the entry
  with_gate : (image rest : List ℕ) → image ≡ p.front ++ (1 ∷ (entry ++ rest)) → stored_of image ≡ Ok (p.stored ++ new ∷ [])
  with_gate image rest is =
      let front : List ℕ = p.front ++ (1 ∷ (header payload ++ payload)) in
      let shape : image ≡ front ++ (0 ∷ rest) =
      is
      ∙ ap (λ (l : List ℕ). p.front ++ (1 ∷ l)) (append_assoc (header payload ++ payload) (0 ∷ []) rest)
      ∙ sym (append_assoc p.front (1 ∷ (header payload ++ payload)) (0 ∷ rest)) in
      let rows = subst (λ n. IsRows 0 front (p.stored ++ record { gate = n; payload = payload } ∷ [])) (omega (arith, p.size)) (rows_more 0 p.front p.stored (header payload) payload p.rows size_of_header says) in
      let few : length (p.stored ++ new ∷ []) ≤ length (front ++ (0 ∷ rest)) = omega (arith, rows_short 0 front (p.stored ++ new ∷ []) rows, length-append front (0 ∷ rest)) in
      ap stored_of shape ∙ rows_read (front ++ (0 ∷ rest)) 0 front (0 ∷ rest) (p.stored ++ new ∷ []) rows (closed_zero rest) (λ _. omega arith) few

  payloads_more : (image : List ℕ) → stored_of image ≡ Ok (p.stored ++ new ∷ []) → payloads_of image ≡ with_payload payload (payloads_of bytes)
  payloads_more image is = ap payloads_in is ∙ ap Some (map_more p.stored new) ∙ sym (ap (λ r. with_payload payload (payloads_in r)) p.is)

  module _ (written : List ℕ) (is_written : written ≡ take (gate + 1) bytes ++ entry ++ after) where
    shape : written ≡ (p.front ++ 0 ∷ []) ++ (entry ++ after)
    shape =
        is_written
        ∙ ap (λ (l : List ℕ). l ++ entry ++ after) (ap (λ (l : List ℕ). take (gate + 1) l) whole ∙ take_at (p.front ++ 0 ∷ []) behind (gate + 1) gated)
        ∙ append_assoc (p.front ++ 0 ∷ []) entry after

    front_of : take gate written ≡ p.front
    front_of = ap (λ (l : List ℕ). take gate l) (shape ∙ append_assoc p.front (0 ∷ []) (entry ++ after)) ∙ take_at p.front (0 ∷ (entry ++ after)) gate p.size

    behind_of : drop (gate + 1) written ≡ entry ++ after
    behind_of = ap (λ (l : List ℕ). drop (gate + 1) l) shape ∙ drop_at (p.front ++ 0 ∷ []) (entry ++ after) (gate + 1) gated

    long : gate < length written
    long = omega (arith, ap length shape, length-append (p.front ++ 0 ∷ []) (entry ++ after), gated)

    -- whatever byte a crash leaves in the gate's place
    pub before_or_after : (image : List ℕ) → IsTornAt gate 1 written image → IsBeforeOrAfter bytes payload image
    before_or_after image torn =
        let byte = get_or image gate 0 in
        let is : image ≡ p.front ++ (byte ∷ (entry ++ after)) =
        sym (take-append-drop gate image)
        ∙ ap (λ (l : List ℕ). l ++ drop gate image) (torn.before ∙ front_of)
        ∙ ap (λ (l : List ℕ). p.front ++ l) (drop_more image gate 0 (omega (arith, long, torn.as_long)) ∙ ap (λ (l : List ℕ). byte ∷ l) (torn.behind ∙ behind_of)) in
        elim (cases_eq byte 1) [
          | inl one ↦ inr (payloads_more image (with_gate image after (is ∙ ap (λ (n : ℕ). p.front ++ (n ∷ (entry ++ after))) one)))
          | inr other ↦ inl (ap payloads_in (same_rows gate bytes p image (byte ∷ (entry ++ after)) is (closed_other byte (entry ++ after) other) (λ _. omega arith)))
        ]

    module _ (opened : List ℕ) (is_opened : opened ≡ take gate written ++ (1 ∷ []) ++ drop (gate + 1) written) where
      opened_is : opened ≡ p.front ++ (1 ∷ (entry ++ after))
      opened_is =
          is_opened
          ∙ ap (λ (l : List ℕ). l ++ (1 ∷ []) ++ drop (gate + 1) written) front_of
          ∙ ap (λ (l : List ℕ). p.front ++ (1 ∷ []) ++ l) behind_of
          ∙ append_assoc p.front (1 ∷ []) (entry ++ after)

      pub added : payloads_of opened ≡ with_payload payload (payloads_of bytes)
      added = payloads_more opened (with_gate opened after opened_is)

      -- the closed gate behind the new entry
      pub rests : IsAtRest (gate + 5 + length payload) opened
      rests =
          let front : List ℕ = p.front ++ (1 ∷ (header payload ++ payload)) in
          let size : length front ≡ gate + 5 + length payload = omega (arith, length-append p.front (1 ∷ (header payload ++ payload)), length-append (header payload) payload, size_of_header, p.size) in
          let rows = subst (λ n. IsRows 0 front (p.stored ++ record { gate = n; payload = payload } ∷ [])) (omega (arith, p.size)) (rows_more 0 p.front p.stored (header payload) payload p.rows size_of_header says) in
          let place : place_behind 0 (p.stored ++ new ∷ []) ≡ gate + 5 + length payload = omega (arith, place_of_rows 0 front (p.stored ++ new ∷ []) rows, size) in
          let shape_now : opened ≡ front ++ (0 ∷ after) =
          opened_is
          ∙ ap (λ (l : List ℕ). p.front ++ (1 ∷ l)) (append_assoc (header payload ++ payload) (0 ∷ []) after)
          ∙ sym (append_assoc p.front (1 ∷ (header payload ++ payload)) (0 ∷ after)) in
          record {
            place = ap gate_in (with_gate opened after opened_is) ∙ ap Some place;
            shut = ap (λ (n : ℕ). slice_get opened n) (sym size) ∙ ap (λ (l : List ℕ). slice_get l (length front)) shape_now ∙ get_behind front (0 ∷ after);
          }

-- a crash inside of the first write
pub first_crash : (gate : ℕ) (payload : List ℕ) (seen : Option (List ℕ)) (old new : Crash) → length payload < 2 ^ 32 → IfSome seen (IsAtRest gate) → IfSome seen (LeavesOnly old) → CrashesLeave (IsTornOf old (gate + 1) (length (behind_gate payload))) old new
    → IfSome seen (λ bytes. CrashesLeave (IsBeforeOrAfter bytes payload) old new)
first_crash gate payload None old new fits rest durable crashes = tt
first_crash gate payload (Some bytes) old new fits rest durable crashes =
    crashes_weaker (IsTornOf old (gate + 1) (length (behind_gate payload))) (IsBeforeOrAfter bytes payload) old new
    (λ image of. inl (ap payloads_in (behind_closed gate bytes payload rest fits image (of.2.before ∙ ap (λ (b : List ℕ). take (gate + 1) b) (durable of.0 of.1))))) crashes

-- and inside of the second
pub both_crash : (gate : ℕ) (payload : List ℕ) (seen written : Option (List ℕ)) (old mid new : Crash) → length payload < 2 ^ 32 → IfSome seen (IsAtRest gate) → IfSome seen (LeavesOnly old) → CrashesLeave (IsTornOf old (gate + 1) (length (behind_gate payload))) old mid
    → WritesAt seen (gate + 1) (behind_gate payload) written → IfSome written (LeavesOnly mid) → CrashesLeave (IsTornOf mid gate 1) mid new → IfSome seen (λ bytes. CrashesLeave (IsBeforeOrAfter bytes payload) old new)
both_crash gate payload None written old mid new fits rest durable first writes synced second = tt
both_crash gate payload (Some bytes) None old mid new fits rest durable first writes synced second = absurd writes
both_crash gate payload (Some bytes) (Some written) old mid new fits rest durable first writes synced second =
    let begun = first_crash gate payload (Some bytes) old mid fits rest durable first in
    crashes_both (IsBeforeOrAfter bytes payload) old mid new begun
    (crashes_weaker (IsTornOf mid gate 1) (IsBeforeOrAfter bytes payload) mid new
    (λ image of. before_or_after gate bytes payload rest fits written writes image (subst (λ (b : List ℕ). IsTornAt gate 1 b image) (synced of.0 of.1) of.2)) second)

-- after both
pub both_done : (gate : ℕ) (payload : List ℕ) (seen written opened : Option (List ℕ)) → length payload < 2 ^ 32 → IfSome seen (IsAtRest gate) → WritesAt seen (gate + 1) (behind_gate payload) written → WritesAt written gate (1 ∷ []) opened
    → (WhereTold (λ old new. payloads_of new ≡ with_payload payload (payloads_of old)) seen opened) × (IfSome seen (λ _. IfSome opened (IsAtRest (gate + 5 + length payload))))
both_done gate payload None written opened fits rest first second = (tt, tt)
both_done gate payload (Some bytes) None opened fits rest first second = absurd first
both_done gate payload (Some bytes) (Some written) None fits rest first second = absurd second
both_done gate payload (Some bytes) (Some written) (Some opened) fits rest first second =
    (added gate bytes payload rest fits written first opened second, rests gate bytes payload rest fits written first opened second)

-- the row of bytes that is written, without its first
pub without_first : (row row_entry : List ℕ) → row ≡ 1 ∷ row_entry → take (length row - 1) (drop 1 row) ≡ row_entry
without_first row row_entry is =
    let size : length row - 1 ≡ length row_entry = omega (arith, ap length is) in
    ap (λ (n : ℕ). take n (drop 1 row)) size ∙ ap (λ (l : List ℕ). take (length row_entry) (drop 1 l)) is ∙ take_all (length row_entry) row_entry (omega arith)

-- and the first
pub first_alone : (row row_entry : List ℕ) → row ≡ 1 ∷ row_entry → take 1 row ≡ 1 ∷ []
first_alone row row_entry is = ap (λ (l : List ℕ). take 1 l) is

-- the second write stands within the bytes
pub gate_within : (gate : ℕ) (payload : List ℕ) (seen : Option (List ℕ)) → IfSome seen (IsAtRest gate) → IfSome seen (λ bytes. gate + 1 ≤ length bytes)
gate_within gate payload None rest = tt
gate_within gate payload (Some bytes) rest =
    let p = parts gate bytes rest.place in
    elim (cases_lt gate (length bytes)) [
      | inl below ↦ omega (arith, below)
      | inr past ↦ absurd (cc (sym (slice_get_past bytes gate past) ∙ rest.shut))
    ]

pub gate_within_after : (gate : ℕ) (payload : List ℕ) (seen written : Option (List ℕ)) → (seen ≡ None → written ≡ None) → IfSome seen (IsAtRest gate) → WritesAt seen (gate + 1) (behind_gate payload) written → IfSome written (λ bytes. gate ≤ length bytes)
gate_within_after gate payload seen None silent rest writes = tt
gate_within_after gate payload None (Some written) silent rest writes = absurd (tells written (silent refl))
gate_within_after gate payload (Some bytes) (Some written) silent rest writes =
    let within = gate_within gate payload (Some bytes) rest in
    omega (arith, ap length writes, length-append (take (gate + 1) bytes ++ behind_gate payload) (drop (gate + 1 + length (behind_gate payload)) bytes), length-append (take (gate + 1) bytes) (behind_gate payload), length-take (gate + 1) bytes, within)

-- The same, of the row of bytes that a `put` writes without its first byte, and then that byte.
module _ (gate : ℕ) (payload row : List ℕ) (is : row ≡ 1 ∷ behind_gate payload) (short : length payload ≤ limit) (seen : Option (List ℕ)) (old mid : Crash) (settled : IsSettled seen old gate)
    (first : CrashesLeave (IsTornOf old (gate + 1) (length (take (length row - 1) (drop 1 row)))) old mid) where
  fits : length payload < 2 ^ 32
  fits = omega (arith, short)

  torn : CrashesLeave (IsTornOf old (gate + 1) (length (behind_gate payload))) old mid
  torn = subst (λ (l : List ℕ). CrashesLeave (IsTornOf old (gate + 1) (length l)) old mid) (without_first row (behind_gate payload) is) first

  pub crash_of_first : IfSome seen (λ bytes. CrashesLeave (IsBeforeOrAfter bytes payload) old mid)
  crash_of_first = first_crash gate payload seen old mid fits settled.rest settled.durable torn

  module _ (written : Option (List ℕ)) (writes : WritesAt seen (gate + 1) (take (length row - 1) (drop 1 row)) written) where
    wrote : WritesAt seen (gate + 1) (behind_gate payload) written
    wrote = subst (λ (l : List ℕ). WritesAt seen (gate + 1) l written) (without_first row (behind_gate payload) is) writes

    pub within_second : (seen ≡ None → written ≡ None) → IfSome written (λ bytes. gate ≤ length bytes)
    within_second silent = gate_within_after gate payload seen written silent settled.rest wrote

    pub crash_of_both : (new : Crash) → IfSome written (LeavesOnly mid) → CrashesLeave (IsTornOf mid gate (length (take 1 row))) mid new → IfSome seen (λ bytes. CrashesLeave (IsBeforeOrAfter bytes payload) old new)
    crash_of_both new synced second =
        both_crash gate payload seen written old mid new fits settled.rest settled.durable torn wrote synced (subst (λ (l : List ℕ). CrashesLeave (IsTornOf mid gate (length l)) mid new) (first_alone row (behind_gate payload) is) second)

    pub done_both : (opened : Option (List ℕ)) → WritesAt written gate (take 1 row) opened → (WhereTold (λ old new. payloads_of new ≡ with_payload payload (payloads_of old)) seen opened) × (IfSome seen (λ _. IfSome opened (IsAtRest (gate + 5 + length payload))))
    done_both opened opens = both_done gate payload seen written opened fits settled.rest wrote (subst (λ (l : List ℕ). WritesAt written gate l opened) (first_alone row (behind_gate payload) is) opens)

-- how long the row is
pub row_size : (payload row : List ℕ) → row ≡ 1 ∷ behind_gate payload → length row ≡ 6 + length payload
row_size payload row is = omega (arith, ap length is, length-append (header payload ++ payload) (0 ∷ []), length-append (header payload) payload, header_size payload)
  where
    header_size : (payload : List ℕ) → length (header payload) ≡ 4
    header_size payload = refl
