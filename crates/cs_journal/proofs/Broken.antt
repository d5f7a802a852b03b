-- Bytes that are entries, and an open gate without a whole one behind them.
use Rattle.std.proofs.Common.{◌≡◌, ◌≤◌, ◌<◌, inl, inr, ℕ, ◌+◌, List, [], ◌∷◌, ◌++◌, length, take, drop, true, false, Ok, Err, Result, refl, sym, ◌∙◌, ap, subst, arith, append_assoc, length-append, length-take, length-drop}
use Rattle.std.proofs.lemmas.Bool.{cases_Bool, false≢true}
use Rattle.std.proofs.lemmas.Bool.Decides.{nat_tests}
use Rattle.std.specs.Int.{from_le_bytes, w32}
use Rattle.cs_journal.specs.declared.journal.Stored.{Stored}
use Rattle.cs_journal.specs.Rows.{IsRows, is_open, is_whole, length_at, payload_at, in_front, rows_from}
use Rattle.cs_journal.proofs.Rows.{rows_closed, rows_broken, rows_step, entry_read, entry_split}

-- where a gate is open there is a byte
pub some_byte : (rest : List ℕ) → is_open rest ≡ true → 0 < length rest
some_byte [] opened = absurd (false≢true opened)
some_byte (a ∷ rest) opened = omega arith

-- entries and such a gate behind them are refused at its place
pub broken_read : (bound : List ℕ) (place : ℕ) (front rest : List ℕ) (stored : List Stored) → IsRows place front stored → is_open rest ≡ true → is_whole rest ≡ false → length stored < length bound
    → rows_from bound place (front ++ rest) ≡ Err (place + length front)
broken_read [] place front rest stored rows opened torn fits = absurd (omega (arith, fits))
broken_read (x ∷ bound) place front rest [] rows opened torn fits =
    ap (λ (f : List ℕ). rows_from (x ∷ bound) place (f ++ rest)) rows ∙ rows_broken x bound place rest opened torn ∙ ap Err (omega (arith, ap length rows))
broken_read (x ∷ bound) place front rest (s ∷ stored) (header, more, is, size, says, at, rows) opened torn fits =
    let whole : front ++ rest ≡ 1 ∷ header ++ (s.payload ++ (more ++ rest)) =
    ap (λ (f : List ℕ). f ++ rest) is ∙ ap (λ (l : List ℕ). 1 ∷ l) (append_assoc header (s.payload ++ more) rest ∙ ap (λ (l : List ℕ). header ++ l) (append_assoc s.payload more rest)) in
    let there : place + 5 + length s.payload + length more ≡ place + length front = omega (arith, ap length is, size, length-append header (s.payload ++ more), length-append s.payload more) in
    ap (rows_from (x ∷ bound) place) whole
    ∙ entry_read x bound place header s.payload (more ++ rest) size says (omega (arith, length-append more rest, some_byte rest opened))
    ∙ ap (in_front (record { gate = place; payload = s.payload })) (broken_read bound (place + 5 + length s.payload) more rest stored rows opened torn (omega (arith, fits)))
    ∙ ap Err there

-- bytes that are refused at a place are entries, and such a gate behind them
pub record Broken (place : ℕ) (bytes : List ℕ) (bad : ℕ) : Type 0 where
  pub stored : List Stored
  pub front : List ℕ
  pub rest : List ℕ
  pub whole : bytes ≡ front ++ rest
  pub rows : IsRows place front stored
  pub there : bad ≡ place + length front
  pub opened : is_open rest ≡ true
  pub torn : is_whole rest ≡ false

ok_not_err : (stored : List Stored) (place : ℕ) → ◌≡◌ {A = Result (List Stored) ℕ} (Ok stored) (Err place) → ⊥
ok_not_err stored place is = cc is

err_is : (a b : ℕ) → ◌≡◌ {A = Result (List Stored) ℕ} (Err a) (Err b) → a ≡ b
err_is a b is = cc is

behind_front : (s : Stored) (read : Result (List Stored) ℕ) (bad : ℕ) → in_front s read ≡ Err bad → read ≡ Err bad
behind_front s (Ok stored) bad is = absurd (ok_not_err (s ∷ stored) bad is)
behind_front s (Err place) bad is = is

here : (place : ℕ) (bytes : List ℕ) (bad : ℕ) → place ≡ bad → is_open bytes ≡ true → is_whole bytes ≡ false → Broken place bytes bad
here place bytes bad is opened torn = record { stored = []; front = []; rest = bytes; whole = refl; rows = refl; there = omega (arith, is); opened = opened; torn = torn }

further : (place : ℕ) (bytes : List ℕ) (bad : ℕ) → is_open bytes ≡ true → is_whole bytes ≡ true → Broken (place + 5 + length_at bytes) (drop (5 + length_at bytes) bytes) bad → Broken place bytes bad
further place bytes bad opened whole split =
    let n = length_at bytes in
    let payload = payload_at bytes in
    let long : 5 + n < length bytes = grind (arith, nat_tests, whole) in
    let header = take 4 (drop 1 bytes) in
    let size : length header ≡ 4 = omega (arith, length-take 4 (drop 1 bytes), length-drop 1 bytes, long) in
    let count : n ≡ length payload = omega (arith, length-take n (drop 5 bytes), length-drop 5 bytes, long) in
    let front : List ℕ = 1 ∷ header ++ (payload ++ split.front) in
    let is_front : bytes ≡ front ++ split.rest =
    entry_split bytes opened
    ∙ ap (λ (l : List ℕ). 1 ∷ header ++ (payload ++ l)) split.whole
    ∙ ap (λ (l : List ℕ). 1 ∷ header ++ l) (sym (append_assoc payload split.front split.rest))
    ∙ ap (λ (l : List ℕ). 1 ∷ l) (sym (append_assoc header (payload ++ split.front) split.rest)) in
    let next : place + 5 + n ≡ place + 5 + length payload = omega (arith, count) in
    let entry : Stored = record { gate = place; payload = payload } in
    record {
      stored = entry ∷ split.stored;
      front = front;
      rest = split.rest;
      whole = is_front;
      rows = (header, split.front, refl, size, count, refl, subst (λ p. IsRows p split.front split.stored) next split.rows);
      there = omega (arith, split.there, size, count, length-append header (payload ++ split.front), length-append payload split.front);
      opened = split.opened;
      torn = split.torn;
    }

pub broken_split : (bound : List ℕ) (place : ℕ) (bytes : List ℕ) (bad : ℕ) → rows_from bound place bytes ≡ Err bad → length bytes ≤ length bound → Broken place bytes bad
broken_split [] place bytes bad is fits = absurd (ok_not_err [] bad is)
broken_split (x ∷ bound) place bytes bad is fits = elim (cases_Bool (is_open bytes)) [
  | inr shut ↦ absurd (ok_not_err [] bad (sym (rows_closed (x ∷ bound) place bytes shut) ∙ is))
  | inl opened ↦ elim (cases_Bool (is_whole bytes)) [
    | inr torn ↦ here place bytes bad (err_is place bad (sym (rows_broken x bound place bytes opened torn) ∙ is)) opened torn
    | inl whole ↦
        let n = length_at bytes in
        let long : 5 + n < length bytes = grind (arith, nat_tests, whole) in
        let shorter : length (drop (5 + n) bytes) ≤ length bound = omega (arith, fits, length-drop (5 + n) bytes, long) in
        let behind = sym (rows_step x bound place bytes (payload_at bytes) (drop (5 + n) bytes) n opened whole refl refl refl) ∙ is in
        further place bytes bad opened whole
        (broken_split bound (place + 5 + n) (drop (5 + n) bytes) bad (behind_front (record { gate = place; payload = payload_at bytes }) (rows_from bound (place + 5 + n) (drop (5 + n) bytes)) bad behind) shorter)
  ]
]
