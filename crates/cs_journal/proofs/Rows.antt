-- Bytes that are entries, and a closed gate behind them.
use Rattle.std.proofs.Common.{◌≡◌, ◌≤◌, ◌<◌, inl, inr, ℕ, ◌+◌, List, [], ◌∷◌, ◌++◌, length, take, drop, true, false, Ok, Err, Result, refl, sym, ◌∙◌, ap, subst, arith, append_assoc, length-append, length-take, length-drop, take-append-drop}
use Rattle.std.proofs.lemmas.Bool.{cases_Bool, false≢true}
use Rattle.std.proofs.lemmas.Bool.Decides.{nat_tests}
use Rattle.std.proofs.lemmas.List.{take_at, drop_at, drop-drop, append-nil}
use Rattle.std.specs.Int.{from_le_bytes, w32}
use Rattle.cs_journal.specs.declared.journal.Stored.{Stored}
use Rattle.cs_journal.specs.Rows.{IsRows, is_open, is_whole, length_at, payload_at, in_front, rows_from, place_behind}

-- a closed gate has nothing behind it
pub rows_closed : (bound : List ℕ) (place : ℕ) (rest : List ℕ) → is_open rest ≡ false → rows_from bound place rest ≡ Ok []
rows_closed [] place rest shut = refl
rows_closed (x ∷ bound) place rest shut = rw shut refl

pub rows_broken : (x : ℕ) (bound : List ℕ) (place : ℕ) (rest : List ℕ) → is_open rest ≡ true → is_whole rest ≡ false → rows_from (x ∷ bound) place rest ≡ Err place
rows_broken x bound place rest opened torn = rw (opened, torn) refl

-- an open gate with a whole entry
pub rows_step : (x : ℕ) (bound : List ℕ) (place : ℕ) (rest payload next : List ℕ) (n : ℕ) → is_open rest ≡ true → is_whole rest ≡ true → length_at rest ≡ n → payload_at rest ≡ payload → drop (5 + n) rest ≡ next
    → rows_from (x ∷ bound) place rest ≡ in_front (record { gate = place; payload = payload }) (rows_from bound (place + 5 + n) next)
rows_step x bound place rest payload next n opened whole size is behind =
    let opens : rows_from (x ∷ bound) place rest ≡ in_front (record { gate = place; payload = payload_at rest }) (rows_from bound (place + 5 + length_at rest) (drop (5 + length_at rest) rest)) = rw (opened, whole) refl in
    opens
    ∙ ap (λ (p : List ℕ). in_front (record { gate = place; payload = p }) (rows_from bound (place + 5 + length_at rest) (drop (5 + length_at rest) rest))) is
    ∙ ap (λ (m : ℕ). in_front (record { gate = place; payload = payload }) (rows_from bound (place + 5 + m) (drop (5 + m) rest))) size
    ∙ ap (λ (l : List ℕ). in_front (record { gate = place; payload = payload }) (rows_from bound (place + 5 + n) l)) behind

-- four bytes
record Four (header : List ℕ) : Type 0 where
  a : ℕ
  b : ℕ
  c : ℕ
  d : ℕ
  is : header ≡ a ∷ b ∷ c ∷ d ∷ []

four : (header : List ℕ) → length header ≡ 4 → Four header
four [] size = absurd (omega (arith, size))
four (a ∷ []) size = absurd (omega (arith, size))
four (a ∷ b ∷ []) size = absurd (omega (arith, size))
four (a ∷ b ∷ c ∷ []) size = absurd (omega (arith, size))
four (a ∷ b ∷ c ∷ d ∷ []) size = record { a = a; b = b; c = c; d = d; is = refl }
four (a ∷ b ∷ c ∷ d ∷ e ∷ more) size = absurd (omega (arith, size))

-- one whole entry, and what stands behind it
pub entry_read : (x : ℕ) (bound : List ℕ) (place : ℕ) (header payload rest : List ℕ) → length header ≡ 4 → from_le_bytes w32 header ≡ length payload → 0 < length rest
    → rows_from (x ∷ bound) place (1 ∷ header ++ (payload ++ rest)) ≡ in_front (record { gate = place; payload = payload }) (rows_from bound (place + 5 + length payload) rest)
entry_read x bound place header payload rest size says more =
    let h = four header size in
    let whole : List ℕ = 1 ∷ h.a ∷ h.b ∷ h.c ∷ h.d ∷ (payload ++ rest) in
    let is : 1 ∷ header ++ (payload ++ rest) ≡ whole = ap (λ (l : List ℕ). 1 ∷ l ++ (payload ++ rest)) h.is in
    let n : length_at whole ≡ length payload = ap (from_le_bytes w32) (sym h.is) ∙ says in
    let long : length whole ≡ 5 + (length payload + length rest) = omega (arith, length-append payload rest) in
    let fits : is_whole whole ≡ true = grind (arith, nat_tests, n, long, more) in
    let found : payload_at whole ≡ payload = ap (λ (m : ℕ). take m (payload ++ rest)) n ∙ take_at payload rest (length payload) refl in
    let behind : drop (5 + length payload) whole ≡ rest = drop_at (1 ∷ h.a ∷ h.b ∷ h.c ∷ h.d ∷ payload) rest (5 + length payload) (omega arith) in
    ap (rows_from (x ∷ bound) place) is ∙ rows_step x bound place whole payload rest (length payload) refl fits n found behind

ok_is : (a b : List Stored) → ◌≡◌ {A = Result (List Stored) ℕ} (Ok a) (Ok b) → a ≡ b
ok_is a b is = cc is

err_not_ok : (place : ℕ) (stored : List Stored) → ◌≡◌ {A = Result (List Stored) ℕ} (Err place) (Ok stored) → ⊥
err_not_ok place stored is = cc is

cons_not_nil : (s : Stored) (stored : List Stored) → s ∷ stored ≡ [] → ⊥
cons_not_nil s stored is = cc is

head_is : (s t : Stored) (ss ts : List Stored) → s ∷ ss ≡ t ∷ ts → s ≡ t
head_is s t ss ts is = cc is

tail_is : (s t : Stored) (ss ts : List Stored) → s ∷ ss ≡ t ∷ ts → ss ≡ ts
tail_is s t ss ts is = cc is

-- where there are entries, a gate's byte stands behind them
abbrev pub HasGate : List ℕ → List ℕ → Type 0
HasGate front rest = 0 < length front → 0 < length rest

-- entries and a closed gate behind them are read as these entries
pub rows_read : (bound : List ℕ) (place : ℕ) (front rest : List ℕ) (stored : List Stored) → IsRows place front stored → is_open rest ≡ false → HasGate front rest → length stored ≤ length bound → rows_from bound place (front ++ rest) ≡ Ok stored
rows_read bound place front rest [] rows shut gate fits = ap (λ (f : List ℕ). rows_from bound place (f ++ rest)) rows ∙ rows_closed bound place rest shut
rows_read [] place front rest (s ∷ stored) rows shut gate fits = absurd (omega (arith, fits))
rows_read (x ∷ bound) place front rest (s ∷ stored) (header, more, is, size, says, at, rows) shut gate fits =
    let some : 0 < length rest = gate (omega (arith, ap length is)) in
    let whole : front ++ rest ≡ 1 ∷ header ++ (s.payload ++ (more ++ rest)) =
    ap (λ (f : List ℕ). f ++ rest) is ∙ ap (λ (l : List ℕ). 1 ∷ l) (append_assoc header (s.payload ++ more) rest ∙ ap (λ (l : List ℕ). header ++ l) (append_assoc s.payload more rest)) in
    let same : record { gate = place; payload = s.payload } ≡ s = ap (λ (p : ℕ). record { gate = p; payload = s.payload }) (sym at) in
    ap (rows_from (x ∷ bound) place) whole
    ∙ entry_read x bound place header s.payload (more ++ rest) size says (omega (arith, length-append more rest, some))
    ∙ ap (in_front (record { gate = place; payload = s.payload })) (rows_read bound (place + 5 + length s.payload) more rest stored rows shut (λ _. some) (omega (arith, fits)))
    ∙ ap (λ (f : Stored). Ok (f ∷ stored)) same

-- the place behind entries is the place of the first and their length
pub place_of_rows : (place : ℕ) (front : List ℕ) (stored : List Stored) → IsRows place front stored → place_behind place stored ≡ place + length front
place_of_rows place front [] rows = omega (arith, ap length rows)
place_of_rows place front (s ∷ stored) (header, more, is, size, says, at, rows) =
    omega (arith, place_of_rows (place + 5 + length s.payload) more stored rows, ap length is, size, length-append header (s.payload ++ more), length-append s.payload more)

-- there are no more entries than bytes
pub rows_short : (place : ℕ) (front : List ℕ) (stored : List Stored) → IsRows place front stored → length stored ≤ length front
rows_short place front [] rows = omega arith
rows_short place front (s ∷ stored) (header, more, is, size, says, at, rows) =
    omega (arith, rows_short (place + 5 + length s.payload) more stored rows, ap length is, size, length-append header (s.payload ++ more), length-append s.payload more)

-- one entry more
pub rows_more : (place : ℕ) (front : List ℕ) (stored : List Stored) (header payload : List ℕ) → IsRows place front stored → length header ≡ 4 → from_le_bytes w32 header ≡ length payload
    → IsRows place (front ++ (1 ∷ (header ++ payload))) (stored ++ record { gate = place + length front; payload = payload } ∷ [])
rows_more place front [] header payload rows size says =
    let is : front ++ (1 ∷ (header ++ payload)) ≡ 1 ∷ header ++ (payload ++ []) = ap (λ (f : List ℕ). f ++ (1 ∷ (header ++ payload))) rows ∙ ap (λ (l : List ℕ). 1 ∷ header ++ l) (sym (append-nil payload)) in
    (header, [], is, size, says, omega (arith, ap length rows), refl)
rows_more place front (s ∷ stored) header payload (first, more, is, long, tells, at, rows) size says =
    let tail : List ℕ = 1 ∷ (header ++ payload) in
    let place_next = place + 5 + length s.payload in
    let whole : front ++ tail ≡ 1 ∷ first ++ (s.payload ++ (more ++ tail)) =
    ap (λ (f : List ℕ). f ++ tail) is ∙ ap (λ (l : List ℕ). 1 ∷ l) (append_assoc first (s.payload ++ more) tail ∙ ap (λ (l : List ℕ). first ++ l) (append_assoc s.payload more tail)) in
    let there : place_next + length more ≡ place + length front = omega (arith, ap length is, long, length-append first (s.payload ++ more), length-append s.payload more) in
    let behind = subst (λ p. IsRows place_next (more ++ tail) (stored ++ record { gate = p; payload = payload } ∷ [])) there (rows_more place_next more stored header payload rows size says) in
    (first, more ++ tail, whole, long, tells, at, behind)

-- bytes that are read as entries are these entries, and behind them a closed gate
pub record Split (place : ℕ) (bytes : List ℕ) (stored : List Stored) : Type 0 where
  pub front : List ℕ
  pub rest : List ℕ
  pub whole : bytes ≡ front ++ rest
  pub rows : IsRows place front stored
  pub shut : is_open rest ≡ false
  pub gate : 0 < length bytes → 0 < length rest

-- where there are entries, a gate's byte stands behind them
pub gate_behind : (place : ℕ) (bytes : List ℕ) (stored : List Stored) (split : Split place bytes stored) → HasGate split.front split.rest
gate_behind place bytes stored split some = split.gate (omega (arith, ap length split.whole, length-append split.front split.rest, some))

-- what an open gate and a whole entry are made of
first_is_one : (bytes : List ℕ) → is_open bytes ≡ true → bytes ≡ 1 ∷ drop 1 bytes
first_is_one [] is = absurd (false≢true is)
first_is_one (a ∷ []) is = absurd (false≢true is)
first_is_one (a ∷ b ∷ bytes) is = let one : a ≡ 1 = grind (arith, nat_tests, is) in ap (λ (n : ℕ). n ∷ b ∷ bytes) one

pub entry_split : (bytes : List ℕ) → is_open bytes ≡ true → bytes ≡ 1 ∷ take 4 (drop 1 bytes) ++ (payload_at bytes ++ drop (5 + length_at bytes) bytes)
entry_split bytes is =
    let n = length_at bytes in
    first_is_one bytes is
    ∙ ap (λ (l : List ℕ). 1 ∷ l)
    (sym (take-append-drop 4 (drop 1 bytes))
    ∙ ap (λ (l : List ℕ). take 4 (drop 1 bytes) ++ l) (drop-drop 4 1 bytes ∙ sym (take-append-drop n (drop 5 bytes)) ∙ ap (λ (l : List ℕ). payload_at bytes ++ l) (drop-drop n 5 bytes)))

no_more : (place : ℕ) (bytes : List ℕ) (stored : List Stored) → [] ≡ stored → is_open bytes ≡ false → Split place bytes stored
no_more place bytes stored none shut = record { front = []; rest = bytes; whole = refl; rows = subst (IsRows place []) none refl; shut = shut; gate = λ some. some }

one_more : (place : ℕ) (bytes : List ℕ) (s : Stored) (stored : List Stored) → is_open bytes ≡ true → is_whole bytes ≡ true → record { gate = place; payload = payload_at bytes } ≡ s
    → Split (place + 5 + length_at bytes) (drop (5 + length_at bytes) bytes) stored → Split place bytes (s ∷ stored)
one_more place bytes s stored opened whole is split =
    let n = length_at bytes in
    let long : 5 + n < length bytes = grind (arith, nat_tests, whole) in
    let header = take 4 (drop 1 bytes) in
    let size : length header ≡ 4 = omega (arith, length-take 4 (drop 1 bytes), length-drop 1 bytes, long) in
    let count : length (payload_at bytes) ≡ n = omega (arith, length-take n (drop 5 bytes), length-drop 5 bytes, long) in
    let payload : s.payload ≡ payload_at bytes = sym (ap (λ (x : Stored). x.payload) is) in
    let front : List ℕ = 1 ∷ header ++ (s.payload ++ split.front) in
    let is_front : bytes ≡ front ++ split.rest =
    entry_split bytes opened
    ∙ ap (λ (l : List ℕ). 1 ∷ header ++ (payload_at bytes ++ l)) split.whole
    ∙ ap (λ (p : List ℕ). 1 ∷ header ++ (p ++ (split.front ++ split.rest))) (sym payload)
    ∙ ap (λ (l : List ℕ). 1 ∷ header ++ l) (sym (append_assoc s.payload split.front split.rest))
    ∙ ap (λ (l : List ℕ). 1 ∷ l) (sym (append_assoc header (s.payload ++ split.front) split.rest)) in
    let next : place + 5 + n ≡ place + 5 + length s.payload = omega (arith, ap length payload, count) in
    let says : n ≡ length s.payload = omega (arith, ap length payload, count) in
    record {
      front = front;
      rest = split.rest;
      whole = is_front;
      rows = (header, split.front, refl, size, says, sym (ap (λ (x : Stored). x.gate) is), subst (λ p. IsRows p split.front stored) next split.rows);
      shut = split.shut;
      gate = λ some. split.gate (omega (arith, length-drop (5 + n) bytes, long));
    }

-- a whole entry, and what is read behind it
split_more : (place : ℕ) (bytes : List ℕ) (all : List Stored) (read : Result (List Stored) ℕ) → is_open bytes ≡ true → is_whole bytes ≡ true → in_front (record { gate = place; payload = payload_at bytes }) read ≡ Ok all
    → ((ss : List Stored) → read ≡ Ok ss → Split (place + 5 + length_at bytes) (drop (5 + length_at bytes) bytes) ss) → Split place bytes all
split_more place bytes all (Err e) opened whole front behind = absurd (err_not_ok e all front)
split_more place bytes [] (Ok ss) opened whole front behind = absurd (cons_not_nil _ ss (ok_is (record { gate = place; payload = payload_at bytes } ∷ ss) [] front))
split_more place bytes (s ∷ all) (Ok ss) opened whole front behind =
    let both = ok_is (record { gate = place; payload = payload_at bytes } ∷ ss) (s ∷ all) front in
    one_more place bytes s all opened whole (head_is _ s ss all both) (behind all (ap Ok (tail_is _ s ss all both)))

pub rows_split : (bound : List ℕ) (place : ℕ) (bytes : List ℕ) (stored : List Stored) → rows_from bound place bytes ≡ Ok stored → length bytes ≤ length bound → Split place bytes stored
rows_split [] place [] stored is fits = no_more place [] stored (ok_is [] stored is) refl
rows_split [] place (a ∷ bytes) stored is fits = absurd (omega (arith, fits))
rows_split (x ∷ bound) place bytes stored is fits = elim (cases_Bool (is_open bytes)) [
  | inr shut ↦ no_more place bytes stored (ok_is [] stored (sym (rows_closed (x ∷ bound) place bytes shut) ∙ is)) shut
  | inl opened ↦ elim (cases_Bool (is_whole bytes)) [
    | inr torn ↦ absurd (err_not_ok place stored (sym (rows_broken x bound place bytes opened torn) ∙ is))
    | inl whole ↦
        let n = length_at bytes in
        let long : 5 + n < length bytes = grind (arith, nat_tests, whole) in
        let shorter : length (drop (5 + n) bytes) ≤ length bound = omega (arith, fits, length-drop (5 + n) bytes, long) in
        split_more place bytes stored (rows_from bound (place + 5 + n) (drop (5 + n) bytes)) opened whole
        (sym (rows_step x bound place bytes (payload_at bytes) (drop (5 + n) bytes) n opened whole refl refl refl) ∙ is)
        (λ ss same. rows_split bound (place + 5 + n) (drop (5 + n) bytes) ss same shorter)
  ]
]
