-- How many rows were tried, behind an entry and behind a lease that is given back.
use Rattle.std.proofs.Common.{◌≡◌, ◌⊎◌, ℕ, suc, ◌+◌, ◌≤◌, Bool, true, false, cond, List, [], ◌∷◌, length, map, filter, ⊎_elim, inl, inr, sym, refl, ap, ◌∙◌, subst, arith, true≢false, Contains, bytes_eq, nat_le}
use Rattle.std.specs.Ordering.{nat_cmp, is_lt}
use Rattle.std.specs.Cmp.Lexicographic.{slice_cmp}
use Rattle.cs_types.specs.declared.change.Change.{Change}
use Rattle.cs_types.specs.Members.{in_nil, in_head, in_tail, in_cons}
use Rattle.cs_schedule.specs.declared.row.Row.{Row}
use Rattle.cs_schedule.specs.Board.{same_token, given_back}
use Rattle.cs_schedule.specs.Consistent.{advanced, put_row, put_rows}
use Rattle.cs_follow.specs.Pauses.{reached, was_tried, count_tried}
use Rattle.cs_follow.proofs.AtRest.{remade}
use Rattle.cs_follow.proofs.RowLemmas.{advanced_row}
use Rattle.cs_follow.proofs.Small.{true_le, le_true, token_itself, token_equal}

-- ---- one row

some_tried : (r : Row) → 1 ≤ r.tries → was_tried r ≡ 1
some_tried r h = ap (λ b. cond b 1 0) (true_le 1 r.tries h)

most_tried : (r : Row) → was_tried r ≤ 1
most_tried r = by (nat_le 1 r.tries)
  where
    by : (b : Bool) → cond b 1 0 ≤ 1
    by true = omega arith
    by false = omega arith

none_tried : (r : Row) → r.tries ≡ 0 → was_tried r ≡ 0
none_tried r h = ap (λ n. cond (nat_le 1 n) 1 0) h

back_once : (r : Row) → was_tried (given_back true r) ≡ 1
back_once r = some_tried (given_back true r) (omega arith)

back_tried : (caught_up : Bool) (r : Row) → was_tried r ≤ was_tried (given_back caught_up r)
back_tried true r = let one = back_once r in let most = most_tried r in omega (arith, one, most)
back_tried false r = let same : was_tried (given_back false r) ≡ was_tried r = refl in omega (arith, same)

moved_once : (t : List ℕ) (n : ℕ) (cs : List Change) (fin : Bool) (r : Row) → was_tried (advanced t n cs fin r) ≡ was_tried r
moved_once t n cs fin r = by (bytes_eq t r.token)
  where
    by : (b : Bool) → was_tried (cond b (advanced_row t n cs fin r) r) ≡ was_tried r
    by true = refl
    by false = refl

-- ---- all rows

put_tried : (r : Row) (rows : List Row) → count_tried (put_row r rows) ≡ was_tried r + count_tried rows
put_tried r [] = refl
put_tried r (a ∷ rows) = by (is_lt (slice_cmp nat_cmp r.token a.token)) (put_tried r rows)
  where
    by : (b : Bool) → count_tried (put_row r rows) ≡ was_tried r + count_tried rows → count_tried (cond b (r ∷ a ∷ rows) (a ∷ put_row r rows)) ≡ was_tried r + (was_tried a + count_tried rows)
    by true h = refl
    by false h = omega (arith, h)

pub puts_tried : (news rows : List Row) → count_tried rows ≤ count_tried (put_rows news rows)
puts_tried [] rows = omega arith
puts_tried (r ∷ news) rows = let one = put_tried r rows in let more = puts_tried news (put_row r rows) in omega (arith, one, more)

pub moved_tried : (t : List ℕ) (n : ℕ) (cs : List Change) (fin : Bool) (rows : List Row) → count_tried (map (advanced t n cs fin) rows) ≡ count_tried rows
moved_tried t n cs fin [] = refl
moved_tried t n cs fin (r ∷ rows) = let one = moved_once t n cs fin r in let more = moved_tried t n cs fin rows in omega (arith, one, more)

-- ---- a lease given back

pub remade_of : (f : Row → Row) (t : List ℕ) (rows : List Row) (y : Row) → Contains (remade f t rows) y → Contains rows y ⊎ ((z : Row) × Contains rows z × (z.token ≡ t) × (y ≡ f z))
remade_of f t [] y i = absurd (in_nil y i)
remade_of f t (r ∷ rows) y i = by (same_token r.token t) refl i (remade_of f t rows y)
  where
    by : (b : Bool) → same_token r.token t ≡ b → Contains (cond b (f r ∷ rows) (r ∷ remade f t rows)) y → (Contains (remade f t rows) y → Contains rows y ⊎ ((z : Row) × Contains rows z × (z.token ≡ t) × (y ≡ f z))) → Contains (r ∷ rows) y ⊎ ((z : Row) × Contains (r ∷ rows) z × (z.token ≡ t) × (y ≡ f z))
    by true q j g =
        ⊎_elim
        (λ (e : y ≡ f r). inr (r, in_head r rows, token_equal r.token t q, e))
        (λ (k : Contains rows y). inl (in_tail r y rows k))
        (in_cons (f r) y rows j)
    by false q j g =
        ⊎_elim
        (λ (e : y ≡ r). inl (subst (λ z. Contains (r ∷ rows) z) (sym e) (in_head r rows)))
        (λ (k : Contains (remade f t rows) y).
        ⊎_elim
        (λ (l : Contains rows y). inl (in_tail r y rows l))
        (λ (l : (z : Row) × Contains rows z × (z.token ≡ t) × (y ≡ f z)). inr (l.0, in_tail r l.0 rows l.1, l.2, l.3))
        (g k))
        (in_cons r y (remade f t rows) j)

pub remade_none : (f : Row → Row) (t : List ℕ) (rows : List Row) → remade f t rows ≡ [] → rows ≡ []
remade_none f t [] h = refl
remade_none f t (r ∷ rows) h = by (same_token r.token t) h
  where
    by : (b : Bool) → cond b (f r ∷ rows) (r ∷ remade f t rows) ≡ [] → (r ∷ rows) ≡ []
    by true k = absurd cc
    by false k = absurd cc

pub remade_tried : (caught_up : Bool) (t : List ℕ) (rows : List Row) → count_tried rows ≤ count_tried (remade (given_back caught_up) t rows)
remade_tried caught_up t [] = omega arith
remade_tried caught_up t (r ∷ rows) = by (same_token r.token t) (back_tried caught_up r) (remade_tried caught_up t rows)
  where
    by : (b : Bool) → was_tried r ≤ was_tried (given_back caught_up r) → count_tried rows ≤ count_tried (remade (given_back caught_up) t rows) → was_tried r + count_tried rows ≤ count_tried (cond b (given_back caught_up r ∷ rows) (r ∷ remade (given_back caught_up) t rows))
    by true h k = omega (arith, h)
    by false h k = omega (arith, k)

-- one more, where the row was not tried before
pub remade_more : (t : List ℕ) (rows : List Row) → ((z : Row) → Contains rows z → z.token ≡ t → z.tries ≡ 0) → (r : Row) → Contains rows r → r.token ≡ t → suc (count_tried rows) ≤ count_tried (remade (given_back true) t rows)
remade_more t [] none r i its = absurd (in_nil r i)
remade_more t (a ∷ rows) none r i its = by (same_token a.token t) refl (λ j. remade_more t rows (λ z k. none z (in_tail a z rows k)) r j its)
  where
    by : (b : Bool) → same_token a.token t ≡ b → (Contains rows r → suc (count_tried rows) ≤ count_tried (remade (given_back true) t rows)) → suc (was_tried a + count_tried rows) ≤ count_tried (cond b (given_back true a ∷ rows) (a ∷ remade (given_back true) t rows))
    by true q f =
        let before = none_tried a (none a (in_head a rows) (token_equal a.token t q)) in
        let after = back_once a in
        omega (arith, before, after)
    by false q f = ⊎_elim
        (λ (e : r ≡ a). absurd (true≢false (sym (token_itself a.token) ∙ ap (λ z. same_token a.token z) (ap (λ (z : Row). z.token) (sym e) ∙ its) ∙ q)))
        (λ (j : Contains rows r). let more = f j in omega (arith, more))
        (in_cons a r rows i)

-- ---- at the end

-- where the tried rows are complete up to a moment, so many are
pub tried_reached : (moment : ℕ) (rows : List Row) → ((r : Row) → Contains rows r → 1 ≤ r.tries → moment ≤ r.through) → count_tried rows ≤ reached moment rows
tried_reached moment [] reach = omega arith
tried_reached moment (r ∷ rows) reach = by (nat_le 1 r.tries) refl (nat_le moment r.through) refl (tried_reached moment rows (λ z k. reach z (in_tail r z rows k)))
  where
    by : (a : Bool) → nat_le 1 r.tries ≡ a → (b : Bool) → nat_le moment r.through ≡ b → count_tried rows ≤ reached moment rows → cond a 1 0 + count_tried rows ≤ length (cond b (r ∷ filter (λ z. nat_le moment z.through) rows) (filter (λ z. nat_le moment z.through) rows))
    by true p true q h = omega (arith, h)
    by true p false q h = absurd (true≢false (sym (true_le moment r.through (reach r (in_head r rows) (le_true 1 r.tries p))) ∙ q))
    by false p true q h = omega (arith, h)
    by false p false q h = omega (arith, h)
