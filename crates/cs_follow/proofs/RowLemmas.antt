-- The rows behind an entry: what they are, how many, and how much is left of them.
use Rattle.std.proofs.Common.{◌≡◌, ◌≢◌, ◌⊎◌, ℕ, suc, ◌≤◌, ◌+◌, ◌*◌, Bool, true, false, cond, not, ◌||◌, List, [], ◌∷◌, ⊎_elim, inl, inr, sym, refl, ap, ◌∙◌, subst, arith, true≢false, bytes_eq, filter, map, length, Contains, Some}
use Rattle.std.proofs.Math.Nat.{add-mul}
use Rattle.std.specs.Ordering.{nat_cmp, is_lt}
use Rattle.std.specs.Cmp.Lexicographic.{slice_cmp}
use Rattle.cs_types.specs.declared.change.Change.{Change}
use Rattle.cs_types.specs.Members.{bytes_same, bytes_itself, in_nil, in_head, in_tail, in_cons}
use Rattle.cs_link.specs.declared.batch.NewChild.{NewChild}
use Rattle.cs_schedule.specs.declared.row.Row.{Row}
use Rattle.cs_schedule.specs.Board.{IsOrdered, row_of, same_token}
use Rattle.cs_schedule.specs.Consistent.{born, advanced, has_row, put_row, put_rows, rowless}
use Rattle.cs_schedule.specs.Plan.{has_no, count_new, seen_with}
use Rattle.cs_follow.specs.Left.{row_left, row_most, rows_left}
use Rattle.cs_follow.proofs.Small.{token_itself, token_equal, below_apart}

-- ---- rows put among others

pub put_from : (r : Row) (rows : List Row) (y : Row) → Contains (put_row r rows) y → (y ≡ r) ⊎ Contains rows y
put_from r [] y i = in_cons r y [] i
put_from r (a ∷ rows) y i = by (is_lt (slice_cmp nat_cmp r.token a.token)) i (put_from r rows y)
  where
    by : (b : Bool) → Contains (cond b (r ∷ a ∷ rows) (a ∷ put_row r rows)) y → (Contains (put_row r rows) y → (y ≡ r) ⊎ Contains rows y) → (y ≡ r) ⊎ Contains (a ∷ rows) y
    by true j f = in_cons r y (a ∷ rows) j
    by false j f = ⊎_elim (λ (e : y ≡ a). inr (subst (λ z. Contains (a ∷ rows) z) (sym e) (in_head a rows))) (λ (k : Contains (put_row r rows) y). ⊎_elim (λ (e : y ≡ r). inl e) (λ (l : Contains rows y). inr (in_tail a y rows l)) (f k)) (in_cons a y (put_row r rows) j)

pub puts_from : (news rows : List Row) (y : Row) → Contains (put_rows news rows) y → Contains news y ⊎ Contains rows y
puts_from [] rows y i = inr i
puts_from (r ∷ news) rows y i =
    ⊎_elim
    (λ (j : Contains news y). inl (in_tail r y news j))
    (λ (j : Contains (put_row r rows) y). ⊎_elim (λ (e : y ≡ r). inl (subst (λ z. Contains (r ∷ news) z) (sym e) (in_head r news))) (λ (k : Contains rows y). inr k) (put_from r rows y j))
    (puts_from news (put_row r rows) y i)

put_length : (r : Row) (rows : List Row) → length (put_row r rows) ≡ suc (length rows)
put_length r [] = refl
put_length r (a ∷ rows) = by (is_lt (slice_cmp nat_cmp r.token a.token)) (put_length r rows)
  where
    by : (b : Bool) → length (put_row r rows) ≡ suc (length rows) → length (cond b (r ∷ a ∷ rows) (a ∷ put_row r rows)) ≡ suc (suc (length rows))
    by true h = refl
    by false h = ap suc h

pub puts_length : (news rows : List Row) → length (put_rows news rows) ≡ length news + length rows
puts_length [] rows = omega arith
puts_length (r ∷ news) rows = let one = put_length r rows in let more = puts_length news (put_row r rows) in omega (arith, one, more)

put_left : (e : ℕ) (r : Row) (rows : List Row) → rows_left e (put_row r rows) ≡ row_left e r + rows_left e rows
put_left e r [] = refl
put_left e r (a ∷ rows) = by (is_lt (slice_cmp nat_cmp r.token a.token)) (put_left e r rows)
  where
    by : (b : Bool) → rows_left e (put_row r rows) ≡ row_left e r + rows_left e rows → rows_left e (cond b (r ∷ a ∷ rows) (a ∷ put_row r rows)) ≡ row_left e r + (row_left e a + rows_left e rows)
    by true h = refl
    by false h = omega (arith, h)

pub puts_left : (e : ℕ) (news rows : List Row) → rows_left e (put_rows news rows) ≡ rows_left e news + rows_left e rows
puts_left e [] rows = omega arith
puts_left e (r ∷ news) rows = let one = put_left e r rows in let more = puts_left e news (put_row r rows) in omega (arith, one, more)

-- ---- rows of parts that were not read

pub born_left : (e : ℕ) (x : NewChild) → suc (row_left e (born x)) ≤ row_most e
born_left e x = omega arith

pub all_born_left : (e : ℕ) (xs : List NewChild) → rows_left e (map born xs) + length xs ≤ length xs * row_most e
all_born_left e [] = omega arith
all_born_left e (x ∷ xs) =
    let one = born_left e x in
    let more = all_born_left e xs in
    let split : suc (length xs) * row_most e ≡ 1 * row_most e + length xs * row_most e = ap (λ z. z * row_most e) (omega arith) ∙ add-mul 1 (length xs) (row_most e) in
    omega (arith, one, more, split)

-- ---- the row that is read on

abbrev pub advanced_row : List ℕ → ℕ → List Change → Bool → Row → Row
advanced_row t n cs fin r = record { token = r.token; parents = r.parents; start = r.start; through = n; seen = seen_with r n cs; finished = r.finished || fin; leased = r.leased; tries = r.tries }

module _ (t : List ℕ) (n : ℕ) (cs : List Change) (fin : Bool) where
  pub its : (r : Row) → r.token ≡ t → advanced t n cs fin r ≡ advanced_row t n cs fin r
  its r h = ap (λ b. cond b (advanced_row t n cs fin r) r) (subst (λ z. bytes_eq t z ≡ true) (sym h) (bytes_itself t))

  pub other : (r : Row) → r.token ≢ t → advanced t n cs fin r ≡ r
  other r h = by (bytes_eq t r.token) refl
    where
      by : (b : Bool) → bytes_eq t r.token ≡ b → cond b (advanced_row t n cs fin r) r ≡ r
      by true k = absurd (h (sym (bytes_same t r.token k)))
      by false k = refl

  others : (rows : List Row) → ((y : Row) → Contains rows y → y.token ≢ t) → map (advanced t n cs fin) rows ≡ rows
  others [] h = refl
  others (a ∷ rows) h = ap (λ z. z ∷ map (advanced t n cs fin) rows) (other a (h a (in_head a rows))) ∙ ap (λ l. a ∷ l) (others rows (λ y i. h y (in_tail a y rows i)))

  -- one row moves, and no other
  pub moved_left : (e : ℕ) (rows : List Row) (r : Row) → IsOrdered rows → Contains rows r → r.token ≡ t → rows_left e (map (advanced t n cs fin) rows) + row_left e r ≡ rows_left e rows + row_left e (advanced t n cs fin r)
  moved_left e [] r O i h = absurd (in_nil r i)
  moved_left e (a ∷ rows) r O i h =
      ⊎_elim
      (λ (q : r ≡ a).
      let none : (y : Row) → Contains rows y → y.token ≢ t = λ y j same. below_apart a.token y.token (O.0 y j) (ap (λ (z : Row). z.token) (sym q) ∙ h ∙ sym same) in
      let rest : rows_left e (map (advanced t n cs fin) rows) ≡ rows_left e rows = ap (rows_left e) (others rows none) in
      let one : row_left e r ≡ row_left e a = ap (row_left e) q in
      let two : row_left e (advanced t n cs fin r) ≡ row_left e (advanced t n cs fin a) = ap (λ z. row_left e (advanced t n cs fin z)) q in
      omega (arith, rest, one, two))
      (λ (j : Contains rows r).
      let apart : a.token ≢ t = λ same. below_apart a.token r.token (O.0 r j) (same ∙ sym h) in
      let one : row_left e (advanced t n cs fin a) ≡ row_left e a = ap (row_left e) (other a apart) in
      let more = moved_left e rows r O.1 j h in
      omega (arith, one, more))
      (in_cons a r rows i)

-- ---- rows by token

pub token_of : (rows : List Row) (t : List ℕ) (r : Row) → row_of rows t ≡ Some r → Contains rows r × (r.token ≡ t)
token_of [] t r h = absurd cc
token_of (a ∷ rows) t r h = by (same_token a.token t) refl h (token_of rows t r)
  where
    by : (b : Bool) → same_token a.token t ≡ b → cond b (Some a) (row_of rows t) ≡ Some r → (row_of rows t ≡ Some r → Contains rows r × (r.token ≡ t)) → Contains (a ∷ rows) r × (r.token ≡ t)
    by true q k f = let same : r ≡ a = cc in (subst (λ z. Contains (a ∷ rows) z) (sym same) (in_head a rows), ap (λ (z : Row). z.token) same ∙ token_equal a.token t q)
    by false q k f = let more = f k in (in_tail a r rows more.0, more.1)

pub row_at : (rows : List Row) (t : List ℕ) (r : Row) → IsOrdered rows → Contains rows r → r.token ≡ t → row_of rows t ≡ Some r
row_at [] t r O i h = absurd (in_nil r i)
row_at (a ∷ rows) t r O i h =
    ⊎_elim
    (λ (q : r ≡ a).
    let same : a.token ≡ t = ap (λ (z : Row). z.token) (sym q) ∙ h in
    ap (λ b. cond b (Some a) (row_of rows t)) (subst (λ z. same_token a.token z ≡ true) same (token_itself a.token)) ∙ ap Some (sym q))
    (λ (j : Contains rows r). by (same_token a.token t) refl j (row_at rows t r O.1 j h))
    (in_cons a r rows i)
  where
    by : (b : Bool) → same_token a.token t ≡ b → Contains rows r → row_of rows t ≡ Some r → cond b (Some a) (row_of rows t) ≡ Some r
    by true q j k = absurd (below_apart a.token r.token (O.0 r j) (token_equal a.token t q ∙ sym h))
    by false q j k = k

-- the two tests for a row of a token are one
same_tests : (a b : List ℕ) → bytes_eq a b ≡ same_token a b
same_tests a b = by (bytes_eq a b) (same_token a b) refl refl
  where
    by : (x y : Bool) → bytes_eq a b ≡ x → same_token a b ≡ y → x ≡ y
    by true true h k = refl
    by true false h k = absurd (true≢false (sym (subst (λ z. same_token a z ≡ true) (bytes_same a b h) (token_itself a)) ∙ k))
    by false true h k = absurd (true≢false (sym (subst (λ z. bytes_eq a z ≡ true) (token_equal a b k) (bytes_itself a)) ∙ h))
    by false false h k = refl

has_as : (rows : List Row) (t : List ℕ) → not (has_row t rows) ≡ has_no (row_of rows t)
has_as [] t = refl
has_as (r ∷ rows) t = ap (λ b. not (b || has_row t rows)) (same_tests r.token t) ∙ by (same_token r.token t) (has_as rows t)
  where
    by : (b : Bool) → not (has_row t rows) ≡ has_no (row_of rows t) → not (b || has_row t rows) ≡ has_no (cond b (Some r) (row_of rows t))
    by true k = refl
    by false k = k

-- so many children have no row
pub rowless_length : (rows : List Row) (xs : List NewChild) → length (rowless rows xs) ≡ count_new rows xs
rowless_length rows [] = refl
rowless_length rows (x ∷ xs) = by (not (has_row x.token rows)) (has_no (row_of rows x.token)) (has_as rows x.token) (rowless_length rows xs)
  where
    by : (a b : Bool) → a ≡ b → length (rowless rows xs) ≡ count_new rows xs → length (cond a (x ∷ rowless rows xs) (rowless rows xs)) ≡ length (cond b (x ∷ filter (λ y. has_no (row_of rows y.token)) xs) (filter (λ y. has_no (row_of rows y.token)) xs))
    by true true q h = ap suc h
    by true false q h = absurd (true≢false q)
    by false true q h = absurd (true≢false (sym q))
    by false false q h = h
