-- What an entry of a token makes of rows in the order of their tokens.
use Rattle.std.proofs.Common.{◌≡◌, ℕ, zero, suc, ◌<◌, Bool, true, false, cond, not, ◌||◌, List, [], ◌∷◌, map, length, get_or, Some, None, sym, refl, ap, ◌∙◌, subst, arith, true≢false, bytes_eq, Contains}
use Rattle.cs_types.specs.declared.change.Change.{Change}
use Rattle.cs_types.specs.Members.{bytes_same, bytes_itself, in_head, in_tail}
use Rattle.cs_schedule.specs.declared.row.Row.{Row}
use Rattle.cs_schedule.specs.declared.update.Moved.{Moved}
use Rattle.cs_schedule.specs.Board.{IsOrdered, same_token, row_of, place_from, place_of, changed_at}
use Rattle.cs_schedule.specs.Consistent.{advanced, has_row}
use Rattle.cs_schedule.specs.Plan.{seen_with, has_no}
use Rattle.cs_schedule.specs.Update.{moved}
use Rattle.cs_schedule.proofs.Names.{text_itself}
use Rattle.cs_schedule.proofs.Places.{Below, equal_is, below_differs, above_differs, row_found}

same_bytes : (a b : List ℕ) → bytes_eq a b ≡ same_token a b
same_bytes a b = by (bytes_eq a b) (same_token a b) refl refl
  where
    by : (x y : Bool) → bytes_eq a b ≡ x → same_token a b ≡ y → x ≡ y
    by true true h k = refl
    by true false h k = absurd (true≢false (sym (subst (λ z. same_token a z ≡ true) (bytes_same a b h) (text_itself a)) ∙ k))
    by false true h k = absurd (true≢false (sym (subst (λ z. bytes_eq a z ≡ true) (equal_is a b k) (bytes_itself a)) ∙ h))
    by false false h k = refl

-- the two tests for a row of a token are one
pub has_as : (rows : List Row) (t : List ℕ) → has_row t rows ≡ not (has_no (row_of rows t))
has_as [] t = refl
has_as (r ∷ rows) t = ap (λ b. b || has_row t rows) (same_bytes r.token t) ∙ by (same_token r.token t) (has_as rows t)
  where
    by : (b : Bool) → has_row t rows ≡ not (has_no (row_of rows t)) → (b || has_row t rows) ≡ not (has_no (cond b (Some r) (row_of rows t)))
    by true k = refl
    by false k = k

pub has_some : (rows : List Row) (t : List ℕ) (r : Row) → row_of rows t ≡ Some r → has_row t rows ≡ true
has_some rows t r h = has_as rows t ∙ ap (λ o. not (has_no o)) h

pub has_none : (rows : List Row) (t : List ℕ) → row_of rows t ≡ None → has_row t rows ≡ false
has_none rows t h = has_as rows t ∙ ap (λ o. not (has_no o)) h

pub token_of : (rows : List Row) (t : List ℕ) (r : Row) → row_of rows t ≡ Some r → r.token ≡ t
token_of [] t r h = absurd cc
token_of (a ∷ rows) t r h = by (same_token a.token t) refl h (token_of rows t r)
  where
    by : (b : Bool) → same_token a.token t ≡ b → cond b (Some a) (row_of rows t) ≡ Some r → (row_of rows t ≡ Some r → r.token ≡ t) → r.token ≡ t
    by true q k f = let same : a ≡ r = cc in ap (λ (z : Row). z.token) (sym same) ∙ equal_is a.token t q
    by false q k f = f k

module _ (t : List ℕ) (n : ℕ) (cs : List Change) (fin : Bool) where
  move : ℕ → Row → Moved
  move i x = record { place = i; through = n; seen = seen_with x n cs; finished = fin }

  mine : (i : ℕ) (r : Row) → r.token ≡ t → moved (move i r) r ≡ advanced t n cs fin r
  unfolding move
  mine i r h = ap (λ z. cond z (moved (move i r) r) r) (sym (subst (λ z. bytes_eq t z ≡ true) (sym h) (bytes_itself t)))

  other : (r : Row) → same_token t r.token ≡ false → advanced t n cs fin r ≡ r
  unfolding move
  other r h = ap (λ z. cond z (moved (move 0 r) r) r) (same_bytes t r.token ∙ h)

  others : (rows : List Row) → ((a : Row) → Contains rows a → same_token t a.token ≡ false) → map (advanced t n cs fin) rows ≡ rows
  others [] h = refl
  others (r ∷ rows) h =
      ap (λ z. z ∷ map (advanced t n cs fin) rows) (other r (h r (in_head r rows)))
      ∙ ap (λ l. r ∷ l) (others rows (λ a i. h a (in_tail r a rows i)))

  turned : (a : List ℕ) → same_token a t ≡ false → same_token t a ≡ false
  turned a h = by (same_token t a) refl
    where
      by : (b : Bool) → same_token t a ≡ b → same_token t a ≡ false
      by true q = absurd (true≢false (sym (subst (λ z. same_token z t ≡ true) (equal_is t a q) (text_itself t)) ∙ h))
      by false q = q

  -- where the token has no row, none is moved
  pub none_moves : (rows : List Row) (k : ℕ) → place_from k rows t ≡ None → map (advanced t n cs fin) rows ≡ rows
  none_moves [] k h = refl
  none_moves (r ∷ rows) k h = by (same_token r.token t) refl h (none_moves rows (suc k))
    where
      by : (b : Bool) → same_token r.token t ≡ b → cond b (Some k) (place_from (suc k) rows t) ≡ None → (place_from (suc k) rows t ≡ None → map (advanced t n cs fin) rows ≡ rows) → map (advanced t n cs fin) (r ∷ rows) ≡ r ∷ rows
      by true q g f = absurd cc
      by false q g f = ap (λ z. z ∷ map (advanced t n cs fin) rows) (other r (turned r.token q)) ∙ ap (λ l. r ∷ l) (f g)

  -- where it has one, that one is moved
  one_at : (rows : List Row) (i j : ℕ) (x : Row) → IsOrdered rows → i < length rows → x ≡ get_or rows i x → x.token ≡ t → changed_at (moved (move j x)) i rows ≡ map (advanced t n cs fin) rows
  one_at [] i j x h l e q = absurd (omega (arith, l))
  one_at (r ∷ rows) zero j x h l e q =
      ap (λ z. z ∷ rows) (subst (λ (z : Row). moved (move j z) r ≡ advanced t n cs fin r) (sym e) (mine j r (subst (λ (z : Row). z.token ≡ t) e q)))
      ∙ ap (λ l. advanced t n cs fin r ∷ l) (sym (others rows (λ a i. below_differs t a.token (subst (λ z. Below z a.token) (ap (λ (z : Row). z.token) (sym e) ∙ q) (h.0 a i)))))
  one_at (r ∷ rows) (suc i) j x h l e q =
      let inside : i < length rows = omega (arith, l) in
      let low : Below r.token t = subst (λ z. Below r.token z) (ap (λ (z : Row). z.token) (sym e) ∙ q) (h.0 (get_or rows i x) (at rows i inside)) in
      ap (λ l. r ∷ l) (one_at rows i j x h.1 inside e q)
      ∙ ap (λ z. z ∷ map (advanced t n cs fin) rows) (sym (other r (above_differs t r.token low)))
    where
      at : (rows : List Row) (i : ℕ) → i < length rows → Contains rows (get_or rows i x)
      at [] i l = absurd (omega (arith, l))
      at (a ∷ rows) zero l = in_head a rows
      at (a ∷ rows) (suc i) l = in_tail a (get_or rows i x) rows (at rows i (omega (arith, l)))

  pub one_moves : (rows : List Row) (i : ℕ) (x : Row) → IsOrdered rows → Some i ≡ place_of rows t → x ≡ get_or rows i x → changed_at (moved (record { place = i; through = n; seen = seen_with x n cs; finished = fin })) i rows ≡ map (advanced t n cs fin) rows
  unfolding move
  one_moves rows i x h p e =
      let f = row_found rows t i x p in
      one_at rows i i x h f.0 e (token_of rows t x (f.1 ∙ ap Some (sym e)))
