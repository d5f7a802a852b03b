-- What rows say of a token, where no token has two of them.
use Rattle.std.proofs.Common.{◌≡◌, ◌⊎◌, ℕ, ◌≤◌, Bool, true, false, cond, List, [], ◌∷◌, Option, Some, None, ⊎_elim, inl, inr, sym, refl, ap, ◌∙◌, subst, true≢false, Contains}
use Rattle.cs_types.specs.Members.{in_nil, in_head, in_tail, in_cons}
use Rattle.cs_schedule.specs.declared.row.Row.{Row}
use Rattle.cs_schedule.specs.Board.{same_token, row_of}
use Rattle.cs_schedule.specs.Consistent.{HasRow}
use Rattle.cs_schedule.specs.Rows.{next_of}
use Rattle.cs_room.specs.Room.{next_with}
use Rattle.cs_room.proofs.Names.{token_itself, token_equal}

abbrev pub Single : List Row → Type 0
Single rows = (a b : Row) → Contains rows a → Contains rows b → a.token ≡ b.token → a ≡ b

single_tail : (r : Row) (rows : List Row) → Single (r ∷ rows) → Single rows
single_tail r rows S a b i j t = S a b (in_tail r a rows i) (in_tail r b rows j) t

its_token : (a : Row) (t : List ℕ) → a.token ≡ t → same_token a.token t ≡ true
its_token a t h = subst (λ z. same_token a.token z ≡ true) h (token_itself a.token)

pub row_none : (rows : List Row) (t : List ℕ) → (HasRow rows t → ⊥) → row_of rows t ≡ None
row_none [] t none = refl
row_none (r ∷ rows) t none = by (same_token r.token t) refl (row_none rows t (λ h. none (h.0, in_tail r h.0 rows h.1, h.2)))
  where
    by : (c : Bool) → same_token r.token t ≡ c → row_of rows t ≡ None → cond c (Some r) (row_of rows t) ≡ None
    by true h k = absurd (none (r, in_head r rows, token_equal r.token t h))
    by false h k = k

pub row_found : (rows : List Row) (t : List ℕ) (r : Row) → Contains rows r → r.token ≡ t → Single rows → row_of rows t ≡ Some r
row_found [] t r i h S = absurd (in_nil r i)
row_found (a ∷ rows) t r i h S = by (same_token a.token t) refl (in_cons a r rows i) (λ j. row_found rows t r j h (single_tail a rows S))
  where
    by : (c : Bool) → same_token a.token t ≡ c → (r ≡ a) ⊎ Contains rows r → (Contains rows r → row_of rows t ≡ Some r) → cond c (Some a) (row_of rows t) ≡ Some r
    by true g j k = ap Some (S a r (in_head a rows) i (token_equal a.token t g ∙ sym h))
    by false g (inl q) k = absurd (true≢false (sym (its_token a t (ap (λ (z : Row). z.token) (sym q) ∙ h)) ∙ g))
    by false g (inr j) k = k j

pub look : (rows : List Row) (t : List ℕ) → HasRow rows t ⊎ (HasRow rows t → ⊥)
look [] t = inr (λ h. in_nil h.0 h.1)
look (r ∷ rows) t = by (same_token r.token t) refl (look rows t)
  where
    by : (c : Bool) → same_token r.token t ≡ c → HasRow rows t ⊎ (HasRow rows t → ⊥) → HasRow (r ∷ rows) t ⊎ (HasRow (r ∷ rows) t → ⊥)
    by true h k = inl (r, in_head r rows, token_equal r.token t h)
    by false h (inl k) = inl (k.0, in_tail r k.0 rows k.1, k.2)
    by false h (inr none) = inr (λ k. ⊎_elim
        (λ (q : k.0 ≡ r). true≢false (sym (its_token r t (ap (λ (z : Row). z.token) (sym q) ∙ k.2)) ∙ h))
        (λ (j : Contains rows k.0). none (k.0, j, k.2))
        (in_cons r k.0 rows k.1))

-- the row of a token, as it is found
pub row_there : (rows : List Row) (t : List ℕ) (r : Row) → row_of rows t ≡ Some r → Contains rows r × (r.token ≡ t)
row_there [] t r h = absurd cc
row_there (a ∷ rows) t r h = by (same_token a.token t) refl h (row_there rows t r)
  where
    by : (b : Bool) → same_token a.token t ≡ b → cond b (Some a) (row_of rows t) ≡ Some r → (row_of rows t ≡ Some r → Contains rows r × (r.token ≡ t)) → Contains (a ∷ rows) r × (r.token ≡ t)
    by true q k f = let same : r ≡ a = cc in (subst (λ z. Contains (a ∷ rows) z) (sym same) (in_head a rows), ap (λ (z : Row). z.token) same ∙ token_equal a.token t q)
    by false q k f = let more = f k in (in_tail a r rows more.0, more.1)

-- where no row has a moment below s, no part has
pub next_low : (rows : List Row) (t : List ℕ) (s from : ℕ) → ((r : Row) → Contains rows r → s ≤ next_of r) → s ≤ from → s ≤ next_with (row_of rows t) from
next_low rows t s from low l = by (row_of rows t) refl
  where
    by : (o : Option Row) → row_of rows t ≡ o → s ≤ next_with o from
    by None h = l
    by (Some r) h = low r (row_there rows t r h).0
