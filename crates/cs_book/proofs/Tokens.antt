-- Rows of a token, rows that are given back, and rows that an entry makes.
use Rattle.std.proofs.Common.{◌≡◌, ◌≢◌, ◌⊎◌, ℕ, suc, Bool, true, false, cond, List, [], ◌∷◌, Option, Some, None, ⊎_elim, inl, inr, sym, refl, ap, ◌∙◌, subst, true≢false, Contains}
use Rattle.std.specs.Prelude.{⊤, option_map}
use Rattle.std.specs.Cmp.Lexicographic.{slice_cmp, nat_list_cmp_total}
use Rattle.std.specs.declared.cmp.Ordering.{Ordering}
use Rattle.std.specs.declared.cmp.Ordering.TheVariants.{Less, Equal, Greater}
use Rattle.std.specs.Ordering.{nat_cmp, ordering_reverse, is_eq, is_lt}
use Rattle.std.proofs.lemmas.Map.Lookups.{exact_bytes}
use Rattle.cs_types.specs.Members.{in_nil, in_head, in_tail, in_cons, pairs_two}
use Rattle.cs_schedule.specs.declared.row.Row.{Row}
use Rattle.cs_schedule.specs.Board.{IsOrdered, row_of, same_token, place_from, place_of, changed_there, given_back}
use Rattle.cs_schedule.specs.Consistent.{HasEnded, IsReady, put_row, put_rows}
use Rattle.cs_book.specs.Waiting.{IsWithin}
use Rattle.cs_book.specs.Book.{rows_back}

-- ---- tokens

token_itself : (a : List ℕ) → same_token a a ≡ true
token_itself a = by (slice_cmp nat_cmp a a) (nat_list_cmp_total.antisymm a a)
  where
    by : (o : Ordering) → o ≡ ordering_reverse o → is_eq o ≡ true
    by Less h = absurd (true≢false (ap is_lt h))
    by Equal h = refl
    by Greater h = absurd (true≢false (sym (ap is_lt h)))

token_equal : (a b : List ℕ) → same_token a b ≡ true → a ≡ b
token_equal a b h = exact_bytes a b (by (slice_cmp nat_cmp a b) h)
  where
    by : (o : Ordering) → is_eq o ≡ true → o ≡ Equal
    by Less k = absurd (true≢false (sym k))
    by Equal k = refl
    by Greater k = absurd (true≢false (sym k))

not_below : (a b : List ℕ) → slice_cmp nat_cmp a b ≡ Less → a ≢ b
not_below a b h e = true≢false (sym (token_itself a) ∙ ap is_eq (subst (λ z. slice_cmp nat_cmp a z ≡ Less) (sym e) h))

abbrev Below : Row → Row → Type 0
Below a b = slice_cmp nat_cmp a.token b.token ≡ Less

-- no token has two rows
pub same_row : (rows : List Row) → IsOrdered rows → (a b : Row) → Contains rows a → Contains rows b → a.token ≡ b.token → a ≡ b
same_row rows O a b i j same =
    ⊎_elim (λ (e : a ≡ b). e)
    (λ (h : Below a b ⊎ Below b a). ⊎_elim (λ (l : Below a b). absurd (not_below a.token b.token l same)) (λ (l : Below b a). absurd (not_below b.token a.token l (sym same))) h)
    (pairs_two Below rows O a b i j)

pub token_of : (rows : List Row) (t : List ℕ) (r : Row) → row_of rows t ≡ Some r → Contains rows r × (r.token ≡ t)
token_of [] t r h = absurd cc
token_of (a ∷ rows) t r h = by (same_token a.token t) refl h (token_of rows t r)
  where
    by : (b : Bool) → same_token a.token t ≡ b → cond b (Some a) (row_of rows t) ≡ Some r → (row_of rows t ≡ Some r → Contains rows r × (r.token ≡ t)) → Contains (a ∷ rows) r × (r.token ≡ t)
    by true q k f = let same : r ≡ a = cc in (subst (λ z. Contains (a ∷ rows) z) (sym same) (in_head a rows), ap (λ (z : Row). z.token) same ∙ token_equal a.token t q)
    by false q k f = let more = f k in (in_tail a r rows more.0, more.1)

-- ---- rows put among others

put_from : (r : Row) (rows : List Row) (y : Row) → Contains (put_row r rows) y → (y ≡ r) ⊎ Contains rows y
put_from r [] y i = in_cons r y [] i
put_from r (a ∷ rows) y i = by (is_lt (slice_cmp nat_cmp r.token a.token)) i (put_from r rows y)
  where
    by : (b : Bool) → Contains (cond b (r ∷ a ∷ rows) (a ∷ put_row r rows)) y → (Contains (put_row r rows) y → (y ≡ r) ⊎ Contains rows y) → (y ≡ r) ⊎ Contains (a ∷ rows) y
    by true j f = in_cons r y (a ∷ rows) j
    by false j f = ⊎_elim (λ (e : y ≡ a). inr (subst (λ z. Contains (a ∷ rows) z) (sym e) (in_head a rows))) (λ (k : Contains (put_row r rows) y). ⊎_elim (λ (e : y ≡ r). inl e) (λ (l : Contains rows y). inr (in_tail a y rows l)) (f k)) (in_cons a y (put_row r rows) j)

pub puts_from : (news rows : List Row) (y : Row) → Contains (put_rows news rows) y → Contains news y ⊎ Contains rows y
puts_from [] rows y i = inr i
puts_from (r ∷ news) rows y i =
    ⊎_elim
    (λ (j : Contains news y). inl (in_tail r y news j))
    (λ (j : Contains (put_row r rows) y). ⊎_elim (λ (e : y ≡ r). inl (subst (λ z. Contains (r ∷ news) z) (sym e) (in_head r news))) (λ (k : Contains rows y). inr k) (put_from r rows y j))
    (puts_from news (put_row r rows) y i)

put_kept : (r : Row) (rows : List Row) (y : Row) → Contains rows y → Contains (put_row r rows) y
put_kept r [] y i = absurd (in_nil y i)
put_kept r (a ∷ rows) y i = by (is_lt (slice_cmp nat_cmp r.token a.token)) (put_kept r rows y)
  where
    by : (b : Bool) → (Contains rows y → Contains (put_row r rows) y) → Contains (cond b (r ∷ a ∷ rows) (a ∷ put_row r rows)) y
    by true f = in_tail r y (a ∷ rows) i
    by false f = ⊎_elim (λ (e : y ≡ a). subst (λ z. Contains (a ∷ put_row r rows) z) (sym e) (in_head a (put_row r rows))) (λ (k : Contains rows y). in_tail a y (put_row r rows) (f k)) (in_cons a y rows i)

pub puts_kept : (news rows : List Row) (y : Row) → Contains rows y → Contains (put_rows news rows) y
puts_kept [] rows y i = i
puts_kept (r ∷ news) rows y i = puts_kept news (put_row r rows) y (put_kept r rows y i)

-- ---- a row that is given back

-- the rows with that of a token changed
abbrev pub remade : (Row → Row) → List ℕ → List Row → List Row
remade f t [] = []
remade f t (r ∷ rows) = cond (same_token r.token t) (f r ∷ rows) (r ∷ remade f t rows)

shifted : (i : ℕ) (rows : List Row) (t : List ℕ) → place_from (suc i) rows t ≡ option_map suc (place_from i rows t)
shifted i [] t = refl
shifted i (r ∷ rows) t = by (same_token r.token t) (shifted (suc i) rows t)
  where
    by : (b : Bool) → place_from (suc (suc i)) rows t ≡ option_map suc (place_from (suc i) rows t) → cond b (Some (suc i)) (place_from (suc (suc i)) rows t) ≡ option_map suc (cond b (Some i) (place_from (suc i) rows t))
    by true h = refl
    by false h = h

behind : (f : Row → Row) (r : Row) (rows : List Row) (place : Option ℕ) → changed_there f (option_map suc place) (r ∷ rows) ≡ r ∷ changed_there f place rows
behind f r rows None = refl
behind f r rows (Some k) = refl

pub remade_is : (f : Row → Row) (t : List ℕ) (rows : List Row) → changed_there f (place_of rows t) rows ≡ remade f t rows
remade_is f t [] = refl
remade_is f t (r ∷ rows) = by (same_token r.token t) (remade_is f t rows)
  where
    by : (b : Bool) → changed_there f (place_of rows t) rows ≡ remade f t rows → changed_there f (cond b (Some 0) (place_from 1 rows t)) (r ∷ rows) ≡ cond b (f r ∷ rows) (r ∷ remade f t rows)
    by true h = refl
    by false h = ap (λ p. changed_there f p (r ∷ rows)) (shifted 0 rows t) ∙ behind f r rows (place_of rows t) ∙ ap (λ l. r ∷ l) h

-- each row of them is one of another token, or the changed one
abbrev pub IsRemade : (Row → Row) → List ℕ → List Row → Row → Type 0
IsRemade f t rows y = (Contains rows y × (y.token ≢ t)) ⊎ ((x : Row) × Contains rows x × (y ≡ f x))

pub remade_from : (f : Row → Row) (t : List ℕ) (rows : List Row) → IsOrdered rows → (y : Row) → Contains (remade f t rows) y → IsRemade f t rows y
remade_from f t [] O y i = absurd (in_nil y i)
remade_from f t (r ∷ rows) O y i = by (same_token r.token t) refl i (remade_from f t rows O.1 y)
  where
    by : (b : Bool) → same_token r.token t ≡ b → Contains (cond b (f r ∷ rows) (r ∷ remade f t rows)) y → (Contains (remade f t rows) y → IsRemade f t rows y) → IsRemade f t (r ∷ rows) y
    by true q j g =
        ⊎_elim (λ (e : y ≡ f r). inr (r, in_head r rows, e))
        (λ (k : Contains rows y). inl (in_tail r y rows k, λ same. not_below r.token y.token (O.0 y k) (token_equal r.token t q ∙ sym same)))
        (in_cons (f r) y rows j)
    by false q j g =
        ⊎_elim (λ (e : y ≡ r). inl (subst (λ z. Contains (r ∷ rows) z) (sym e) (in_head r rows), λ same. true≢false (sym (token_itself r.token) ∙ ap (λ z. same_token r.token z) (ap (λ (z : Row). z.token) (sym e) ∙ same) ∙ q)))
        (λ (k : Contains (remade f t rows) y). ⊎_elim (λ (l : Contains rows y × (y.token ≢ t)). inl (in_tail r y rows l.0, l.1)) (λ (l : (x : Row) × Contains rows x × (y ≡ f x)). inr (l.0, in_tail r l.0 rows l.1, l.2)) (g k))
        (in_cons r y (remade f t rows) j)

pub remade_to : (f : Row → Row) (t : List ℕ) (rows : List Row) (x : Row) → Contains rows x → Contains (remade f t rows) x ⊎ Contains (remade f t rows) (f x)
remade_to f t [] x i = absurd (in_nil x i)
remade_to f t (r ∷ rows) x i = by (same_token r.token t) (in_cons r x rows i) (remade_to f t rows x)
  where
    by : (b : Bool) → (x ≡ r) ⊎ Contains rows x → (Contains rows x → Contains (remade f t rows) x ⊎ Contains (remade f t rows) (f x)) → Contains (cond b (f r ∷ rows) (r ∷ remade f t rows)) x ⊎ Contains (cond b (f r ∷ rows) (r ∷ remade f t rows)) (f x)
    by true (inl e) g = inr (subst (λ z. Contains (f r ∷ rows) (f z)) (sym e) (in_head (f r) rows))
    by true (inr k) g = inl (in_tail (f r) x rows k)
    by false (inl e) g = inl (subst (λ z. Contains (r ∷ remade f t rows) z) (sym e) (in_head r (remade f t rows)))
    by false (inr k) g = ⊎_elim (λ (l : Contains (remade f t rows) x). inl (in_tail r x (remade f t rows) l)) (λ (l : Contains (remade f t rows) (f x)). inr (in_tail r (f x) (remade f t rows) l)) (g k)

-- a row of another token than this one
abbrev pub IsOther : Option (List ℕ) → Row → Type 0
IsOther None y = ⊤
IsOther (Some t) y = y.token ≢ t

-- those that are leased are ready, but for the row of this token
abbrev pub AreReadyBut : Option (List ℕ) → List Row → Type 0
AreReadyBut token rows = (y : Row) → Contains rows y → y.leased ≡ true → IsOther token y → IsReady rows y

ended_back : (t : List ℕ) (caught_up : Bool) (rows : List Row) (u : List ℕ) → HasEnded rows u → HasEnded (remade (given_back caught_up) t rows) u
ended_back t caught_up rows u (x, i, token, ended) =
    ⊎_elim
    (λ (j : Contains (remade (given_back caught_up) t rows) x). (x, j, token, ended))
    (λ (j : Contains (remade (given_back caught_up) t rows) (given_back caught_up x)). (given_back caught_up x, j, token, ended))
    (remade_to (given_back caught_up) t rows x i)

pub ready_back : (token : Option (List ℕ)) (caught_up : Bool) (rows : List Row) → IsOrdered rows → AreReadyBut token rows → (y : Row) → Contains (rows_back token caught_up rows) y → y.leased ≡ true → IsReady (rows_back token caught_up rows) y
ready_back None caught_up rows O R y i l = R y i l tt
ready_back (Some t) caught_up rows O R y i l =
    let f = given_back caught_up in
    let is = remade_is f t rows in
    ⊎_elim
    (λ (h : Contains rows y × (y.token ≢ t)).
    let ready = R y h.0 l h.1 in
    record {
      there = i;
      unfinished = ready.unfinished;
      parents = λ u j. subst (λ z. HasEnded z u) (sym is) (ended_back t caught_up rows u (ready.parents u j));
    })
    (λ (h : (x : Row) × Contains rows x × (y ≡ f x)). absurd (true≢false (sym l ∙ ap (λ (z : Row). z.leased) h.2)))
    (remade_from f t rows O y (subst (λ z. Contains z y) is i))

pub within_back : (e : ℕ) (token : Option (List ℕ)) (caught_up : Bool) (rows : List Row) → IsOrdered rows → ((y : Row) → Contains rows y → IsWithin e y) → (y : Row) → Contains (rows_back token caught_up rows) y → IsWithin e y
within_back e None caught_up rows O h y i = h y i
within_back e (Some t) caught_up rows O h y i =
    let f = given_back caught_up in
    ⊎_elim
    (λ (k : Contains rows y × (y.token ≢ t)). h y k.0)
    (λ (k : (x : Row) × Contains rows x × (y ≡ f x)). let w = h k.0 k.1 in subst (IsWithin e) (sym k.2) (record { start = w.start; end = w.end }))
    (remade_from f t rows O y (subst (λ z. Contains z y) (remade_is f t rows) i))

pub none_back : (token : Option (List ℕ)) (caught_up : Bool) (rows : List Row) → rows ≡ [] → rows_back token caught_up rows ≡ []
none_back None caught_up rows none = none
none_back (Some t) caught_up rows none = ap (λ l. changed_there (given_back caught_up) (place_of l t) l) none

-- the row with a token is the token's
pub row_at : (rows : List Row) (t : List ℕ) (x : Row) → IsOrdered rows → Contains rows x → x.token ≡ t → row_of rows t ≡ Some x
row_at [] t x O i h = absurd (in_nil x i)
row_at (a ∷ rows) t x O i h = by (same_token a.token t) refl (in_cons a x rows i) (row_at rows t x O.1)
  where
    by : (b : Bool) → same_token a.token t ≡ b → (x ≡ a) ⊎ Contains rows x → (Contains rows x → x.token ≡ t → row_of rows t ≡ Some x) → cond b (Some a) (row_of rows t) ≡ Some x
    by true q (inl e) g = ap Some (sym e)
    by true q (inr j) g = absurd (not_below a.token x.token (O.0 x j) (token_equal a.token t q ∙ sym h))
    by false q (inl e) g = absurd (true≢false (sym (token_itself a.token) ∙ ap (λ z. same_token a.token z) (ap (λ (z : Row). z.token) (sym e) ∙ h) ∙ q))
    by false q (inr j) g = g j h
