-- Rows that are put among others in the order of their tokens.
use Rattle.std.proofs.Common.{◌≡◌, ◌≢◌, ℕ, zero, suc, ◌<◌, ◌≤◌, Bool, true, false, cond, List, [], ◌∷◌, length, get_or, ⊎_elim, sym, refl, ap, ◌∙◌, subst, arith, true≢false, Contains}
use Rattle.std.specs.declared.cmp.Ordering.{Ordering}
use Rattle.std.specs.declared.cmp.Ordering.TheVariants.{Less, Equal, Greater}
use Rattle.std.specs.List.{insert}
use Rattle.std.specs.Ordering.{nat_cmp, ordering_reverse, is_lt}
use Rattle.std.specs.Cmp.Lexicographic.{slice_cmp, nat_list_cmp_total}
use Rattle.std.proofs.lemmas.Bool.{cases_lt, cases_Bool}
use Rattle.std.proofs.lemmas.Map.Lookups.{exact_bytes}
use Rattle.cs_types.specs.Members.{Pairwise, in_nil, in_head, in_tail, in_cons}
use Rattle.cs_schedule.specs.declared.row.Row.{Row}
use Rattle.cs_schedule.specs.Board.{IsOrdered}
use Rattle.cs_schedule.specs.Consistent.{put_row, put_rows}
use Rattle.cs_schedule.proofs.Moves.{put_kept, put_from}
use Rattle.cs_schedule.proofs.Places.{Below, ordered_at, below_trans, same_at}

-- whether a token is below a row's
abbrev pub before : List ℕ → Row → Bool
before t r = is_lt (slice_cmp nat_cmp t r.token)

pub put_at : (r : Row) (rows : List Row) (i : ℕ) → i ≤ length rows → ((k : ℕ) (d : Row) → k < i → before r.token (get_or rows k d) ≡ false) → ((d : Row) → i < length rows → before r.token (get_or rows i d) ≡ true) → put_row r rows ≡ insert rows i r
put_at r [] zero l below above = refl
put_at r [] (suc i) l below above = absurd (omega (arith, l))
put_at r (a ∷ rows) zero l below above = ap (λ b. cond b (r ∷ a ∷ rows) (a ∷ put_row r rows)) (above r (omega arith))
put_at r (a ∷ rows) (suc i) l below above =
    ap (λ b. cond b (r ∷ a ∷ rows) (a ∷ put_row r rows)) (below 0 r (omega arith))
    ∙ ap (λ l. a ∷ l) (put_at r rows i (omega (arith, l)) (λ k d m. below (suc k) d (omega (arith, m))) (λ d m. above d (omega (arith, m))))

pub lt_is : (o : Ordering) → is_lt o ≡ true → o ≡ Less
lt_is Less h = refl
lt_is Equal h = absurd (true≢false (sym h))
lt_is Greater h = absurd (true≢false (sym h))

-- where a token is below a row, it is below the later ones
pub before_more : (rows : List Row) (t : List ℕ) (m k : ℕ) (d row : Row) → IsOrdered rows → m < length rows → k < length rows → before t (get_or rows m row) ≡ true → m ≤ k → before t (get_or rows k d) ≡ true
before_more rows t m k d row h l n e o =
    let low : Below t (get_or rows m d).token = subst (λ (z : Row). Below t z.token) (same_at rows m row d l) (lt_is (slice_cmp nat_cmp t (get_or rows m row).token) e) in
    ⊎_elim
    (λ (a : m < k). ap is_lt (below_trans t (get_or rows m d).token (get_or rows k d).token low (ordered_at rows h m k d a n)))
    (λ (a : k ≤ m). let same : k ≡ m = omega (arith, a, o) in subst (λ i. before t (get_or rows i d) ≡ true) (sym same) (ap is_lt low))
    (cases_lt m k)

-- where it is not below a row, it is not below the earlier ones
pub before_less : (rows : List Row) (t : List ℕ) (m k : ℕ) (d row : Row) → IsOrdered rows → m < length rows → before t (get_or rows m row) ≡ false → k ≤ m → before t (get_or rows k d) ≡ false
before_less rows t m k d row h l e o =
    ⊎_elim
    (λ (b : before t (get_or rows k d) ≡ true). absurd (true≢false (sym (before_more rows t k m row d h (omega (arith, l, o)) l b o) ∙ e)))
    (λ (b : before t (get_or rows k d) ≡ false). b)
    (cases_Bool (before t (get_or rows k d)))

-- rows that are in order with more rows are so without them
pub put_ordered_before : (r : Row) (rows : List Row) → IsOrdered (put_row r rows) → IsOrdered rows
put_ordered_before r [] h = tt
put_ordered_before r (a ∷ rows) h = by (before r.token a) h (put_ordered_before r rows)
  where
    by : (b : Bool) → IsOrdered (cond b (r ∷ a ∷ rows) (a ∷ put_row r rows)) → (IsOrdered (put_row r rows) → IsOrdered rows) → IsOrdered (a ∷ rows)
    by true k f = k.1
    by false k f = (λ y j. k.0 y (put_kept r rows y j), f k.1)

pub puts_ordered_before : (news rows : List Row) → IsOrdered (put_rows news rows) → IsOrdered rows
puts_ordered_before [] rows h = h
puts_ordered_before (r ∷ news) rows h = put_ordered_before r rows (puts_ordered_before news (put_row r rows) h)

above : (a b : List ℕ) → a ≢ b → is_lt (slice_cmp nat_cmp b a) ≡ false → Below a b
above a b n h = by (slice_cmp nat_cmp b a) refl h
  where
    by : (o : Ordering) → slice_cmp nat_cmp b a ≡ o → is_lt o ≡ false → Below a b
    by Less e k = absurd (true≢false k)
    by Equal e k = absurd (n (sym (exact_bytes b a e)))
    by Greater e k = nat_list_cmp_total.antisymm a b ∙ ap ordering_reverse e

-- a row with a new token goes among rows in order
pub put_ordered : (r : Row) (rows : List Row) → IsOrdered rows → ((a : Row) → Contains rows a → a.token ≢ r.token) → IsOrdered (put_row r rows)
put_ordered r [] h n = (λ y j. absurd (in_nil y j), tt)
put_ordered r (a ∷ rows) h n = by (before r.token a) refl (put_ordered r rows h.1 (λ y j. n y (in_tail a y rows j)))
  where
    by : (b : Bool) → before r.token a ≡ b → IsOrdered (put_row r rows) → IsOrdered (cond b (r ∷ a ∷ rows) (a ∷ put_row r rows))
    by true e f =
        let low : Below r.token a.token = lt_is (slice_cmp nat_cmp r.token a.token) e in (
          λ y j. ⊎_elim
              (λ (q : y ≡ a). subst (λ (z : Row). Below r.token z.token) (sym q) low)
              (λ (k : Contains rows y). below_trans r.token a.token y.token low (h.0 y k))
              (in_cons a y rows j),
          h,
        )
    by false e f = (
      λ y j. ⊎_elim
          (λ (q : y ≡ r). subst (λ (z : Row). Below a.token z.token) (sym q) (above a.token r.token (n a (in_head a rows)) e))
          (λ (k : Contains rows y). h.0 y k)
          (put_from r rows y j),
      f,
    )

-- new rows of different tokens, none of which is an old row's, go among rows in order
pub puts_ordered : (news rows : List Row) → IsOrdered rows → Pairwise (λ (a b : Row). a.token ≢ b.token) news → ((r a : Row) → Contains news r → Contains rows a → a.token ≢ r.token) → IsOrdered (put_rows news rows)
puts_ordered [] rows h apart n = h
puts_ordered (r ∷ news) rows h apart n =
    puts_ordered news (put_row r rows) (put_ordered r rows h (λ a j. n r a (in_head r news) j)) apart.1
    (λ x a i j. ⊎_elim
    (λ (q : a ≡ r). λ e. apart.0 x i (sym (ap (λ (z : Row). z.token) q) ∙ e))
    (λ (k : Contains rows a). n x a (in_tail r x news i) k)
    (put_from r rows a j))

pub put_longer : (r : Row) (rows : List Row) → length (put_row r rows) ≡ suc (length rows)
put_longer r [] = refl
put_longer r (a ∷ rows) = by (before r.token a) (put_longer r rows)
  where
    by : (b : Bool) → length (put_row r rows) ≡ suc (length rows) → length (cond b (r ∷ a ∷ rows) (a ∷ put_row r rows)) ≡ suc (suc (length rows))
    by true f = refl
    by false f = ap suc f
