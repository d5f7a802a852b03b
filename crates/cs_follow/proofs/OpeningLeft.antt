-- The entry that opens a window leaves less that may still be added.
use Rattle.std.proofs.Common.{◌≡◌, ◌≢◌, ◌⊎◌, ℕ, suc, ◌<◌, ◌≤◌, ◌+◌, ◌-◌, ◌*◌, Bool, true, false, cond, List, [], ◌∷◌, Option, Some, None, ⊎_elim, inl, inr, sym, refl, ap, ◌∙◌, subst, arith, true≢false, bytes_eq, map, length, Contains}
use Rattle.std.specs.Ordering.{nat_cmp, is_lt}
use Rattle.std.specs.Cmp.Lexicographic.{slice_cmp}
use Rattle.std.specs.declared.cmp.Ordering.{Ordering}
use Rattle.std.specs.declared.cmp.Ordering.TheVariants.{Less, Equal, Greater}
use Rattle.std.proofs.lemmas.Bool.{and_parts}
use Rattle.cs_types.specs.Members.{bytes_same, bytes_itself, in_nil, in_head, in_tail, in_cons, in_map}
use Rattle.cs_link.specs.declared.batch.NewChild.{NewChild}
use Rattle.cs_schedule.specs.declared.entry.Entry.{Entry}
use Rattle.cs_schedule.specs.declared.entry.Entry.TheVariants.{Opened}
use Rattle.cs_schedule.specs.declared.row.Row.{Row}
use Rattle.cs_schedule.specs.Consistent.{born, put_rows}
use Rattle.cs_schedule.specs.Plan.{count_new, too_many}
use Rattle.cs_schedule.specs.Spelling.{is_above, are_rising}
use Rattle.cs_schedule.specs.Update.{applied, Opens}
use Rattle.cs_follow.specs.Left.{row_most, rows_left, left_of}
use Rattle.cs_follow.proofs.Lowering.{paid}
use Rattle.cs_follow.proofs.PlannedCases.{not_too_many}
use Rattle.cs_follow.proofs.RowLemmas.{puts_length, puts_left, all_born_left}
use Rattle.cs_follow.proofs.Small.{Below, map_length, below_apart, below_trans}

-- ---- rising tokens are no more than the list that has them all

abbrev less : List ℕ → List (List ℕ) → List (List ℕ)
less t [] = []
less t (u ∷ us) = cond (bytes_eq u t) us (u ∷ less t us)

less_length : (t : List ℕ) (us : List (List ℕ)) → Contains us t → suc (length (less t us)) ≡ length us
less_length t [] i = absurd (in_nil t i)
less_length t (u ∷ us) i = by (bytes_eq u t) refl (in_cons u t us i) (less_length t us)
  where
    by : (b : Bool) → bytes_eq u t ≡ b → (t ≡ u) ⊎ Contains us t → (Contains us t → suc (length (less t us)) ≡ length us) → suc (length (cond b us (u ∷ less t us))) ≡ suc (length us)
    by true q c f = refl
    by false q (inl e) f = absurd (true≢false (sym (subst (λ z. bytes_eq u z ≡ true) (sym e) (bytes_itself u)) ∙ q))
    by false q (inr j) f = ap suc (f j)

less_kept : (t v : List ℕ) (us : List (List ℕ)) → Contains us v → v ≢ t → Contains (less t us) v
less_kept t v [] i differs = absurd (in_nil v i)
less_kept t v (u ∷ us) i differs = by (bytes_eq u t) refl (in_cons u v us i) (λ j. less_kept t v us j differs)
  where
    by : (b : Bool) → bytes_eq u t ≡ b → (v ≡ u) ⊎ Contains us v → (Contains us v → Contains (less t us) v) → Contains (cond b us (u ∷ less t us)) v
    by true q (inl e) f = absurd (differs (e ∙ bytes_same u t q))
    by true q (inr j) f = j
    by false q (inl e) f = subst (λ z. Contains (u ∷ less t us) z) (sym e) (in_head u (less t us))
    by false q (inr j) f = in_tail u v (less t us) (f j)

lt_is : (o : Ordering) → is_lt o ≡ true → o ≡ Less
lt_is Less h = refl
lt_is Equal h = absurd (true≢false (sym h))
lt_is Greater h = absurd (true≢false (sym h))

rises_from : (t : List ℕ) (ts : List (List ℕ)) → are_rising (t ∷ ts) ≡ true → (v : List ℕ) → Contains ts v → Below t v
rises_from t [] h v i = absurd (in_nil v i)
rises_from t (u ∷ ts) h v i =
    let p = and_parts (is_above t (u ∷ ts)) (are_rising (u ∷ ts)) h in
    let first : Below t u = lt_is (slice_cmp nat_cmp t u) p.0 in
    ⊎_elim
    (λ (e : v ≡ u). subst (Below t) (sym e) first)
    (λ (j : Contains ts v). below_trans t u v first (rises_from u ts p.1 v j))
    (in_cons u v ts i)

fewer : (ts us : List (List ℕ)) → are_rising ts ≡ true → ((t : List ℕ) → Contains ts t → Contains us t) → length ts ≤ length us
fewer [] us h f = omega arith
fewer (t ∷ ts) us h f =
    let p = and_parts (is_above t ts) (are_rising ts) h in
    let rest = fewer ts (less t us) p.1 (λ v i. less_kept t v us (f v (in_tail t v ts i)) (λ e. below_apart t v (rises_from t ts h v i) (sym e))) in
    let one = less_length t us (f t (in_head t ts)) in
    omega (arith, rest, one)

-- ---- the rows of the opening

all_new : (xs : List NewChild) → count_new [] xs ≡ length xs
all_new [] = refl
all_new (x ∷ xs) = ap suc (all_new xs)

some_token : (tokens : List (List ℕ)) (xs : List NewChild) → 0 < length xs → Opens tokens xs → 0 < length tokens
some_token (t ∷ tokens) xs some o = omega arith
some_token [] [] some o = absurd (omega (arith, some))
some_token [] (x ∷ xs) some o = absurd (in_nil x.token ((o.same x.token).1 (x, in_head x xs, refl)))

part_at : ℕ → List ℕ → NewChild
part_at s t = record { token = t; parents = []; start = s }

pub opened_less : (e s : ℕ) (rows : List Row) (xs : List NewChild) (tokens : List (List ℕ)) (o : Option Entry) → rows ≡ [] → 0 < length xs → too_many rows xs ≡ None → Opens tokens xs → o ≡ Some (Opened tokens)
    → left_of e (applied s rows o) < left_of e rows
unfolding part_at
opened_less e s rows xs tokens o none some few opens is =
    let parts = map (part_at s) tokens in
    let new = map born parts in
    let after = put_rows new [] in
    let bound : 0 + count_new [] xs ≤ 65536 = not_too_many [] xs (subst (λ l. too_many l xs ≡ None) none few) in
    let all = all_new xs in
    let most = fewer tokens (map (λ (y : NewChild). y.token) xs) opens.rising (λ t i. let u = (opens.same t).0 i in subst (λ z. Contains (map (λ (y : NewChild). y.token) xs) z) u.2 (in_map (λ (y : NewChild). y.token) u.0 xs u.1)) in
    let same_count : length (map (λ (y : NewChild). y.token) xs) ≡ length xs = map_length (λ (y : NewChild). y.token) xs in
    let count : length new ≡ length tokens = map_length born parts ∙ map_length (part_at s) tokens in
    let cost : rows_left e new + length new ≤ length new * row_most e = subst (λ k. rows_left e new + k ≤ k * row_most e) (sym (map_length born parts)) (all_born_left e parts) in
    let there = some_token tokens xs some opens in
    let long : length after ≡ length new + 0 = puts_length new [] in
    let sum : rows_left e after ≡ rows_left e new + 0 = puts_left e new [] in
    let less : (65536 - (length new + 0)) * row_most e + (rows_left e new + 0) < (65536 - 0) * row_most e + 0 =
    paid e 0 (length new) 0 (rows_left e new) 0 (omega (arith, bound, all, most, same_count, count)) cost (omega (arith, there, count)) in
    let same : left_of e after ≡ (65536 - (length new + 0)) * row_most e + rows_left e after = ap (λ z. (65536 - z) * row_most e + rows_left e after) long in
    let short : left_of e after < left_of e [] = omega (arith, same, sum, less) in
    let applied_is : applied s rows o ≡ after = ap (applied s rows) is ∙ ap (λ l. put_rows (map (λ t. born (part_at s t)) tokens) l) none ∙ ap (λ l. put_rows l []) (twice tokens) in
    subst (λ l. left_of e l < left_of e rows) (sym applied_is) (subst (λ l. left_of e after < left_of e l) (sym none) short)
  where
    twice : (ts : List (List ℕ)) → map (λ t. born (part_at s t)) ts ≡ map born (map (part_at s) ts)
    twice [] = refl
    twice (t ∷ ts) = ap (λ l. born (part_at s t) ∷ l) (twice ts)
