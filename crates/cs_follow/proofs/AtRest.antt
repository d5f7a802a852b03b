-- Rows by what entries make of them: who reads them, and how often they were tried, changes nothing of it.
use Rattle.std.proofs.Common.{◌≡◌, ◌≢◌, ◌⊎◌, ℕ, suc, ◌<◌, ◌+◌, min, Bool, true, false, cond, not, ◌||◌, List, [], ◌∷◌, ◌++◌, map, filter, length, get_or, eqb, nat_lt, Option, Some, None, Ok, Err, ⊎_elim, inl, inr, sym, refl, ap, ◌∙◌, subst, arith, true≢false, bytes_eq, Contains}
use Rattle.std.specs.Prelude.{Result}
use Rattle.std.specs.Option.{option_map, option_or}
use Rattle.std.specs.Ordering.{nat_cmp, is_lt}
use Rattle.std.specs.Cmp.Lexicographic.{slice_cmp}
use Rattle.std.specs.declared.cmp.Ordering.TheVariants.{Less}
use Rattle.std.proofs.lemmas.Bool.{cases_Bool}
use Rattle.cs_types.specs.declared.change.Change.{Change}
use Rattle.cs_types.specs.Members.{in_nil, in_head, in_tail, in_cons, in_map, from_map}
use Rattle.cs_link.specs.declared.batch.Batch.{Batch}
use Rattle.cs_link.specs.declared.batch.NewChild.{NewChild}
use Rattle.cs_link.specs.declared.breach.Breach.{Breach}
use Rattle.cs_schedule.specs.declared.entry.Entry.{Entry}
use Rattle.cs_schedule.specs.declared.entry.Entry.TheVariants.{Begin, Opened, Progress, Finished}
use Rattle.cs_schedule.specs.declared.plan.PlanFault.{PlanFault}
use Rattle.cs_schedule.specs.declared.plan.PlanFault.TheVariants as faults
use Rattle.cs_schedule.specs.declared.row.Row.{Row}
use Rattle.cs_schedule.specs.Board.{IsOrdered, same_token, place_from, row_of, fresh, leased, given_back, changed_at, changed_there, place_of}
use Rattle.cs_schedule.specs.Consistent.{IsReady, born, advanced, has_row, put_row, put_rows, rowless, apply, news, through_by}
use Rattle.cs_schedule.specs.Plan.{other_than, first_other, crowded_by, seen_with, has_no, count_new, count_after, too_many, judge, judge_with, judged, entry_with, planned, planned_of, Plans}
use Rattle.cs_schedule.specs.Rows.{seen_at}
use Rattle.cs_schedule.specs.Update.{PlansOf, PlansFirst, applied}
use Rattle.cs_book.specs.Book.{rows_back}
use Rattle.cs_follow.specs.Turn.{OnlyReads}
use Rattle.cs_book.specs.Waiting.{AreFree}
use Rattle.cs_follow.proofs.RowLemmas.{puts_from}
use Rattle.cs_follow.proofs.Small.{token_itself, token_equal, below_apart}

-- ---- entries

fresh_put : (r : Row) (rows : List Row) → map fresh (put_row r rows) ≡ put_row (fresh r) (map fresh rows)
fresh_put r [] = refl
fresh_put r (a ∷ rows) = by (is_lt (slice_cmp nat_cmp r.token a.token)) (fresh_put r rows)
  where
    by : (b : Bool) → map fresh (put_row r rows) ≡ put_row (fresh r) (map fresh rows) → map fresh (cond b (r ∷ a ∷ rows) (a ∷ put_row r rows)) ≡ cond b (fresh r ∷ fresh a ∷ map fresh rows) (fresh a ∷ put_row (fresh r) (map fresh rows))
    by true h = refl
    by false h = ap (λ l. fresh a ∷ l) h

fresh_puts : (news rows : List Row) → map fresh (put_rows news rows) ≡ put_rows (map fresh news) (map fresh rows)
fresh_puts [] rows = refl
fresh_puts (r ∷ news) rows = fresh_puts news (put_row r rows) ∙ ap (put_rows (map fresh news)) (fresh_put r rows)

fresh_born : (xs : List NewChild) → map fresh (map born xs) ≡ map born xs
fresh_born [] = refl
fresh_born (x ∷ xs) = ap (λ l. born x ∷ l) (fresh_born xs)

abbrev first_row : ℕ → List ℕ → Row
first_row s t = born (record { token = t; parents = []; start = s })

fresh_first : (s : ℕ) (tokens : List (List ℕ)) → map fresh (map (first_row s) tokens) ≡ map (first_row s) tokens
fresh_first s [] = refl
fresh_first s (t ∷ tokens) = ap (λ l. first_row s t ∷ l) (fresh_first s tokens)

fresh_has : (t : List ℕ) (rows : List Row) → has_row t (map fresh rows) ≡ has_row t rows
fresh_has t [] = refl
fresh_has t (r ∷ rows) = ap (λ b. bytes_eq r.token t || b) (fresh_has t rows)

filter_same : {A : Type 0} (p q : A → Bool) → ((x : A) → p x ≡ q x) → (xs : List A) → filter p xs ≡ filter q xs
filter_same p q same [] = refl
filter_same p q same (x ∷ xs) = ap (λ b. cond b (x ∷ filter p xs) (filter p xs)) (same x) ∙ ap (λ l. cond (q x) (x ∷ l) l) (filter_same p q same xs)

fresh_rowless : (rows : List Row) (xs : List NewChild) → rowless (map fresh rows) xs ≡ rowless rows xs
fresh_rowless rows xs = filter_same (λ x. not (has_row x.token (map fresh rows))) (λ x. not (has_row x.token rows)) (λ x. ap not (fresh_has x.token rows)) xs

fresh_one : (t : List ℕ) (n : ℕ) (cs : List Change) (fin : Bool) (r : Row) → fresh (advanced t n cs fin r) ≡ advanced t n cs fin (fresh r)
fresh_one t n cs fin r = by (bytes_eq t r.token)
  where
    by : (b : Bool) → fresh (cond b (record { token = r.token; parents = r.parents; start = r.start; through = n; seen = cond (eqb (suc r.through) (suc n)) r.seen [] ++ seen_at (suc n) cs; finished = r.finished || fin; leased = r.leased; tries = r.tries }) r)
        ≡ cond b (record { token = r.token; parents = r.parents; start = r.start; through = n; seen = cond (eqb (suc r.through) (suc n)) r.seen [] ++ seen_at (suc n) cs; finished = r.finished || fin; leased = false; tries = 0 }) (fresh r)
    by true = refl
    by false = refl

fresh_moved : (t : List ℕ) (n : ℕ) (cs : List Change) (fin : Bool) (rows : List Row) → map fresh (map (advanced t n cs fin) rows) ≡ map (advanced t n cs fin) (map fresh rows)
fresh_moved t n cs fin [] = refl
fresh_moved t n cs fin (r ∷ rows) = ap (λ x. x ∷ map fresh (map (advanced t n cs fin) rows)) (fresh_one t n cs fin r) ∙ ap (λ l. advanced t n cs fin (fresh r) ∷ l) (fresh_moved t n cs fin rows)

fresh_apply : (s : ℕ) (rows : List Row) (x : Entry) → map fresh (apply s rows x) ≡ apply s (map fresh rows) x
fresh_apply s rows (Begin w) = refl
fresh_apply s rows (Opened tokens) = fresh_puts (map (first_row s) tokens) rows ∙ ap (λ l. put_rows l (map fresh rows)) (fresh_first s tokens)
fresh_apply s rows (Progress t n cs) = fresh_moved t n cs false rows
fresh_apply s rows (Finished t n cs xs) =
    fresh_puts (map born (rowless rows xs)) (map (advanced t n cs true) rows)
    ∙ ap (λ l. put_rows l (map fresh (map (advanced t n cs true) rows))) (fresh_born (rowless rows xs) ∙ ap (map born) (sym (fresh_rowless rows xs)))
    ∙ ap (put_rows (map born (rowless (map fresh rows) xs))) (fresh_moved t n cs true rows)

pub fresh_applied : (s : ℕ) (rows : List Row) (o : Option Entry) → map fresh (applied s rows o) ≡ applied s (map fresh rows) o
fresh_applied s rows None = refl
fresh_applied s rows (Some x) = fresh_apply s rows x

-- ---- plans

pub fresh_row : (rows : List Row) (t : List ℕ) → row_of (map fresh rows) t ≡ option_map fresh (row_of rows t)
fresh_row [] t = refl
fresh_row (r ∷ rows) t = by (same_token r.token t) (fresh_row rows t)
  where
    by : (b : Bool) → row_of (map fresh rows) t ≡ option_map fresh (row_of rows t) → cond b (Some (fresh r)) (row_of (map fresh rows) t) ≡ option_map fresh (cond b (Some r) (row_of rows t))
    by true h = refl
    by false h = h

fresh_other : (x : NewChild) (o : Option Row) → other_than x (option_map fresh o) ≡ other_than x o
fresh_other x None = refl
fresh_other x (Some r) = refl

fresh_others : (rows : List Row) (xs : List NewChild) → first_other (map fresh rows) xs ≡ first_other rows xs
fresh_others rows [] = refl
fresh_others rows (x ∷ xs) =
    ap (λ o. option_or o (first_other (map fresh rows) xs)) (ap (other_than x) (fresh_row rows x.token) ∙ fresh_other x (row_of rows x.token))
    ∙ ap (option_or (other_than x (row_of rows x.token))) (fresh_others rows xs)

fresh_none : (o : Option Row) → has_no (option_map fresh o) ≡ has_no o
fresh_none None = refl
fresh_none (Some r) = refl

map_count : (rows : List Row) → length (map fresh rows) ≡ length rows
map_count [] = refl
map_count (r ∷ rows) = ap suc (map_count rows)

fresh_new : (rows : List Row) (xs : List NewChild) → count_new (map fresh rows) xs ≡ count_new rows xs
fresh_new rows xs = ap length (filter_same (λ x. has_no (row_of (map fresh rows) x.token)) (λ x. has_no (row_of rows x.token)) (λ x. ap has_no (fresh_row rows x.token) ∙ fresh_none (row_of rows x.token)) xs)

fresh_after : (rows : List Row) (xs : List NewChild) → count_after (map fresh rows) xs ≡ count_after rows xs
fresh_after rows xs = ap (λ n. min (n + count_new (map fresh rows) xs) 18446744073709551615) (map_count rows) ∙ ap (λ n. min (length rows + n) 18446744073709551615) (fresh_new rows xs)

pub fresh_too_many : (rows : List Row) (xs : List NewChild) → too_many (map fresh rows) xs ≡ too_many rows xs
fresh_too_many rows xs = ap (λ n. cond (nat_lt 65536 n) (Some (Breach.TooManyRows n 65536)) None) (fresh_after rows xs)

fresh_judge : (rows : List Row) (r : Row) (x : Batch) → judge (map fresh rows) (fresh r) x ≡ judge rows r x
unfolding judge_with
fresh_judge rows r x =
    ap (λ o. option_or o (option_or (crowded_by (filter (λ c. eqb c.stamp (suc (through_by r x))) (news r x)) (length (seen_with r (through_by r x) (news r x)))) (too_many (map fresh rows) x.children))) (fresh_others rows x.children)
    ∙ ap (λ o. option_or (first_other rows x.children) (option_or (crowded_by (filter (λ c. eqb c.stamp (suc (through_by r x))) (news r x)) (length (seen_with r (through_by r x) (news r x)))) o)) (fresh_too_many rows x.children)

fresh_planned_of : (rows : List Row) (o : Option Row) (x : Batch) → planned_of (map fresh rows) (option_map fresh o) x ≡ planned_of rows o x
unfolding entry_with
fresh_planned_of rows None x = refl
fresh_planned_of rows (Some r) x = ap (λ j. judged j (entry_with r x (through_by r x) (news r x))) (fresh_judge rows r x)

fresh_planned : (rows : List Row) (t : List ℕ) (x : Batch) → planned (map fresh rows) t x ≡ planned rows t x
fresh_planned rows t x = ap (λ o. planned_of (map fresh rows) o x) (fresh_row rows t) ∙ fresh_planned_of rows (row_of rows t) x

fresh_first_plan : (rows : List Row) (xs : List NewChild) (r : Result (Option Entry) PlanFault) → PlansFirst rows xs r → PlansFirst (map fresh rows) xs r
fresh_first_plan rows xs (Ok o) h = (fresh_too_many rows xs ∙ h.0, h.1, h.2, h.3)
fresh_first_plan rows xs (Err (faults.Breach breach)) h = fresh_too_many rows xs ∙ h
fresh_first_plan rows xs (Err faults.Memory) h = h

-- what is planned of a batch is planned of it whoever reads the rows
pub fresh_plans : (rows : List Row) (x : Batch) (t : Option (List ℕ)) (r : Result (Option Entry) PlanFault) → PlansOf rows x t r → PlansOf (map fresh rows) x t r
fresh_plans rows x None r h = fresh_first_plan rows x.children r h
fresh_plans rows x (Some t) r h = subst (Plans r) (sym (fresh_planned rows t x)) h

-- ---- leases

pub leased_same : (i : ℕ) (rows : List Row) → map fresh (changed_at leased i rows) ≡ map fresh rows
leased_same i [] = refl
leased_same ℕ.zero (r ∷ rows) = refl
leased_same (suc i) (r ∷ rows) = ap (λ l. fresh r ∷ l) (leased_same i rows)

back_at_same : (caught_up : Bool) (i : ℕ) (rows : List Row) → map fresh (changed_at (given_back caught_up) i rows) ≡ map fresh rows
back_at_same caught_up i [] = refl
back_at_same caught_up ℕ.zero (r ∷ rows) = refl
back_at_same caught_up (suc i) (r ∷ rows) = ap (λ l. fresh r ∷ l) (back_at_same caught_up i rows)

back_there_same : (caught_up : Bool) (place : Option ℕ) (rows : List Row) → map fresh (changed_there (given_back caught_up) place rows) ≡ map fresh rows
back_there_same caught_up None rows = refl
back_there_same caught_up (Some i) rows = back_at_same caught_up i rows

pub back_same : (token : Option (List ℕ)) (caught_up : Bool) (rows : List Row) → map fresh (rows_back token caught_up rows) ≡ map fresh rows
back_same None caught_up rows = refl
back_same (Some t) caught_up rows = back_there_same caught_up (place_of rows t) rows

pub fresh_ordered : (rows : List Row) → IsOrdered rows → IsOrdered (map fresh rows)
fresh_ordered [] O = tt
fresh_ordered (r ∷ rows) O = (λ y j. let u = from_map fresh y rows j in subst (λ (z : Row). slice_cmp nat_cmp r.token z.token ≡ Less) (sym u.2) (O.0 u.0 u.1), fresh_ordered rows O.1)

pub fresh_free : (rows : List Row) → AreFree (map fresh rows)
fresh_free rows y i = let u = from_map fresh y rows i in ap (λ (z : Row). z.leased) u.2

pub fresh_ready : (rows : List Row) (r : Row) → IsReady rows r → IsReady (map fresh rows) (fresh r)
fresh_ready rows r R = record {
  there = in_map fresh r rows R.there;
  unfinished = R.unfinished;
  parents = λ t i. let u = R.parents t i in (fresh u.0, in_map fresh u.0 rows u.1, u.2, u.3);
}

-- ---- nobody reads when the one reader is done

module _ (P : Row → Type 0) (goes : (t : List ℕ) (n : ℕ) (cs : List Change) (fin : Bool) (r : Row) → P r → P (advanced t n cs fin r)) (begins : (x : NewChild) → P (born x)) where
  moved_all : (t : List ℕ) (n : ℕ) (cs : List Change) (fin : Bool) (rows : List Row) → ((r : Row) → Contains rows r → P r) → (y : Row) → Contains (map (advanced t n cs fin) rows) y → P y
  moved_all t n cs fin rows all y i = let u = from_map (advanced t n cs fin) y rows i in subst P (sym u.2) (goes t n cs fin u.0 (all u.0 u.1))

  pub applied_all : (s : ℕ) (rows : List Row) (o : Option Entry) → ((r : Row) → Contains rows r → P r) → (y : Row) → Contains (applied s rows o) y → P y
  applied_all s rows None all y i = all y i
  applied_all s rows (Some (Begin w)) all y i = all y i
  applied_all s rows (Some (Opened ts)) all y i =
      ⊎_elim
      (λ (j : Contains (map (first_row s) ts) y). let u = from_map (first_row s) y ts j in subst P (sym u.2) (begins (record { token = u.0; parents = []; start = s })))
      (λ (j : Contains rows y). all y j)
      (puts_from (map (first_row s) ts) rows y i)
  applied_all s rows (Some (Progress t n cs)) all y i = moved_all t n cs false rows all y i
  applied_all s rows (Some (Finished t n cs xs)) all y i =
      ⊎_elim
      (λ (j : Contains (map born (rowless rows xs)) y). let u = from_map born y (rowless rows xs) j in subst P (sym u.2) (begins u.0))
      (λ (j : Contains (map (advanced t n cs true) rows) y). moved_all t n cs true rows all y j)
      (puts_from (map born (rowless rows xs)) (map (advanced t n cs true) rows) y i)

advanced_only : (token : Option (List ℕ)) (t : List ℕ) (n : ℕ) (cs : List Change) (fin : Bool) (r : Row) → (r.leased ≡ true → token ≡ Some r.token) → (advanced t n cs fin r).leased ≡ true → token ≡ Some (advanced t n cs fin r).token
advanced_only token t n cs fin r h = by (bytes_eq t r.token)
  where
    by : (b : Bool) → (cond b (record { token = r.token; parents = r.parents; start = r.start; through = n; seen = cond (eqb (suc r.through) (suc n)) r.seen [] ++ seen_at (suc n) cs; finished = r.finished || fin; leased = r.leased; tries = r.tries }) r).leased ≡ true
        → token ≡ Some (cond b (record { token = r.token; parents = r.parents; start = r.start; through = n; seen = cond (eqb (suc r.through) (suc n)) r.seen [] ++ seen_at (suc n) cs; finished = r.finished || fin; leased = r.leased; tries = r.tries }) r).token
    by true k = h k
    by false k = h k

pub applied_only : (token : Option (List ℕ)) (s : ℕ) (rows : List Row) (o : Option Entry) → OnlyReads token rows → OnlyReads token (applied s rows o)
applied_only token s rows o only = applied_all (λ r. r.leased ≡ true → token ≡ Some r.token) (advanced_only token) (λ x k. absurd (true≢false (sym k))) s rows o only

-- the rows with that of a token changed
abbrev pub remade : (Row → Row) → List ℕ → List Row → List Row
remade f t [] = []
remade f t (r ∷ rows) = cond (same_token r.token t) (f r ∷ rows) (r ∷ remade f t rows)

shifted : (i : ℕ) (rows : List Row) (t : List ℕ) → place_from (suc i) rows t ≡ option_map suc (place_from i rows t)
shifted i [] t = refl
shifted i (r ∷ rows) t = by (same_token r.token t) (shifted (suc i) rows t)
  where
    by : (b : Bool) → place_from (suc (suc i)) rows t ≡ option_map suc (place_from (suc i) rows t) → cond b (Some (suc i)) (place_from (suc (suc i)) rows t) ≡ option_map suc (cond b (Some i) (place_from (suc i) rows t))
    by true h = refl
    by false h = h

behind : (f : Row → Row) (r : Row) (rows : List Row) (place : Option ℕ) → changed_there f (option_map suc place) (r ∷ rows) ≡ r ∷ changed_there f place rows
behind f r rows None = refl
behind f r rows (Some k) = refl

pub remade_is : (f : Row → Row) (t : List ℕ) (rows : List Row) → changed_there f (place_of rows t) rows ≡ remade f t rows
remade_is f t [] = refl
remade_is f t (r ∷ rows) = by (same_token r.token t) (remade_is f t rows)
  where
    by : (b : Bool) → changed_there f (place_of rows t) rows ≡ remade f t rows → changed_there f (cond b (Some 0) (place_from 1 rows t)) (r ∷ rows) ≡ cond b (f r ∷ rows) (r ∷ remade f t rows)
    by true h = refl
    by false h = ap (λ p. changed_there f p (r ∷ rows)) (shifted 0 rows t) ∙ behind f r rows (place_of rows t) ∙ ap (λ l. r ∷ l) h

-- each row of them is one of another token, or the changed one
abbrev pub IsRemade : (Row → Row) → List ℕ → List Row → Row → Type 0
IsRemade f t rows y = (Contains rows y × (y.token ≢ t)) ⊎ ((x : Row) × Contains rows x × (y ≡ f x))

pub remade_from : (f : Row → Row) (t : List ℕ) (rows : List Row) → IsOrdered rows → (y : Row) → Contains (remade f t rows) y → IsRemade f t rows y
remade_from f t [] O y i = absurd (in_nil y i)
remade_from f t (r ∷ rows) O y i = by (same_token r.token t) refl i (remade_from f t rows O.1 y)
  where
    by : (b : Bool) → same_token r.token t ≡ b → Contains (cond b (f r ∷ rows) (r ∷ remade f t rows)) y → (Contains (remade f t rows) y → IsRemade f t rows y) → IsRemade f t (r ∷ rows) y
    by true q j g =
        ⊎_elim (λ (e : y ≡ f r). inr (r, in_head r rows, e))
        (λ (k : Contains rows y). inl (in_tail r y rows k, λ same. below_apart r.token y.token (O.0 y k) (token_equal r.token t q ∙ sym same)))
        (in_cons (f r) y rows j)
    by false q j g =
        ⊎_elim (λ (e : y ≡ r). inl (subst (λ z. Contains (r ∷ rows) z) (sym e) (in_head r rows), λ same. true≢false (sym (token_itself r.token) ∙ ap (λ z. same_token r.token z) (ap (λ (z : Row). z.token) (sym e) ∙ same) ∙ q)))
        (λ (k : Contains (remade f t rows) y). ⊎_elim (λ (l : Contains rows y × (y.token ≢ t)). inl (in_tail r y rows l.0, l.1)) (λ (l : (x : Row) × Contains rows x × (y ≡ f x)). inr (l.0, in_tail r l.0 rows l.1, l.2)) (g k))
        (in_cons r y (remade f t rows) j)

pub back_free : (token : Option (List ℕ)) (caught_up : Bool) (rows : List Row) → IsOrdered rows → OnlyReads token rows → AreFree (rows_back token caught_up rows)
back_free None caught_up rows O only y i =
    ⊎_elim
    (λ (k : y.leased ≡ true). let no : None ≡ Some y.token = only y i k in absurd cc)
    (λ (k : y.leased ≡ false). k)
    (cases_Bool y.leased)
back_free (Some t) caught_up rows O only y i =
    ⊎_elim
    (λ (h : Contains rows y × (y.token ≢ t)).
    ⊎_elim
    (λ (k : y.leased ≡ true). let same : Some t ≡ Some y.token = only y h.0 k in absurd (h.1 (let e : t ≡ y.token = cc in sym e)))
    (λ (k : y.leased ≡ false). k)
    (cases_Bool y.leased))
    (λ (h : (x : Row) × Contains rows x × (y ≡ given_back caught_up x)). ap (λ (z : Row). z.leased) h.2)
    (remade_from (given_back caught_up) t rows O y (subst (λ l. Contains l y) (remade_is (given_back caught_up) t rows) i))

pub leased_from : (i : ℕ) (rows : List Row) (y : Row) → Contains (changed_at leased i rows) y → Contains rows y ⊎ ((r : Row) × (get_or rows i r ≡ r) × (y ≡ leased r))
leased_from i [] y j = absurd (in_nil y j)
leased_from ℕ.zero (r ∷ rows) y j =
    ⊎_elim (λ (e : y ≡ leased r). inr (r, refl, e)) (λ (k : Contains rows y). inl (in_tail r y rows k)) (in_cons (leased r) y rows j)
leased_from (suc i) (r ∷ rows) y j =
    ⊎_elim
    (λ (e : y ≡ r). inl (subst (λ z. Contains (r ∷ rows) z) (sym e) (in_head r rows)))
    (λ (k : Contains (changed_at leased i rows) y).
    ⊎_elim
    (λ (h : Contains rows y). inl (in_tail r y rows h))
    (λ (h : (x : Row) × (get_or rows i x ≡ x) × (y ≡ leased x)). inr (h.0, h.1, h.2))
    (leased_from i rows y k))
    (in_cons r y (changed_at leased i rows) j)

pub at_place : (rows : List Row) (i : ℕ) (d e : Row) → i < length rows → get_or rows i d ≡ get_or rows i e
at_place [] i d e lt = absurd (omega (arith, lt))
at_place (a ∷ rows) ℕ.zero d e lt = refl
at_place (a ∷ rows) (suc i) d e lt = at_place rows i d e (omega (arith, lt))

-- once a row is leased
pub leased_only : (rows : List Row) (place : ℕ) (r : Row) → AreFree rows → place < length rows → get_or rows place r ≡ r → OnlyReads (Some r.token) (changed_at leased place rows)
leased_only rows place r free inside at y i reads =
    ⊎_elim
    (λ (h : Contains rows y). absurd (true≢false (sym reads ∙ free y h)))
    (λ (h : (x : Row) × (get_or rows place x ≡ x) × (y ≡ leased x)).
    let same : h.0 ≡ r = sym h.1 ∙ at_place rows place h.0 r inside ∙ at in
    ap (λ (z : Row). Some z.token) (sym same ∙ refl) ∙ ap (λ (z : Row). Some z.token) (sym h.2))
    (leased_from place rows y i)
