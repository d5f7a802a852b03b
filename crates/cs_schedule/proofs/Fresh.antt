-- Who reads a row, and how often it was tried, changes nothing of what entries make of rows.
use Rattle.std.proofs.Common.{◌≡◌, ℕ, suc, ◌≤◌, min, Bool, true, false, cond, not, ◌&&◌, ◌||◌, ◌-◌, List, [], ◌∷◌, ◌++◌, map, eqb, Option, Some, None, ⊎_elim, sym, refl, ap, ◌∙◌, subst, arith, true≢false, bytes_eq, Contains, leb}
use Rattle.std.specs.Prelude.{IfSome}
use Rattle.std.specs.Ordering.{nat_cmp, is_lt}
use Rattle.std.specs.Cmp.Lexicographic.{slice_cmp}
use Rattle.std.specs.Option.{option_map}
use Rattle.cs_types.specs.declared.change.Change.{Change}
use Rattle.cs_types.specs.Members.{in_nil, in_head, in_tail, in_cons}
use Rattle.cs_link.specs.declared.batch.NewChild.{NewChild}
use Rattle.cs_schedule.specs.declared.entry.Entry.{Entry}
use Rattle.cs_schedule.specs.declared.entry.Entry.TheVariants.{Begin, Opened, Progress, Finished}
use Rattle.cs_schedule.specs.declared.row.Row.{Row}
use Rattle.cs_schedule.specs.Board.{same_token, row_of, fresh}
use Rattle.cs_schedule.specs.Consistent.{born, advanced, has_row, put_row, put_rows, rowless, apply}
use Rattle.cs_schedule.specs.Fold.{has_no_row, may_go_on, is_as, may_come, may_follow}
use Rattle.cs_schedule.specs.Rows.{next_of, seen_at, least_next, low_watermark}
use Rattle.cs_schedule.proofs.Folding.{Same, filter_same}

-- ---- rows that nobody reads

fresh_put : (r : Row) (rows : List Row) → map fresh (put_row r rows) ≡ put_row (fresh r) (map fresh rows)
fresh_put r [] = refl
fresh_put r (a ∷ rows) = by (is_lt (slice_cmp nat_cmp r.token a.token)) (fresh_put r rows)
  where
    by : (b : Bool) → map fresh (put_row r rows) ≡ put_row (fresh r) (map fresh rows) → map fresh (cond b (r ∷ a ∷ rows) (a ∷ put_row r rows)) ≡ cond b (fresh r ∷ fresh a ∷ map fresh rows) (fresh a ∷ put_row (fresh r) (map fresh rows))
    by true h = refl
    by false h = ap (λ l. fresh a ∷ l) h

fresh_puts : (news rows : List Row) → map fresh (put_rows news rows) ≡ put_rows (map fresh news) (map fresh rows)
fresh_puts [] rows = refl
fresh_puts (r ∷ news) rows = fresh_puts news (put_row r rows) ∙ ap (put_rows (map fresh news)) (fresh_put r rows)

fresh_born : (xs : List NewChild) → map fresh (map born xs) ≡ map born xs
fresh_born [] = refl
fresh_born (x ∷ xs) = ap (λ l. born x ∷ l) (fresh_born xs)

abbrev first_row : ℕ → List ℕ → Row
first_row s t = born (record { token = t; parents = []; start = s })

fresh_first : (s : ℕ) (tokens : List (List ℕ)) → map fresh (map (first_row s) tokens) ≡ map (first_row s) tokens
fresh_first s [] = refl
fresh_first s (t ∷ tokens) = ap (λ l. first_row s t ∷ l) (fresh_first s tokens)

fresh_has : (t : List ℕ) (rows : List Row) → has_row t (map fresh rows) ≡ has_row t rows
fresh_has t [] = refl
fresh_has t (r ∷ rows) = ap (λ b. bytes_eq r.token t || b) (fresh_has t rows)

fresh_rowless : (rows : List Row) (xs : List NewChild) → rowless (map fresh rows) xs ≡ rowless rows xs
fresh_rowless rows xs = filter_same (λ x. not (has_row x.token (map fresh rows))) (λ x. not (has_row x.token rows)) (λ x. ap not (fresh_has x.token rows)) xs

fresh_one : (t : List ℕ) (n : ℕ) (cs : List Change) (fin : Bool) (r : Row) → fresh (advanced t n cs fin r) ≡ advanced t n cs fin (fresh r)
fresh_one t n cs fin r = by (bytes_eq t r.token)
  where
    by : (b : Bool) → fresh (cond b (record { token = r.token; parents = r.parents; start = r.start; through = n; seen = cond (eqb (suc r.through) (suc n)) r.seen [] ++ seen_at (suc n) cs; finished = r.finished || fin; leased = r.leased; tries = r.tries }) r)
        ≡ cond b (record { token = r.token; parents = r.parents; start = r.start; through = n; seen = cond (eqb (suc r.through) (suc n)) r.seen [] ++ seen_at (suc n) cs; finished = r.finished || fin; leased = false; tries = 0 }) (fresh r)
    by true = refl
    by false = refl

fresh_moved : (t : List ℕ) (n : ℕ) (cs : List Change) (fin : Bool) (rows : List Row) → map fresh (map (advanced t n cs fin) rows) ≡ map (advanced t n cs fin) (map fresh rows)
fresh_moved t n cs fin [] = refl
fresh_moved t n cs fin (r ∷ rows) = ap (λ x. x ∷ map fresh (map (advanced t n cs fin) rows)) (fresh_one t n cs fin r) ∙ ap (λ l. advanced t n cs fin (fresh r) ∷ l) (fresh_moved t n cs fin rows)

pub fresh_apply : (s : ℕ) (rows : List Row) (x : Entry) → map fresh (apply s rows x) ≡ apply s (map fresh rows) x
fresh_apply s rows (Begin w) = refl
fresh_apply s rows (Opened tokens) = fresh_puts (map (first_row s) tokens) rows ∙ ap (λ l. put_rows l (map fresh rows)) (fresh_first s tokens)
fresh_apply s rows (Progress t n cs) = fresh_moved t n cs false rows
fresh_apply s rows (Finished t n cs xs) =
    fresh_puts (map born (rowless rows xs)) (map (advanced t n cs true) rows)
    ∙ ap (λ l. put_rows l (map fresh (map (advanced t n cs true) rows))) (fresh_born (rowless rows xs) ∙ ap (map born) (sym (fresh_rowless rows xs)))
    ∙ ap (put_rows (map born (rowless (map fresh rows) xs))) (fresh_moved t n cs true rows)

-- ---- what follows

pub fresh_row : (rows : List Row) (t : List ℕ) → row_of (map fresh rows) t ≡ option_map fresh (row_of rows t)
fresh_row [] t = refl
fresh_row (r ∷ rows) t = by (same_token r.token t) (fresh_row rows t)
  where
    by : (b : Bool) → row_of (map fresh rows) t ≡ option_map fresh (row_of rows t) → cond b (Some (fresh r)) (row_of (map fresh rows) t) ≡ option_map fresh (cond b (Some r) (row_of rows t))
    by true h = refl
    by false h = h

fresh_goes : (e : ℕ) (o : Option Row) (n : ℕ) → may_go_on e (option_map fresh o) n ≡ may_go_on e o n
fresh_goes e None n = refl
fresh_goes e (Some r) n = refl

fresh_as : (x : NewChild) (o : Option Row) → is_as x (option_map fresh o) ≡ is_as x o
fresh_as x None = refl
fresh_as x (Some r) = refl

fresh_go : (e : ℕ) (rows : List Row) (t : List ℕ) (n : ℕ) → may_go_on e (row_of (map fresh rows) t) n ≡ may_go_on e (row_of rows t) n
fresh_go e rows t n = ap (λ o. may_go_on e o n) (fresh_row rows t) ∙ fresh_goes e (row_of rows t) n

fresh_come : (e : ℕ) (rows : List Row) (xs : List NewChild) → may_come e (map fresh rows) xs ≡ may_come e rows xs
fresh_come e rows [] = refl
fresh_come e rows (x ∷ xs) =
    ap (λ b. (leb x.start e && b) && may_come e (map fresh rows) xs) (ap (is_as x) (fresh_row rows x.token) ∙ fresh_as x (row_of rows x.token))
    ∙ ap (λ b. (leb x.start e && is_as x (row_of rows x.token)) && b) (fresh_come e rows xs)

fresh_none : (rows : List Row) → has_no_row (map fresh rows) ≡ has_no_row rows
fresh_none [] = refl
fresh_none (r ∷ rows) = refl

pub fresh_follows : (e : ℕ) (rows : List Row) (x : Entry) → may_follow e (map fresh rows) x ≡ may_follow e rows x
fresh_follows e rows (Begin w) = refl
fresh_follows e rows (Opened tokens) = fresh_none rows
fresh_follows e rows (Progress t n cs) = fresh_go e rows t n
fresh_follows e rows (Finished t n cs xs) = ap (λ b. b && may_come e (map fresh rows) xs) (fresh_go e rows t n) ∙ ap (λ b. may_go_on e (row_of rows t) n && b) (fresh_come e rows xs)

-- ---- the low watermark

fresh_least : (e : ℕ) (rows : List Row) → least_next e (map fresh rows) ≡ least_next e rows
fresh_least e [] = refl
fresh_least e (r ∷ rows) = ap (λ n. cond r.finished n (min (next_of r) n)) (fresh_least e rows)

pub fresh_low : (e : ℕ) (rows : List Row) → low_watermark e (map fresh rows) ≡ low_watermark e rows
fresh_low e [] = refl
fresh_low e (r ∷ rows) = ap (λ n. Some (n - 1)) (fresh_least e (r ∷ rows))

least_end : (e : ℕ) (rows : List Row) → least_next e rows ≤ suc e
least_end e [] = omega arith
least_end e (r ∷ rows) = by r.finished (least_end e rows)
  where
    by : (b : Bool) → least_next e rows ≤ suc e → cond b (least_next e rows) (min (next_of r) (least_next e rows)) ≤ suc e
    by true h = h
    by false h = omega (arith, h)

least_all : (e : ℕ) (rows : List Row) (r : Row) → Contains rows r → r.finished ≡ false → least_next e rows ≤ next_of r
least_all e [] r i u = absurd (in_nil r i)
least_all e (a ∷ rows) r i u = ⊎_elim
    (λ (q : r ≡ a). mine a.finished refl q)
    (λ (j : Contains rows r). other a.finished (least_all e rows r j u))
    (in_cons a r rows i)
  where
    other : (b : Bool) → least_next e rows ≤ next_of r → cond b (least_next e rows) (min (next_of a) (least_next e rows)) ≤ next_of r
    other true h = h
    other false h = omega (arith, h)

    mine : (b : Bool) → a.finished ≡ b → r ≡ a → cond b (least_next e rows) (min (next_of a) (least_next e rows)) ≤ next_of r
    mine true k q = absurd (true≢false (sym k ∙ ap (λ (z : Row). z.finished) (sym q) ∙ u))
    mine false k q = subst (λ (z : Row). min (next_of a) (least_next e rows) ≤ next_of z) (sym q) (omega arith)

least_from : (e n : ℕ) (rows : List Row) → n ≤ suc e → ((r : Row) → Contains rows r → r.finished ≡ false → n ≤ next_of r) → n ≤ least_next e rows
least_from e n [] l h = l
least_from e n (a ∷ rows) l h = by a.finished refl (least_from e n rows l (λ r j u. h r (in_tail a r rows j) u))
  where
    by : (b : Bool) → a.finished ≡ b → n ≤ least_next e rows → n ≤ cond b (least_next e rows) (min (next_of a) (least_next e rows))
    by true k m = m
    by false k m = let mine = h a (in_head a rows) k in omega (arith, mine, m)

same_least : (e : ℕ) (xs ys : List Row) → ((r : Row) → Contains xs r → Contains ys r) → least_next e ys ≤ least_next e xs
same_least e xs ys h = least_from e (least_next e ys) xs (least_end e ys) (λ r i u. least_all e ys r (h r i) u)

-- rows with the same members have the same low watermark
pub same_low : (e : ℕ) (xs ys : List Row) → Same xs ys → low_watermark e xs ≡ low_watermark e ys
same_low e [] [] h = refl
same_low e [] (y ∷ ys) h = absurd (in_nil y ((h y).1 (in_head y ys)))
same_low e (x ∷ xs) [] h = absurd (in_nil x ((h x).0 (in_head x xs)))
same_low e (x ∷ xs) (y ∷ ys) h =
    let one = same_least e (x ∷ xs) (y ∷ ys) (λ r. (h r).0) in
    let other = same_least e (y ∷ ys) (x ∷ xs) (λ r. (h r).1) in
    let same : least_next e (x ∷ xs) ≡ least_next e (y ∷ ys) = omega (arith, one, other) in
    ap (λ n. Some (n - 1)) same

pub low_within : (e : ℕ) (rows : List Row) → IfSome (low_watermark e rows) (λ n. n ≤ e)
low_within e [] = tt
low_within e (r ∷ rows) = let top = least_end e (r ∷ rows) in omega (arith, top)
