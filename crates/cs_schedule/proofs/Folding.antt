-- The fold of a list of entries, entry by entry: its rows are those collected from the list, and what the rows tell of the next entry is whether the list goes on with it.
use Rattle.std.proofs.Common.{◌≡◌, ◌↔◌, ℕ, suc, ◌-◌, ◌≤◌, Bool, true, false, cond, not, ◌&&◌, ◌||◌, List, [], ◌∷◌, map, filter, Option, Some, None, ⊎_elim, sym, refl, ap, ◌∙◌, subst, arith, true≢false, Contains, leb, eqb}
use Rattle.std.specs.declared.cmp.Ordering.{Ordering}
use Rattle.std.specs.declared.cmp.Ordering.TheVariants.{Less, Equal, Greater}
use Rattle.std.specs.Ordering.{nat_cmp, ordering_then, is_eq}
use Rattle.std.specs.Cmp.Lexicographic.{slice_cmp}
use Rattle.std.proofs.lemmas.Bool.{and_parts, and_from, leb-true, le-leb, eqb-true, eq-eqb}
use Rattle.cs_types.specs.declared.names.Window.{Window}
use Rattle.cs_types.specs.Members.{in_nil, in_head, in_tail, in_cons, in_flat, in_map, from_map}
use Rattle.cs_link.specs.declared.batch.NewChild.{NewChild}
use Rattle.cs_schedule.specs.declared.entry.Entry.{Entry}
use Rattle.cs_schedule.specs.declared.entry.Entry.TheVariants.{Begin, Opened, Progress, Finished}
use Rattle.cs_schedule.specs.declared.row.Row.{Row}
use Rattle.cs_schedule.specs.Board.{IsOrdered, same_token, row_of}
use Rattle.cs_schedule.specs.Consistent.{born, advanced, has_row, put_rows, rowless, apply}
use Rattle.cs_schedule.specs.Fold.{has_no_row, may_go_on, is_as, may_come, may_follow}
use Rattle.cs_schedule.specs.Plan.{same_tokens, is_other}
use Rattle.cs_schedule.specs.Rows.{births_in, births, is_finished, next, row_after, rows_of, HasOpened, GoesOn, Fits}
use Rattle.cs_schedule.specs.Spelling.{has_some, are_rising, IsInFormat}
use Rattle.cs_schedule.proofs.Applied.{Kept}
use Rattle.cs_schedule.proofs.Entered.{FoldsFrom, opened_first}
use Rattle.cs_schedule.proofs.More.{nil_of}
use Rattle.cs_schedule.proofs.Moves.{puts_kept, puts_new, puts_from, to_has, from_has}
use Rattle.cs_schedule.proofs.Names.{text_itself}
use Rattle.cs_schedule.proofs.Places.{Below, equal_is, below_differs}
use Rattle.cs_schedule.proofs.Tools.{not_true}
use Rattle.cs_schedule.proofs.Updating.{token_of}

-- ---- the row of a token

pub row_in : (rows : List Row) (t : List ℕ) (r : Row) → row_of rows t ≡ Some r → Contains rows r
row_in [] t r h = absurd cc
row_in (a ∷ rows) t r h = by (same_token a.token t) h (row_in rows t r)
  where
    by : (b : Bool) → cond b (Some a) (row_of rows t) ≡ Some r → (row_of rows t ≡ Some r → Contains rows r) → Contains (a ∷ rows) r
    by true k f = let same : r ≡ a = cc in subst (λ z. Contains (a ∷ rows) z) (sym same) (in_head a rows)
    by false k f = in_tail a r rows (f k)

same_itself : (a b : List ℕ) → a ≡ b → same_token a b ≡ true
same_itself a b e = subst (λ z. same_token a z ≡ true) e (text_itself a)

-- of rows in order, the row with a token is the token's
pub in_row : (rows : List Row) (t : List ℕ) (r : Row) → IsOrdered rows → Contains rows r → r.token ≡ t → row_of rows t ≡ Some r
in_row [] t r h i e = absurd (in_nil r i)
in_row (a ∷ rows) t r h i e =
    ⊎_elim
    (λ (q : r ≡ a). ap (λ b. cond b (Some a) (row_of rows t)) (same_itself a.token t (ap (λ (z : Row). z.token) (sym q) ∙ e)) ∙ ap Some (sym q))
    (λ (j : Contains rows r). ap (λ b. cond b (Some a) (row_of rows t)) (below_differs a.token t (subst (λ z. Below a.token z) e (h.0 r j))) ∙ in_row rows t r h.1 j e)
    (in_cons a r rows i)

-- ---- equal lists of tokens

then_equal : (o p : Ordering) → ordering_then o p ≡ Equal → (o ≡ Equal) × (p ≡ Equal)
then_equal Less p h = absurd cc
then_equal Equal p h = (refl, h)
then_equal Greater p h = absurd cc

is_equal : (o : Ordering) → is_eq o ≡ true → o ≡ Equal
is_equal Less h = absurd (true≢false (sym h))
is_equal Equal h = refl
is_equal Greater h = absurd (true≢false (sym h))

lists_equal : (a b : List (List ℕ)) → slice_cmp (slice_cmp nat_cmp) a b ≡ Equal → a ≡ b
lists_equal [] [] h = refl
lists_equal [] (y ∷ b) h = absurd cc
lists_equal (x ∷ a) [] h = absurd cc
lists_equal (x ∷ a) (y ∷ b) h =
    let p = then_equal (slice_cmp nat_cmp x y) (slice_cmp (slice_cmp nat_cmp) a b) h in
    ap (λ z. z ∷ a) (equal_is x y (ap is_eq p.0)) ∙ ap (λ l. y ∷ l) (lists_equal a b p.1)

list_itself : (a : List (List ℕ)) → slice_cmp (slice_cmp nat_cmp) a a ≡ Equal
list_itself [] = refl
list_itself (x ∷ a) = ap (λ o. ordering_then o (slice_cmp (slice_cmp nat_cmp) a a)) (is_equal (slice_cmp nat_cmp x x) (text_itself x)) ∙ list_itself a

not_either : (a b : Bool) → not (not a || not b) ≡ true → (a ≡ true) × (b ≡ true)
not_either true true h = (refl, refl)
not_either true false h = absurd (true≢false (sym h))
not_either false true h = absurd (true≢false (sym h))
not_either false false h = absurd (true≢false (sym h))

-- a child that is not other than a row has its parents and its start
as_row : (x : NewChild) (r : Row) → not (is_other x r) ≡ true → (x.parents ≡ r.parents) × (x.start ≡ r.start)
as_row x r h =
    let p = not_either (same_tokens x.parents r.parents) (eqb x.start r.start) h in
    (lists_equal x.parents r.parents (is_equal (slice_cmp (slice_cmp nat_cmp) x.parents r.parents) p.0), eqb-true x.start r.start p.1)

row_as : (x : NewChild) (r : Row) → x.parents ≡ r.parents → x.start ≡ r.start → not (is_other x r) ≡ true
row_as x r p s =
    ap (λ b. not (not b || not (eqb x.start r.start))) (subst (λ z. same_tokens x.parents z ≡ true) p (ap is_eq (list_itself x.parents)))
    ∙ ap (λ b. not (false || not b)) (eq-eqb x.start r.start s)

-- ---- rows with the same members

abbrev pub Same : List Row → List Row → Type 0
Same xs ys = (r : Row) → Contains xs r ↔ Contains ys r

has_same : (xs ys : List Row) → Same xs ys → (t : List ℕ) → has_row t xs ≡ has_row t ys
has_same xs ys h t = by (has_row t xs) (has_row t ys) refl refl
  where
    by : (a b : Bool) → has_row t xs ≡ a → has_row t ys ≡ b → a ≡ b
    by true true p q = refl
    by true false p q = let u = from_has xs t p in absurd (true≢false (sym (to_has ys t (u.0, (h u.0).0 u.1, u.2)) ∙ q))
    by false true p q = let u = from_has ys t q in absurd (true≢false (sym (to_has xs t (u.0, (h u.0).1 u.1, u.2)) ∙ p))
    by false false p q = refl

pub filter_same : (p q : NewChild → Bool) → ((x : NewChild) → p x ≡ q x) → (xs : List NewChild) → filter p xs ≡ filter q xs
filter_same p q h [] = refl
filter_same p q h (x ∷ xs) = ap (λ b. cond b (x ∷ filter p xs) (filter p xs)) (h x) ∙ ap (λ l. cond (q x) (x ∷ l) l) (filter_same p q h xs)

map_there : (f : Row → Row) (xs ys : List Row) → Same xs ys → (r : Row) → Contains (map f xs) r → Contains (map f ys) r
map_there f xs ys h r i = let u = from_map f r xs i in subst (λ z. Contains (map f ys) z) (sym u.2) (in_map f u.0 ys ((h u.0).0 u.1))

turn : (xs ys : List Row) → Same xs ys → Same ys xs
turn xs ys h r = ((h r).1, (h r).0)

put_there : (news xs ys : List Row) → ((r : Row) → Contains xs r → Contains ys r) → (r : Row) → Contains (put_rows news xs) r → Contains (put_rows news ys) r
put_there news xs ys h r i = ⊎_elim (λ (j : Contains news r). puts_new news ys r j) (λ (j : Contains xs r). puts_kept news ys r (h r j)) (puts_from news xs r i)

apply_there : (s : ℕ) (xs ys : List Row) (x : Entry) → Same xs ys → (r : Row) → Contains (apply s xs x) r → Contains (apply s ys x) r
apply_there s xs ys (Begin w) h r i = (h r).0 i
apply_there s xs ys (Opened tokens) h r i = put_there (map (λ (t : List ℕ). born (record { token = t; parents = []; start = s })) tokens) xs ys (λ z j. (h z).0 j) r i
apply_there s xs ys (Progress t n cs) h r i = map_there (advanced t n cs false) xs ys h r i
apply_there s xs ys (Finished t n cs bs) h r i =
    put_there (map born (rowless ys bs)) (map (advanced t n cs true) xs) (map (advanced t n cs true) ys) (map_there (advanced t n cs true) xs ys h) r
    (subst (λ l. Contains (put_rows (map born l) (map (advanced t n cs true) xs)) r) (filter_same (λ x. not (has_row x.token xs)) (λ x. not (has_row x.token ys)) (λ x. ap not (has_same xs ys h x.token)) bs) i)

-- an entry makes the same of rows with the same members
pub apply_same : (s : ℕ) (xs ys : List Row) (x : Entry) → Same xs ys → Same (apply s xs x) (apply s ys x)
apply_same s xs ys x h r = (apply_there s xs ys x h r, apply_there s ys xs x (turn xs ys h) r)

-- ---- what the rows tell of the next entry

module _ (w : Window) (s e : ℕ) (es : List Entry) (F : FoldsFrom w s e es) (forms : (y : Entry) → Contains es y → IsInFormat y) (K : Kept s es) (rows : List Row) (O : IsOrdered rows) (S : Same rows (rows_of s es)) where
  -- the row of a part stands among the rows, and each row is one of a part
  from_row : (r : Row) → Contains rows r → (b : NewChild) × Contains (births s es) b × (r ≡ row_after es b)
  from_row r i = from_map (row_after es) r (births s es) ((S r).0 i)

  its_row : (b : NewChild) → Contains (births s es) b → row_of rows b.token ≡ Some (row_after es b)
  its_row b i = in_row rows b.token (row_after es b) O ((S (row_after es b)).1 (in_map (row_after es) b (births s es) i)) refl

  goes : (t : List ℕ) (n : ℕ) → may_go_on e (row_of rows t) n ≡ true → GoesOn s e es t n
  goes t n h = by (row_of rows t) refl h
    where
      by : (o : Option Row) → row_of rows t ≡ o → may_go_on e o n ≡ true → GoesOn s e es t n
      by None q k = absurd (true≢false (sym k))
      by (Some r) q k =
          let u = from_row r (row_in rows t r q) in
          let token : u.0.token ≡ t = ap (λ (z : Row). z.token) (sym u.2) ∙ token_of rows t r q in
          let p = and_parts (not r.finished) (leb r.through n && leb n e) k in
          let l = and_parts (leb r.through n) (leb n e) p.1 in
          let low = leb-true r.through n l.0 in
          let through : r.through ≡ next u.0.token u.0.start es - 1 = ap (λ (z : Row). z.through) u.2 in
          record {
            part = u.0;
            there = u.1;
            its = token;
            unfinished = ap (λ z. is_finished z es) (sym token) ∙ ap (λ (z : Row). z.finished) (sym u.2) ∙ not_true r.finished p.0;
            rises = subst (λ z. next z u.0.start es ≤ suc n) token (omega (arith, low, through));
            within = leb-true n e l.1;
          }

  went : (t : List ℕ) (n : ℕ) → GoesOn s e es t n → may_go_on e (row_of rows t) n ≡ true
  went t n g =
      let b = g.part in
      let rises : next b.token b.start es ≤ suc n = subst (λ z. next z b.start es ≤ suc n) (sym g.its) g.rises in
      let going : is_finished b.token es ≡ false = ap (λ z. is_finished z es) g.its ∙ g.unfinished in
      ap (λ o. may_go_on e o n) (subst (λ z. row_of rows z ≡ Some (row_after es b)) g.its (its_row b g.there))
      ∙ and_from (not (is_finished b.token es)) (leb (next b.token b.start es - 1) n && leb n e) (ap not going)
      (and_from (leb (next b.token b.start es - 1) n) (leb n e) (le-leb (next b.token b.start es - 1) n (omega (arith, rises))) (le-leb n e g.within))

  abbrev Comes : NewChild → Type 0
  Comes b = (b.start ≤ e) × ((a : NewChild) → Contains (births s es) a → a.token ≡ b.token → a ≡ b)

  comes_one : (b : NewChild) → leb b.start e ≡ true → is_as b (row_of rows b.token) ≡ true → Comes b
  comes_one b l k = (
    leb-true b.start e l,
    λ a i q.
        let p = as_row b (row_after es a) (ap (λ o. is_as b o) (sym (subst (λ z. row_of rows z ≡ Some (row_after es a)) q (its_row a i))) ∙ k) in
        λ i. record { token = q i; parents = sym p.0 i; start = sym p.1 i },
  )

  comes : (xs : List NewChild) → may_come e rows xs ≡ true → (b : NewChild) → Contains xs b → Comes b
  comes [] h b i = absurd (in_nil b i)
  comes (x ∷ xs) h b i =
      let p = and_parts (leb x.start e && is_as x (row_of rows x.token)) (may_come e rows xs) h in
      let q = and_parts (leb x.start e) (is_as x (row_of rows x.token)) p.0 in
      ⊎_elim
      (λ (m : b ≡ x). subst Comes (sym m) (comes_one x q.0 q.1))
      (λ (j : Contains xs b). comes xs p.1 b j)
      (in_cons x b xs i)

  came_one : (b : NewChild) → Comes b → is_as b (row_of rows b.token) ≡ true
  came_one b c = by (row_of rows b.token) refl
    where
      by : (o : Option Row) → row_of rows b.token ≡ o → is_as b o ≡ true
      by None q = refl
      by (Some r) q =
          let u = from_row r (row_in rows b.token r q) in
          let same : u.0 ≡ b = c.1 u.0 u.1 (ap (λ (z : Row). z.token) (sym u.2) ∙ token_of rows b.token r q) in
          row_as b r (ap (λ (z : NewChild). z.parents) (sym same) ∙ ap (λ (z : Row). z.parents) (sym u.2)) (ap (λ (z : NewChild). z.start) (sym same) ∙ ap (λ (z : Row). z.start) (sym u.2))

  came : (xs : List NewChild) → ((b : NewChild) → Contains xs b → Comes b) → may_come e rows xs ≡ true
  came [] h = refl
  came (x ∷ xs) h =
      let c = h x (in_head x xs) in
      and_from (leb x.start e && is_as x (row_of rows x.token)) (may_come e rows xs)
      (and_from (leb x.start e) (is_as x (row_of rows x.token)) (le-leb x.start e c.0) (came_one x c))
      (came xs (λ b i. h b (in_tail x b xs i)))

  -- where a window was opened there is a row
  opened_row : HasOpened es → (r : Row) × Contains rows r
  opened_row h = by h.0 h.1 (forms (Opened h.0) h.1)
    where
      by : (tokens : List (List ℕ)) → Contains es (Opened tokens) → IsInFormat (Opened tokens) → (r : Row) × Contains rows r
      by [] i f = absurd (true≢false (sym (and_parts (has_some []) (are_rising []) f.1).0))
      by (t ∷ tokens) i f =
          let b : NewChild = record { token = t; parents = []; start = s } in
          let made : Contains (births_in s (Opened (t ∷ tokens))) b = in_head b (map (λ (u : List ℕ). record { token = u; parents = []; start = s }) tokens) in
          (row_after es b, (S (row_after es b)).1 (in_map (row_after es) b (births s es) (in_flat (births_in s) b (Opened (t ∷ tokens)) es i made)))

  shut : has_no_row rows ≡ true → HasOpened es → ⊥
  shut h o = by rows h (opened_row o)
    where
      by : (xs : List Row) → has_no_row xs ≡ true → (r : Row) × Contains xs r → ⊥
      by [] k u = in_nil u.0 u.1
      by (a ∷ xs) k u = true≢false (sym k)

  none : (HasOpened es → ⊥) → has_no_row rows ≡ true
  none h = ap has_no_row (nil_of rows (λ r i. let u = from_row r i in h (opened_first w s e es u.0 F u.1)))

  -- what the rows tell is right
  pub told : (x : Entry) → may_follow e rows x ≡ true → Fits s e es x
  told (Begin u) h = absurd (true≢false (sym h))
  told (Opened tokens) h = shut h
  told (Progress t n cs) h = goes t n h
  told (Finished t n cs xs) h =
      let p = and_parts (may_go_on e (row_of rows t) n) (may_come e rows xs) h in
      (goes t n p.0, comes xs p.1)

  -- and they tell of each entry that may follow
  pub tells : (x : Entry) → Fits s e es x → may_follow e rows x ≡ true
  tells (Begin u) h = absurd h
  tells (Opened tokens) h = none h
  tells (Progress t n cs) h = went t n h
  tells (Finished t n cs xs) h = and_from (may_go_on e (row_of rows t) n) (may_come e rows xs) (went t n h.0) (came xs h.1)
