-- The entry of a batch that may be added is within the grammar and may follow.
use Rattle.std.proofs.Common.{◌≡◌, ◌≢◌, ◌⊎◌, ℕ, suc, ◌^◌, ◌<◌, ◌≤◌, Bool, true, false, cond, not, ◌&&◌, List, [], ◌∷◌, map, filter, length, Option, Some, None, Ok, ⊎_elim, inl, inr, sym, refl, ap, ◌∙◌, subst, arith, true≢false, bytes_eq, Contains, leb}
use Rattle.std.specs.Prelude.{IfSome}
use Rattle.std.specs.List.{AllByRecursion}
use Rattle.std.specs.Option.{option_or}
use Rattle.std.specs.Ordering.{nat_cmp}
use Rattle.std.specs.Cmp.Lexicographic.{slice_cmp}
use Rattle.std.proofs.lemmas.Bool.{and_parts, and_from, leb-true, le-leb}
use Rattle.cs_types.specs.declared.change.Change.{Change}
use Rattle.cs_types.specs.Members.{bytes_same, bytes_itself, in_nil, in_head, in_tail, in_cons, in_map}
use Rattle.cs_link.specs.declared.batch.Batch.{Batch}
use Rattle.cs_link.specs.declared.batch.NewChild.{NewChild}
use Rattle.cs_link.specs.declared.breach.Breach.{Breach}
use Rattle.cs_schedule.specs.declared.entry.Entry.{Entry}
use Rattle.cs_schedule.specs.declared.entry.Entry.TheVariants.{Opened, Progress, Finished}
use Rattle.cs_schedule.specs.declared.row.Row.{Row}
use Rattle.cs_schedule.specs.Board.{Shown, IsOrdered, same_token, row_of}
use Rattle.cs_schedule.specs.Consistent.{is_end, news, through_by, entry_by}
use Rattle.cs_schedule.specs.Fold.{has_no_row, may_go_on, is_as, may_come, may_follow}
use Rattle.cs_schedule.specs.Follows.{IsNextOf, MayAdd}
use Rattle.cs_schedule.specs.Plan.{is_other, other_than, first_other, judge, judge_with, judged, entry_with, planned, planned_of}
use Rattle.cs_schedule.specs.Spelling.{IsToken, IsChange, IsChild, IsList, IsInFormat, is_above, are_rising, has_some, begin_at, are_in_order, are_new}
use Rattle.cs_schedule.specs.Update.{Planned, IsPlanOf, Opens, PlansOf}
use Rattle.cs_schedule.proofs.Among.{lt_is}
use Rattle.cs_schedule.proofs.OfBatch.{planned_is}
use Rattle.cs_schedule.proofs.Places.{Below, below_trans, below_differs}
use Rattle.cs_schedule.proofs.Names.{text_itself}
use Rattle.cs_schedule.proofs.Updating.{token_of}

-- ---- changes that are left out

all_left : {A : Type 0} (P : A → Type 0) (p : A → Bool) (xs : List A) → AllByRecursion P xs → AllByRecursion P (filter p xs)
all_left P p [] h = tt
all_left P p (x ∷ xs) h = by (p x) (all_left P p xs h.1)
  where
    by : (b : Bool) → AllByRecursion P (filter p xs) → AllByRecursion P (cond b (x ∷ filter p xs) (filter p xs))
    by true k = (h.0, k)
    by false k = k

length_left : {A : Type 0} (p : A → Bool) (xs : List A) → length (filter p xs) ≤ length xs
length_left p [] = omega arith
length_left p (x ∷ xs) = by (p x) (length_left p xs)
  where
    by : (b : Bool) → length (filter p xs) ≤ length xs → length (cond b (x ∷ filter p xs) (filter p xs)) ≤ suc (length xs)
    by true k = omega (arith, k)
    by false k = omega (arith, k)

list_left : {A : Type 0} (P : A → Type 0) (p : A → Bool) (xs : List A) → IsList P xs → IsList P (filter p xs)
list_left P p xs h = let shorter = length_left p xs in (omega (arith, shorter, h.0), all_left P p xs h.1)

begin_lower : (m n : ℕ) (cs : List Change) → m ≤ n → begin_at n cs ≡ true → begin_at m cs ≡ true
begin_lower m n [] l h = refl
begin_lower m n (c ∷ cs) l h = let low = leb-true n c.stamp h in le-leb m c.stamp (omega (arith, low, l))

order_parts : (n : ℕ) (c : Change) (cs : List Change) → are_in_order n (c ∷ cs) ≡ true → (c.stamp ≤ suc n) × (begin_at c.stamp cs ≡ true) × (are_in_order n cs ≡ true)
order_parts n c cs h =
    let p = and_parts (leb c.stamp (suc n) && begin_at c.stamp cs) (are_in_order n cs) h in
    let q = and_parts (leb c.stamp (suc n)) (begin_at c.stamp cs) p.0 in
    (leb-true c.stamp (suc n) q.0, q.1, p.1)

begin_left : (p : Change → Bool) (m n : ℕ) (cs : List Change) → begin_at m cs ≡ true → are_in_order n cs ≡ true → begin_at m (filter p cs) ≡ true
begin_left p m n [] h o = refl
begin_left p m n (c ∷ cs) h o =
    let parts = order_parts n c cs o in
    by (p c) (begin_left p m n cs (begin_lower m c.stamp cs (leb-true m c.stamp h) parts.1) parts.2)
  where
    by : (b : Bool) → begin_at m (filter p cs) ≡ true → begin_at m (cond b (c ∷ filter p cs) (filter p cs)) ≡ true
    by true k = h
    by false k = k

order_left : (p : Change → Bool) (n m : ℕ) (cs : List Change) → n ≤ m → are_in_order n cs ≡ true → are_in_order m (filter p cs) ≡ true
order_left p n m [] l o = refl
order_left p n m (c ∷ cs) l o =
    let parts = order_parts n c cs o in
    by (p c) (begin_left p c.stamp n cs parts.1 parts.2) (omega (arith, parts.0, l)) (order_left p n m cs l parts.2)
  where
    by : (b : Bool) → begin_at c.stamp (filter p cs) ≡ true → c.stamp ≤ suc m → are_in_order m (filter p cs) ≡ true → are_in_order m (cond b (c ∷ filter p cs) (filter p cs)) ≡ true
    by true k low rest = and_from (leb c.stamp (suc m) && begin_at c.stamp (filter p cs)) (are_in_order m (filter p cs)) (and_from (leb c.stamp (suc m)) (begin_at c.stamp (filter p cs)) (le-leb c.stamp (suc m) low) k) rest
    by false k low rest = rest

-- ---- children that are as their rows

none_first : (a b : Option Breach) → option_or a b ≡ None → (a ≡ None) × (b ≡ None)
none_first None b h = (refl, h)
none_first (Some x) b h = absurd cc

as_named : (x : NewChild) (o : Option Row) → other_than x o ≡ None → is_as x o ≡ true
as_named x None h = refl
as_named x (Some r) h = by (is_other x r) h
  where
    by : (b : Bool) → cond b (Some (Breach.ChildDiffers x.token x.token)) None ≡ None → not b ≡ true
    by true k = absurd cc
    by false k = refl

comes : (e : ℕ) (rows : List Row) (xs : List NewChild) → ((x : NewChild) → Contains xs x → x.start ≤ e) → first_other rows xs ≡ None → may_come e rows xs ≡ true
comes e rows [] h n = refl
comes e rows (x ∷ xs) h n =
    let parts = none_first (other_than x (row_of rows x.token)) (first_other rows xs) n in
    and_from (leb x.start e && is_as x (row_of rows x.token)) (may_come e rows xs)
    (and_from (leb x.start e) (is_as x (row_of rows x.token)) (le-leb x.start e (h x (in_head x xs))) (as_named x (row_of rows x.token) parts.0))
    (comes e rows xs (λ y i. h y (in_tail x y xs i)) parts.1)

not_judged : {A : Type 0} (o : Option Breach) (a x : A) → judged o a ≡ Ok x → o ≡ None
not_judged None a x h = refl
not_judged (Some breach) a x h = absurd cc

none_other : (rows : List Row) (r : Row) (xs : List NewChild) (n : ℕ) (cs : List Change) → judge_with rows r xs n cs ≡ None → first_other rows xs ≡ None
unfolding judge_with
none_other rows r xs n cs h = (none_first (first_other rows xs) _ h).0

-- ---- the entry of a row's batch

module _ (b : Shown) (x : Batch) (M : MayAdd b x) (t : List ℕ) (is : x.token ≡ Some t) (r : Row) (row : row_of b.rows t ≡ Some r) (e : Entry) (plan : planned b.rows t x ≡ Ok (Some e)) where
  its : r.token ≡ t
  its = token_of b.rows t r row

  n : ℕ
  n = through_by r x

  going : (r.finished ≡ false) × (r.through ≤ b.window.end)
  going = M.going t r is row

  within : n ≤ b.window.end
  unfolding n
  within = let a = going.1 in let c = M.within in omega (arith, a, c)

  token : IsToken r.token
  token = subst IsToken (sym its) (subst (λ o. IfSome o IsToken) is M.named)

  order : are_in_order n (news r x) ≡ true
  unfolding n
  order = order_left _ x.through (through_by r x) x.changes (omega arith) M.order

  goes : may_go_on b.window.end (row_of b.rows r.token) n ≡ true
  unfolding n
  goes =
      ap (λ o. may_go_on b.window.end o (through_by r x)) (subst (λ z. row_of b.rows z ≡ Some r) (sym its) row)
      ∙ and_from (not r.finished) (leb r.through (through_by r x) && leb (through_by r x) b.window.end) (ap not going.0)
      (and_from (leb r.through (through_by r x)) (leb (through_by r x) b.window.end) (le-leb r.through (through_by r x) (omega arith)) (le-leb (through_by r x) b.window.end within))

  other : first_other b.rows x.children ≡ None
  other = none_other b.rows r x.children (through_by r x) (news r x) (not_judged (judge b.rows r x) (entry_with r x (through_by r x) (news r x)) (Some e) (ap (λ o. planned_of b.rows o x) (sym row) ∙ plan))

  same : e ≡ entry_by r x
  same = planned_is b.rows t r x e row plan

  follows_by : (c : Bool) → may_follow b.window.end b.rows (cond c (Finished r.token n (news r x) x.children) (Progress r.token n (news r x))) ≡ true
  follows_by true = and_from (may_go_on b.window.end (row_of b.rows r.token) n) (may_come b.window.end b.rows x.children) goes (comes b.window.end b.rows x.children M.starts other)
  follows_by false = goes

  form_by : (c : Bool) → IsInFormat (cond c (Finished r.token n (news r x) x.children) (Progress r.token n (news r x)))
  form_by true = ((token, below, list_left IsChange _ x.changes M.changes, M.children), and_from (are_in_order n (news r x)) (are_new [] x.children) order M.once)
    where
      below : n < 2 ^ 64
      below = let range = M.range in omega (arith, within, range)
  form_by false = ((token, below, list_left IsChange _ x.changes M.changes), order)
    where
      below : n < 2 ^ 64
      below = let range = M.range in omega (arith, within, range)

  pub row_follows : may_follow b.window.end b.rows e ≡ true
  unfolding n
  row_follows = subst (λ y. may_follow b.window.end b.rows y ≡ true) (sym same) (follows_by (is_end x.ending))

  pub row_form : IsInFormat e
  unfolding n
  row_form = subst IsInFormat (sym same) (form_by (is_end x.ending))

-- ---- the entry of the first batch

abbrev less : List ℕ → List (List ℕ) → List (List ℕ)
less t [] = []
less t (u ∷ us) = cond (bytes_eq u t) us (u ∷ less t us)

less_length : (t : List ℕ) (us : List (List ℕ)) → Contains us t → suc (length (less t us)) ≡ length us
less_length t [] i = absurd (in_nil t i)
less_length t (u ∷ us) i = by (bytes_eq u t) refl (in_cons u t us i) (less_length t us)
  where
    by : (b : Bool) → bytes_eq u t ≡ b → (t ≡ u) ⊎ Contains us t → (Contains us t → suc (length (less t us)) ≡ length us) → suc (length (cond b us (u ∷ less t us))) ≡ suc (length us)
    by true q c f = refl
    by false q (inl e) f = absurd (true≢false (sym (subst (λ z. bytes_eq u z ≡ true) (sym e) (bytes_itself u)) ∙ q))
    by false q (inr j) f = ap suc (f j)

less_kept : (t v : List ℕ) (us : List (List ℕ)) → Contains us v → v ≢ t → Contains (less t us) v
less_kept t v [] i differs = absurd (in_nil v i)
less_kept t v (u ∷ us) i differs = by (bytes_eq u t) refl (in_cons u v us i) (λ j. less_kept t v us j differs)
  where
    by : (b : Bool) → bytes_eq u t ≡ b → (v ≡ u) ⊎ Contains us v → (Contains us v → Contains (less t us) v) → Contains (cond b us (u ∷ less t us)) v
    by true q (inl e) f = absurd (differs (e ∙ bytes_same u t q))
    by true q (inr j) f = j
    by false q (inl e) f = subst (λ z. Contains (u ∷ less t us) z) (sym e) (in_head u (less t us))
    by false q (inr j) f = in_tail u v (less t us) (f j)

rises_from : (t : List ℕ) (ts : List (List ℕ)) → are_rising (t ∷ ts) ≡ true → (v : List ℕ) → Contains ts v → Below t v
rises_from t [] h v i = absurd (in_nil v i)
rises_from t (u ∷ ts) h v i =
    let p = and_parts (is_above t (u ∷ ts)) (are_rising (u ∷ ts)) h in
    let first : Below t u = lt_is (slice_cmp nat_cmp t u) p.0 in
    ⊎_elim
    (λ (e : v ≡ u). subst (Below t) (sym e) first)
    (λ (j : Contains ts v). below_trans t u v first (rises_from u ts p.1 v j))
    (in_cons u v ts i)

not_below : (t v : List ℕ) → Below t v → v ≢ t
not_below t v b e = true≢false (sym (text_itself t) ∙ subst (λ z. same_token t z ≡ false) e (below_differs t v b))

fewer : (ts us : List (List ℕ)) → are_rising ts ≡ true → ((t : List ℕ) → Contains ts t → Contains us t) → length ts ≤ length us
fewer [] us h f = omega arith
fewer (t ∷ ts) us h f =
    let p = and_parts (is_above t ts) (are_rising ts) h in
    let rest = fewer ts (less t us) p.1 (λ v i. less_kept t v us (f v (in_tail t v ts i)) (not_below t v (rises_from t ts h v i))) in
    let one = less_length t us (f t (in_head t ts)) in
    omega (arith, rest, one)

map_length : (xs : List NewChild) → length (map (λ (y : NewChild). y.token) xs) ≡ length xs
map_length [] = refl
map_length (x ∷ xs) = ap suc (map_length xs)

all_of : {A : Type 0} (P : A → Type 0) (xs : List A) → ((y : A) → Contains xs y → P y) → AllByRecursion P xs
all_of P [] h = tt
all_of P (x ∷ xs) h = (h x (in_head x xs), all_of P xs (λ y i. h y (in_tail x y xs i)))

one_of : {A : Type 0} (P : A → Type 0) (xs : List A) → AllByRecursion P xs → (y : A) → Contains xs y → P y
one_of P [] h y i = absurd (in_nil y i)
one_of P (x ∷ xs) h y i = ⊎_elim (λ (e : y ≡ x). subst P (sym e) h.0) (λ (j : Contains xs y). one_of P xs h.1 y j) (in_cons x y xs i)

some_token : (tokens : List (List ℕ)) (xs : List NewChild) → 0 < length xs → Opens tokens xs → has_some tokens ≡ true
some_token (t ∷ tokens) xs l o = refl
some_token [] [] l o = absurd (omega (arith, l))
some_token [] (x ∷ xs) l o = absurd (in_nil x.token ((o.same x.token).1 (x, in_head x xs, refl)))

opened_form : (tokens : List (List ℕ)) (xs : List NewChild) → 0 < length xs → IsList IsChild xs → Opens tokens xs → IsInFormat (Opened tokens)
opened_form tokens xs l h o = (
  (
    (let most = fewer tokens (map (λ (y : NewChild). y.token) xs) o.rising (λ t i. let u = (o.same t).0 i in subst (λ z. Contains (map (λ (y : NewChild). y.token) xs) z) u.2 (in_map (λ (y : NewChild). y.token) u.0 xs u.1)) in
        let same = map_length xs in
        omega (arith, most, same, h.0)),
    all_of IsToken tokens (λ t i. let u = (o.same t).0 i in subst IsToken u.2 (one_of IsChild xs h.1 u.0 u.1).token),
  ),
  and_from (has_some tokens) (are_rising tokens) (some_token tokens xs l o) o.rising,
)

no_row_is : (rows : List Row) → rows ≡ [] → has_no_row rows ≡ true
no_row_is rows e = ap has_no_row e

-- ---- what is planned

pub next_of_batch : (b : Shown) (x : Batch) (p : Planned) → IsOrdered b.rows → IsPlanOf b p → PlansOf b.rows x x.token (Ok p.entry) → MayAdd b x → IsNextOf b p
next_of_batch b x p O P plan M = record {
  plan = P;
  ordered = O;
  in_format = form x.token refl plan;
  follows = follows x.token refl plan;
}
  where
    form_of : (t : List ℕ) → x.token ≡ Some t → (o : Option Entry) → p.entry ≡ o → planned b.rows t x ≡ Ok o → IfSome o IsInFormat
    form_of t is None q h = tt
    form_of t is (Some e) q h = by (row_of b.rows t) refl
      where
        by : (o : Option Row) → row_of b.rows t ≡ o → IsInFormat e
        by None k = let none : Ok None ≡ Ok (Some e) = sym (ap (λ z. planned_of b.rows z x) k) ∙ h in absurd cc
        by (Some r) k = row_form b x M t is r k e h

    follows_of : (t : List ℕ) → x.token ≡ Some t → (o : Option Entry) → p.entry ≡ o → planned b.rows t x ≡ Ok o → IfSome o (λ e. may_follow b.window.end b.rows e ≡ true)
    follows_of t is None q h = tt
    follows_of t is (Some e) q h = by (row_of b.rows t) refl
      where
        by : (o : Option Row) → row_of b.rows t ≡ o → may_follow b.window.end b.rows e ≡ true
        by None k = let none : Ok None ≡ Ok (Some e) = sym (ap (λ z. planned_of b.rows z x) k) ∙ h in absurd cc
        by (Some r) k = row_follows b x M t is r k e h

    form : (t : Option (List ℕ)) → x.token ≡ t → PlansOf b.rows x t (Ok p.entry) → IfSome p.entry IsInFormat
    form None is h = subst (λ o. IfSome o IsInFormat) (sym h.2) (opened_form h.1 x.children (M.first is).1 M.children h.3)
    form (Some t) is h = form_of t is p.entry refl h

    follows : (t : Option (List ℕ)) → x.token ≡ t → PlansOf b.rows x t (Ok p.entry) → IfSome p.entry (λ e. may_follow b.window.end b.rows e ≡ true)
    follows None is h = subst (λ o. IfSome o (λ e. may_follow b.window.end b.rows e ≡ true)) (sym h.2) (no_row_is b.rows (M.first is).0)
    follows (Some t) is h = follows_of t is p.entry refl h
