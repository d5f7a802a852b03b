-- The rows after an entry are in the order of their tokens.
use Rattle.std.proofs.Common.{◌≡◌, ◌≢◌, ℕ, zero, suc, Bool, true, false, cond, not, ◌||◌, List, [], ◌∷◌, ◌++◌, length, map, filter, eqb, ⊎_elim, sym, refl, ap, ◌∙◌, subst, true≢false, bytes_eq, Contains, Option, Some, None}
use Rattle.std.specs.Ordering.{nat_cmp}
use Rattle.std.specs.Cmp.Lexicographic.{slice_cmp}
use Rattle.std.proofs.lemmas.Bool.{and_parts}
use Rattle.std.proofs.lemmas.List.Elements.{Contains-append_right}
use Rattle.cs_types.specs.declared.change.Change.{Change}
use Rattle.cs_types.specs.Members.{Pairwise, in_nil, in_head, in_cons, from_filter, from_map}
use Rattle.cs_link.specs.declared.batch.NewChild.{NewChild}
use Rattle.cs_schedule.specs.declared.row.Row.{Row}
use Rattle.cs_schedule.specs.declared.entry.Entry.TheVariants.{Opened, Progress, Finished}
use Rattle.cs_schedule.specs.Board.{IsOrdered, same_token, changed_at}
use Rattle.cs_schedule.specs.Consistent.{born, advanced, has_row, rowless, apply}
use Rattle.cs_schedule.specs.Rows.{seen_at}
use Rattle.cs_schedule.specs.declared.update.Moved.{Moved}
use Rattle.cs_schedule.specs.Update.{moved, with_moved}
use Rattle.cs_schedule.specs.Spelling.{is_above, are_rising, is_among, are_new}
use Rattle.cs_schedule.proofs.Among.{lt_is, puts_ordered}
use Rattle.cs_schedule.proofs.Applied.{not_before}
use Rattle.cs_schedule.proofs.Moves.{to_has}
use Rattle.cs_schedule.proofs.Names.{text_itself}
use Rattle.cs_schedule.proofs.Places.{Below, below_trans, below_differs}
use Rattle.cs_schedule.proofs.Tools.{not_true}

abbrev pub Apart : Row → Row → Type 0
Apart a b = a.token ≢ b.token

pub map_ordered : (f : Row → Row) → ((r : Row) → (f r).token ≡ r.token) → (rows : List Row) → IsOrdered rows → IsOrdered (map f rows)
map_ordered f same [] h = tt
map_ordered f same (r ∷ rows) h = (
  λ y j.
      let u = from_map f y rows j in
      subst (λ (z : Row). Below (f r).token z.token) (sym u.2) (subst (λ t. Below t (f u.0).token) (sym (same r)) (subst (λ t. Below r.token t) (sym (same u.0)) (h.0 u.0 u.1))),
  map_ordered f same rows h.1,
)

pub same_advanced : (t : List ℕ) (n : ℕ) (cs : List Change) (fin : Bool) (r : Row) → (advanced t n cs fin r).token ≡ r.token
same_advanced t n cs fin r = by (bytes_eq t r.token)
  where
    by : (b : Bool) → (cond b (record { token = r.token; parents = r.parents; start = r.start; through = n; seen = cond (eqb (suc r.through) (suc n)) r.seen [] ++ seen_at (suc n) cs; finished = r.finished || fin; leased = r.leased; tries = r.tries }) r).token ≡ r.token
    by true = refl
    by false = refl

-- rows of new children have different tokens
new_apart : (p : NewChild → Bool) (before : List (List ℕ)) (xs : List NewChild) → are_new before xs ≡ true → Pairwise Apart (map born (filter p xs))
new_apart p before [] h = tt
new_apart p before (x ∷ xs) h = by (p x) (new_apart p (before ++ x.token ∷ []) xs rest)
  where
    rest : are_new (before ++ x.token ∷ []) xs ≡ true
    rest = (and_parts (not (is_among before x.token)) (are_new (before ++ x.token ∷ []) xs) h).1

    by : (b : Bool) → Pairwise Apart (map born (filter p xs)) → Pairwise Apart (map born (cond b (x ∷ filter p xs) (filter p xs)))
    by true k = (
      λ y j e.
          let u = from_map born y (filter p xs) j in
          let v = from_filter p u.0 xs u.1 in
          not_before (before ++ x.token ∷ []) xs rest u.0 v.0
          (subst (λ t. Contains (before ++ x.token ∷ []) t) (e ∙ ap (λ (z : Row). z.token) u.2) (Contains-append_right before (x.token ∷ []) x.token (in_head x.token []))),
      k,
    )
    by false k = k

-- a token of rising ones is below the later ones
pub rising_below : (t : List ℕ) (tokens : List (List ℕ)) → are_rising (t ∷ tokens) ≡ true → (u : List ℕ) → Contains tokens u → Below t u
rising_below t [] h u i = absurd (in_nil u i)
rising_below t (v ∷ tokens) h u i =
    let p = and_parts (is_above t (v ∷ tokens)) (are_rising (v ∷ tokens)) h in
    let low : Below t v = lt_is (slice_cmp nat_cmp t v) p.0 in
    ⊎_elim
    (λ (e : u ≡ v). subst (λ z. Below t z) (sym e) low)
    (λ (j : Contains tokens u). below_trans t v u low (rising_below v tokens p.1 u j))
    (in_cons v u tokens i)

not_below_itself : (a b : List ℕ) → Below a b → a ≢ b
not_below_itself a b h e = true≢false (sym (subst (λ z. same_token a z ≡ true) e (text_itself a)) ∙ below_differs a b h)

first_apart : (s : ℕ) (tokens : List (List ℕ)) → are_rising tokens ≡ true → Pairwise Apart (map (λ (t : List ℕ). born (record { token = t; parents = []; start = s })) tokens)
first_apart s [] h = tt
first_apart s (t ∷ tokens) h = (
  λ y j.
      let u = from_map (λ (t : List ℕ). born (record { token = t; parents = []; start = s })) y tokens j in
      subst (λ (z : Row). t ≢ z.token) (sym u.2) (not_below_itself t u.0 (rising_below t tokens h u.0 u.1)),
  first_apart s tokens (and_parts (is_above t tokens) (are_rising tokens) h).1,
)

pub opened_ordered : (s : ℕ) (rows : List Row) (tokens : List (List ℕ)) → rows ≡ [] → are_rising tokens ≡ true → IsOrdered (apply s rows (Opened tokens))
opened_ordered s rows tokens none h =
    puts_ordered (map (λ (t : List ℕ). born (record { token = t; parents = []; start = s })) tokens) rows (subst IsOrdered (sym none) tt) (first_apart s tokens h)
    (λ r a i j. absurd (in_nil a (subst (λ l. Contains l a) none j)))

pub progress_ordered : (s : ℕ) (rows : List Row) (t : List ℕ) (n : ℕ) (cs : List Change) → IsOrdered rows → IsOrdered (apply s rows (Progress t n cs))
progress_ordered s rows t n cs h = map_ordered (advanced t n cs false) (same_advanced t n cs false) rows h

pub finished_ordered : (s : ℕ) (rows : List Row) (t : List ℕ) (n : ℕ) (cs : List Change) (xs : List NewChild) → IsOrdered rows → are_new [] xs ≡ true → IsOrdered (apply s rows (Finished t n cs xs))
finished_ordered s rows t n cs xs h new =
    puts_ordered (map born (rowless rows xs)) (map (advanced t n cs true) rows) (map_ordered (advanced t n cs true) (same_advanced t n cs true) rows h)
    (new_apart (λ x. not (has_row x.token rows)) [] xs new)
    (λ r a i j e.
    let u = from_map born r (rowless rows xs) i in
    let v = from_filter (λ x. not (has_row x.token rows)) u.0 xs u.1 in
    let w = from_map (advanced t n cs true) a rows j in
    let same : w.0.token ≡ u.0.token = sym (same_advanced t n cs true w.0) ∙ ap (λ (z : Row). z.token) (sym w.2) ∙ e ∙ ap (λ (z : Row). z.token) u.2 in
    true≢false (sym (to_has rows u.0.token (w.0, w.1, same)) ∙ not_true (has_row u.0.token rows) v.1))

pub length_changed : (f : Row → Row) (i : ℕ) (rows : List Row) → length (changed_at f i rows) ≡ length rows
length_changed f i [] = refl
length_changed f zero (r ∷ rows) = refl
length_changed f (suc i) (r ∷ rows) = ap suc (length_changed f i rows)

pub length_moved : (m : Option Moved) (rows : List Row) → length (with_moved m rows) ≡ length rows
length_moved None rows = refl
length_moved (Some m) rows = length_changed (moved m) m.place rows
