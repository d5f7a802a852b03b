-- What a lease and the batch of its READ meet.
use Rattle.std.proofs.Common.{◌≡◌, ◌≢◌, ◌⊎◌, ℕ, suc, ◌<◌, ◌≤◌, Bool, true, false, cond, not, ◌&&◌, ◌||◌, List, [], ◌∷◌, ◌++◌, Some, None, ⊎_elim, inl, inr, sym, refl, ap, ◌∙◌, subst, arith, length, Contains, nat_lt, nat_le}
use Rattle.std.specs.Ordering.{nat_cmp, is_eq}
use Rattle.std.specs.Cmp.Lexicographic.{slice_cmp}
use Rattle.std.proofs.lemmas.Bool.{and_from}
use Rattle.std.proofs.lemmas.List.Elements.{Contains-append_cases}
use Rattle.cs_types.specs.declared.change.Change.{Change}
use Rattle.cs_types.specs.declared.names.Window.{Window}
use Rattle.cs_types.specs.Members.{Pairwise, in_nil, in_head, in_tail, in_cons, pairs_from}
use Rattle.cs_link.specs.declared.batch.Batch.{Batch}
use Rattle.cs_link.specs.declared.batch.NewChild.{NewChild}
use Rattle.cs_link.specs.Reading.{end_of}
use Rattle.cs_fetch.specs.Laws.{Fits, IsWithin as LeaseIsWithin, ListsFirst, HasShape, IsWellFormed}
use Rattle.cs_schedule.specs.declared.row.Row.{Row}
use Rattle.cs_schedule.specs.Spelling.{begin_at, are_in_order, is_among, are_new}
use Rattle.cs_book.specs.declared.lease.Lease.{Lease}
use Rattle.cs_follow.specs.Due.{IsLeaseOf}
use Rattle.cs_book.specs.Planned.{IsFit}
use Rattle.cs_book.specs.Waiting.{AreWithin}
use Rattle.cs_book.specs.Lease.{row_lease}
use Rattle.cs_follow.proofs.Small.{lt_true, true_le, token_equal, some_length}

begins : (n : ℕ) (cs : List Change) → ((c : Change) → Contains cs c → n ≤ c.stamp) → begin_at n cs ≡ true
begins n [] h = refl
begins n (c ∷ cs) h = true_le n c.stamp (h c (in_head c cs))

pub in_order : (n : ℕ) (cs : List Change) → Pairwise (λ c d. c.stamp ≤ d.stamp) cs → ((c : Change) → Contains cs c → c.stamp ≤ suc n) → are_in_order n cs ≡ true
in_order n [] P h = refl
in_order n (c ∷ cs) P h =
    and_from (nat_le c.stamp (suc n) && begin_at c.stamp cs) (are_in_order n cs)
    (and_from (nat_le c.stamp (suc n)) (begin_at c.stamp cs) (true_le c.stamp (suc n) (h c (in_head c cs))) (begins c.stamp cs P.0))
    (in_order n cs P.1 (λ d i. h d (in_tail c d cs i)))

not_among : (tokens : List (List ℕ)) (t : List ℕ) → ((u : List ℕ) → Contains tokens u → u ≢ t) → is_among tokens t ≡ false
not_among [] t h = refl
not_among (u ∷ tokens) t h = by (is_eq (slice_cmp nat_cmp t u)) refl (not_among tokens t (λ v i. h v (in_tail u v tokens i)))
  where
    by : (b : Bool) → is_eq (slice_cmp nat_cmp t u) ≡ b → is_among tokens t ≡ false → (b || is_among tokens t) ≡ false
    by true q k = absurd (h u (in_head u tokens) (sym (token_equal t u q)))
    by false q k = k

pub all_new : (before : List (List ℕ)) (xs : List NewChild) → ((x : NewChild) → Contains xs x → (u : List ℕ) → Contains before u → u ≢ x.token) → Pairwise (λ (x y : NewChild). x.token ≢ y.token) xs → are_new before xs ≡ true
all_new before [] h P = refl
all_new before (x ∷ xs) h P =
    and_from (not (is_among before x.token)) (are_new (before ++ x.token ∷ []) xs)
    (ap not (not_among before x.token (h x (in_head x xs))))
    (all_new (before ++ x.token ∷ []) xs
    (λ y i u j. ⊎_elim (λ (k : Contains before u). h y (in_tail x y xs i) u k) (λ (k : Contains (x.token ∷ []) u). ⊎_elim (λ (e : u ≡ x.token). λ same. P.0 y i (sym e ∙ same)) (λ (l : Contains [] u). absurd (in_nil u l)) (in_cons x.token u [] k)) (Contains-append_cases before (x.token ∷ []) u j))
    P.1)

-- the end of a lease's READ is the window's, and so is its stream
pub lease_end : (w : Window) (rows : List Row) (lease : Lease) → IsLeaseOf w rows lease → (lease.args.end ≡ Some w.end) × (end_of lease.args ≡ w.end) × (lease.args.stream ≡ w.stream)
lease_end w rows lease (inl h) = subst (λ (l : Lease). (l.args.end ≡ Some w.end) × (end_of l.args ≡ w.end) × (l.args.stream ≡ w.stream)) (sym h.1) (refl, refl, refl)
lease_end w rows lease (inr h) = subst (λ (l : Lease). (l.args.end ≡ Some w.end) × (end_of l.args ≡ w.end) × (l.args.stream ≡ w.stream)) (sym h.2) (refl, refl, refl)

pub row_fits : (w : Window) (r : Row) → r.start ≤ suc r.through → Fits (row_lease w r).args (row_lease w r).known
row_fits w r low = by (nat_lt r.through r.start) refl
  where
    by : (b : Bool) → nat_lt r.through r.start ≡ b → (cond b r.start r.through ≡ r.through) ⊎ (cond b r.start r.through ≡ suc r.through)
    by true q = let above = lt_true r.through r.start q in inr (omega (arith, low, above))
    by false q = inl refl

module _ (w : Window) (rows : List Row) (lease : Lease) (first : 1 ≤ w.start) (order : w.start ≤ w.end) (within : AreWithin w.end rows) (of : IsLeaseOf w rows lease) where
  pub lease_fits : Fits lease.args lease.known
  lease_fits = by of
    where
      by : IsLeaseOf w rows lease → Fits lease.args lease.known
      by (inl h) = subst (λ (l : Lease). Fits l.args l.known) (sym h.1) (inr (omega (arith, first)))
      by (inr h) = subst (λ (l : Lease). Fits l.args l.known) (sym h.2) (row_fits w h.0 (within h.0 h.1.there).start)

  pub lease_within : LeaseIsWithin lease.args lease.known
  lease_within = by of
    where
      by : IsLeaseOf w rows lease → LeaseIsWithin lease.args lease.known
      by (inl h) = subst (λ (l : Lease). LeaseIsWithin l.args l.known) (sym h.1) (record { low = omega (arith, order); first = λ _. order })
      by (inr h) = subst (λ (l : Lease). LeaseIsWithin l.args l.known) (sym h.2) (record { low = (within h.0 h.1.there).end; first = λ none. absurd cc })

  module _ (x : Batch) (W : IsWellFormed lease.args lease.known x) where
    at_end : end_of lease.args ≡ w.end
    at_end = (lease_end w rows lease of).1

    some_children : x.token ≡ None → 0 < length x.children
    some_children none = let L : ListsFirst x = subst (HasShape x) (sym W.token ∙ none) W.shape in some_length L.some.0 x.children L.some.1

    -- what is asked of the batch
    pub fit : IsFit w x
    fit = record {
      within = subst (λ n. x.through ≤ n) at_end W.within;
      starts = λ y i. subst (λ n. y.start ≤ n) at_end (W.starts y i);
      order = in_order x.through x.changes (pairs_from (λ (c d : Change). c.stamp ≤ d.stamp) x.changes W.order) (λ c i. (W.top c i).0);
      once = all_new [] x.children (λ y i u j. absurd (in_nil u j)) (pairs_from (λ (y z : NewChild). y.token ≢ z.token) x.children W.once);
      some = some_children;
    }
