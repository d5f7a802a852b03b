-- The parts of a feed by their tokens, and where a child begins.
use Rattle.std.proofs.Common.{◌≡◌, ◌≢◌, ◌⊎◌, ℕ, ◌<◌, ◌≤◌, max, true, false, List, Some, ⊎_elim, inl, inr, sym, refl, ap, ◌∙◌, subst, arith, true≢false, bytes_eq, Contains}
use Rattle.std.proofs.lemmas.Bool.{cases_lt}
use Rattle.cs_types.specs.Members.{bytes_same, bytes_itself, in_nil, pairs_from, pairs_two}
use Rattle.cs_types.specs.declared.change.Change.{Change}
use Rattle.cs_place.specs.declared.part.Part.{Part}
use Rattle.cs_link.specs.declared.batch.NewChild.{NewChild}
use Rattle.cs_link.specs.declared.feed.Feed.{Feed}
use Rattle.cs_link.specs.Batch.{limit, IsNewChild}
use Rattle.cs_link.specs.Feed.{IsFeed}
use Rattle.cs_schedule.specs.declared.row.Row.{Row}
use Rattle.cs_schedule.specs.Consistent.{IsRight}
use Rattle.cs_schedule.specs.Rows.{next_of}

pub token_cases : (a b : List ℕ) → (a ≡ b) ⊎ (a ≢ b)
token_cases a b = by (bytes_eq a b) refl
  where
    by : (c : _) → bytes_eq a b ≡ c → (a ≡ b) ⊎ (a ≢ b)
    by true h = inl (bytes_same a b h)
    by false h = inr (λ e. true≢false (sym (ap (λ z. bytes_eq z b) e ∙ bytes_itself b) ∙ h))

module _ (f : Feed) (F : IsFeed f) where
  pub same_part : (a b : Part) → Contains f.parts a → Contains f.parts b → a.token ≡ b.token → a ≡ b
  same_part a b i j e =
      ⊎_elim
      (λ (s : a ≡ b). s)
      (λ (r : (a.token ≢ b.token) ⊎ (b.token ≢ a.token)). ⊎_elim (λ (n : a.token ≢ b.token). absurd (n e)) (λ (n : b.token ≢ a.token). absurd (n (sym e))) r)
      (pairs_two (λ (x y : Part). x.token ≢ y.token) f.parts (pairs_from (λ (x y : Part). x.token ≢ y.token) f.parts F.layout.tokens) a b i j)

  -- a child begins where its parent ends
  pub child_from : (e : ℕ) (q : Part) → Contains f.parts q → (x : NewChild) → IsNewChild f e q x → q.until ≡ Some x.start
  child_from e q i x C =
      let begun : f.created < C.child.from = ⊎_elim
      (λ (l : f.created < C.child.from). l)
      (λ (l : C.child.from ≤ f.created).
      let low = F.layout.begins C.child C.there in
      absurd (in_nil q.token (subst (λ z. Contains z q.token) (F.layout.first C.child C.there (omega (arith, l, low))) C.parent)))
      (cases_lt f.created C.child.from) in
      let a = (F.layout.parents C.child C.there begun q.token).0 C.parent in
      let ends : q.until ≡ Some C.child.from = subst (λ (z : Part). z.until ≡ Some C.child.from) (same_part a.0 q a.1 i a.2) a.3.moment in
      ends ∙ ap Some (sym (ap (λ (z : NewChild). z.start) C.same))

  -- and that is not before the row's next moment
  pub child_late : (s e : ℕ) (rows : List Row) (done : List Change) → IsRight f s e rows done → (r : Row) (q : Part) → Contains rows r → Contains f.parts q → r.token ≡ q.token → (x : NewChild) → IsNewChild f e q x → next_of r ≤ x.start
  child_late s e rows done R r q i j t x C =
      let o = R.bound r q i j t in
      let top : next_of r ≤ limit e (Some x.start) = subst (λ z. next_of r ≤ limit e z) (child_from e q j x C) o.1 in
      omega (arith, top)

  -- the row of a part begins with it, in the window
  pub row_start : (s e : ℕ) (rows : List Row) (done : List Change) → IsRight f s e rows done → (r : Row) → Contains rows r → (q : Part) → Contains f.parts q → r.token ≡ q.token → (r.start ≡ max s q.from) × (q.from ≤ e)
  row_start s e rows done R r i q j t =
      let k = R.known r i in
      let same : k.0 ≡ q = same_part k.0 q k.1 j (sym k.4.0 ∙ t) in
      (subst (λ (z : Part). r.start ≡ max s z.from) same k.4.2, subst (λ (z : Part). z.from ≤ e) same k.2)
