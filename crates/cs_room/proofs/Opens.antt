-- The opening of a window without rows lowers what is expected by its own bytes.
use Rattle.std.proofs.Common.{◌≡◌, ◌≢◌, ◌⊎◌, ℕ, ◌+◌, ◌-◌, ◌≤◌, max, true, false, cond, List, [], ◌∷◌, length, inl, inr, sym, refl, ap, ◌∙◌, subst, arith, bytes_eq, Contains}
use Rattle.cs_types.specs.declared.change.Change.{Change}
use Rattle.cs_types.specs.declared.names.Window.{Window}
use Rattle.cs_types.specs.Members.{Pairwise, bytes_same, bytes_itself, in_nil, pairs_weaker}
use Rattle.cs_place.specs.declared.part.Part.{Part}
use Rattle.cs_link.specs.declared.feed.Feed.{Feed}
use Rattle.cs_link.specs.Feed.{IsFeed}
use Rattle.cs_schedule.specs.declared.entry.Entry.TheVariants.{Opened}
use Rattle.cs_schedule.specs.declared.row.Row.{Row}
use Rattle.cs_schedule.specs.Board.{row_of, is_ended, has_ended}
use Rattle.cs_schedule.specs.Consistent.{HasRow, born}
use Rattle.cs_schedule.specs.Rows.{next_of}
use Rattle.cs_schedule.specs.Size.{total, text_size}
use Rattle.cs_schedule.specs.Spelling.{payload}
use Rattle.cs_room.specs.Room.{child_bytes, as_child, token_room, opening_left, child_left, next_with, entries_left, part_left, expected}
use Rattle.cs_room.proofs.Layouts.{same_part}
use Rattle.cs_room.proofs.Lookups.{Single, row_none, row_found, look}
use Rattle.cs_room.proofs.Sizes.{size_opened}
use Rattle.cs_room.proofs.Sums.{sum_less, all_paid}

-- the row of a part that is live at the window's start
abbrev pub first_row : ℕ → List ℕ → Row
first_row s t = born (record { token = t; parents = []; start = s })

-- the rows of tokens, and no others
pub record IsOpened (s : ℕ) (ts : List (List ℕ)) (after : List Row) : Type 0 where
  pub from : (y : Row) → Contains after y → (t : List ℕ) × Contains ts t × (y ≡ first_row s t)
  pub some : (y : Row) × Contains after y

-- each token is that of a part that is live at the window's start
abbrev pub AreLive : Feed → ℕ → List (List ℕ) → Type 0
AreLive f s ts = (t : List ℕ) → Contains ts t → (p : Part) × Contains f.parts p × (p.token ≡ t) × (p.from ≤ s)

none_opening : (f : Feed) (l : List Row) (x : Row) → Contains l x → opening_left f l ≡ 0
none_opening f [] x i = absurd (in_nil x i)
none_opening f (y ∷ l) x i = refl

module _ (f : Feed) (F : IsFeed f) (w : Window) (first : 1 ≤ w.start) (done : List Change) (ts : List (List ℕ)) (T : AreLive f w.start ts) (after : List Row) (A : IsOpened w.start ts after) where
  single : Single after
  single a b i j h =
      let u = A.from a i in
      let v = A.from b j in
      u.2 ∙ ap (first_row w.start) (sym (ap (λ (z : Row). z.token) u.2) ∙ h ∙ ap (λ (z : Row). z.token) v.2) ∙ sym v.2

  none_ended : (t : List ℕ) → has_ended after t ≡ false
  none_ended t = by (look after t)
    where
      by : HasRow after t ⊎ (HasRow after t → ⊥) → has_ended after t ≡ false
      by (inl h) = ap is_ended (row_found after t h.0 h.1 h.2 single) ∙ ap (λ (z : Row). z.finished) (A.from h.0 h.1).2
      by (inr none) = ap is_ended (row_none after t none)

  same_next : (p : Part) → Contains f.parts p → next_with (row_of after p.token) (max w.start p.from) ≡ max w.start p.from
  same_next p i = by (look after p.token)
    where
      by : HasRow after p.token ⊎ (HasRow after p.token → ⊥) → next_with (row_of after p.token) (max w.start p.from) ≡ max w.start p.from
      by (inr none) = ap (λ o. next_with o (max w.start p.from)) (row_none after p.token none)
      by (inl h) =
          let u = A.from h.0 h.1 in
          let v = T u.0 u.1 in
          let part : v.0 ≡ p = same_part f F v.0 p v.1 i (v.2 ∙ sym (ap (λ (z : Row). z.token) u.2) ∙ h.2) in
          let live : p.from ≤ w.start = subst (λ (z : Part). z.from ≤ w.start) part v.3 in
          let through : h.0.through ≡ w.start - 1 = ap (λ (z : Row). z.through) u.2 in
          let next : next_of h.0 ≡ max w.start p.from = omega (arith, through, live, first) in
          ap (λ o. next_with o (max w.start p.from)) (row_found after p.token h.0 h.1 h.2 single) ∙ next

  children_same : total (child_left after) f.parts ≤ total (child_left []) f.parts
  children_same = sum_less (child_left after) (child_left []) f.parts (λ c i. sum_less (λ t. cond (has_ended after t) 0 (child_bytes (as_child c))) (λ t. child_bytes (as_child c)) c.parents (λ t j. subst (λ z. cond z 0 (child_bytes (as_child c)) ≤ child_bytes (as_child c)) (sym (none_ended t)) (omega arith)))

  parts_same : total (part_left w after) f.parts ≤ total (part_left w []) f.parts
  parts_same = sum_less (part_left w after) (part_left w []) f.parts (λ p i.
      let x : entries_left w.end (next_with (row_of after p.token) (max w.start p.from)) (has_ended after p.token) ≡ entries_left w.end (max w.start p.from) false = λ j. entries_left w.end (same_next p i j) (none_ended p.token j) in
      omega (arith, x))

  tokens_paid : Pairwise (λ t u. t ≢ u) ts → total text_size ts ≤ total token_room f.parts
  tokens_paid apart =
      let a = all_paid (λ (q : Part) t. bytes_eq q.token t) (λ (q : Part). 0) token_room text_size f.parts ts
      (λ q i. omega arith)
      (λ t i.
      let v = T t i in
      let l : length v.0.token ≡ length t = ap length v.2 in
      (v.0, v.1, ap (λ z. bytes_eq z t) v.2 ∙ bytes_itself t, omega (arith, l)))
      (pairs_weaker (λ (t u : List ℕ). t ≢ u) (λ (t u : List ℕ). (q : Part) → Contains f.parts q → bytes_eq q.token t ≡ true → bytes_eq q.token u ≡ true → ⊥) ts
      (λ t u i j h q m x y. h (sym (bytes_same q.token t x) ∙ bytes_same q.token u y)) apart) in
      omega (arith, a)

  pub opens : Pairwise (λ t u. t ≢ u) ts → expected f w after done + (5 + length (payload (Opened ts))) ≤ expected f w [] done
  opens apart =
      let a = children_same in
      let b = parts_same in
      let c = tokens_paid apart in
      let d = none_opening f after A.some.0 A.some.1 in
      let e = size_opened ts in
      omega (arith, a, b, c, d, e)
