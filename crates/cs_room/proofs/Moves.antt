-- The rows with the entry of a batch: its row has moved, the children that were no rows are, all else is as it was.
use Rattle.std.proofs.Common.{◌≡◌, ◌≢◌, ◌⊎◌, ◌↔◌, ℕ, Bool, true, false, cond, not, ◌||◌, List, [], ◌∷◌, map, ⊎_elim, inl, inr, sym, refl, ap, ◌∙◌, subst, true≢false, bytes_eq, Contains}
use Rattle.std.specs.Ordering.{nat_cmp, is_lt}
use Rattle.std.specs.Cmp.Lexicographic.{slice_cmp}
use Rattle.std.proofs.lemmas.Bool.{or_left, or_right}
use Rattle.cs_types.specs.Members.{bytes_same, bytes_itself, in_nil, in_head, in_tail, in_cons, from_filter, in_map, from_map}
use Rattle.cs_link.specs.declared.batch.Batch.{Batch}
use Rattle.cs_link.specs.declared.batch.NewChild.{NewChild}
use Rattle.cs_schedule.specs.declared.entry.Entry.TheVariants.{Progress, Finished}
use Rattle.cs_schedule.specs.declared.row.Row.{Row}
use Rattle.cs_schedule.specs.Consistent.{HasRow, born, is_end, news, through_by, entry_by, advanced, has_row, put_row, put_rows, rowless, apply}
use Rattle.cs_schedule.specs.Plan.{seen_with}
use Rattle.cs_room.proofs.Layouts.{token_cases}
use Rattle.cs_room.proofs.Lookups.{Single}

-- ---- rows put among others

put_mine : (r : Row) (rows : List Row) → Contains (put_row r rows) r
put_mine r [] = in_head r []
put_mine r (a ∷ rows) = by (is_lt (slice_cmp nat_cmp r.token a.token)) (put_mine r rows)
  where
    by : (b : Bool) → Contains (put_row r rows) r → Contains (cond b (r ∷ a ∷ rows) (a ∷ put_row r rows)) r
    by true h = in_head r (a ∷ rows)
    by false h = in_tail a r (put_row r rows) h

put_kept : (r : Row) (rows : List Row) (y : Row) → Contains rows y → Contains (put_row r rows) y
put_kept r [] y i = absurd (in_nil y i)
put_kept r (a ∷ rows) y i = by (is_lt (slice_cmp nat_cmp r.token a.token)) (in_cons a y rows i) (put_kept r rows y)
  where
    by : (b : Bool) → (y ≡ a) ⊎ Contains rows y → (Contains rows y → Contains (put_row r rows) y) → Contains (cond b (r ∷ a ∷ rows) (a ∷ put_row r rows)) y
    by true c f = in_tail r y (a ∷ rows) i
    by false (inl e) f = subst (λ z. Contains (a ∷ put_row r rows) z) (sym e) (in_head a (put_row r rows))
    by false (inr j) f = in_tail a y (put_row r rows) (f j)

put_from : (r : Row) (rows : List Row) (y : Row) → Contains (put_row r rows) y → (y ≡ r) ⊎ Contains rows y
put_from r [] y i = in_cons r y [] i
put_from r (a ∷ rows) y i = by (is_lt (slice_cmp nat_cmp r.token a.token)) i (put_from r rows y)
  where
    by : (b : Bool) → Contains (cond b (r ∷ a ∷ rows) (a ∷ put_row r rows)) y → (Contains (put_row r rows) y → (y ≡ r) ⊎ Contains rows y) → (y ≡ r) ⊎ Contains (a ∷ rows) y
    by true j f = in_cons r y (a ∷ rows) j
    by false j f = ⊎_elim (λ (e : y ≡ a). inr (subst (λ z. Contains (a ∷ rows) z) (sym e) (in_head a rows))) (λ (k : Contains (put_row r rows) y). ⊎_elim (λ (e : y ≡ r). inl e) (λ (l : Contains rows y). inr (in_tail a y rows l)) (f k)) (in_cons a y (put_row r rows) j)

pub puts_kept : (news rows : List Row) (y : Row) → Contains rows y → Contains (put_rows news rows) y
puts_kept [] rows y i = i
puts_kept (r ∷ news) rows y i = puts_kept news (put_row r rows) y (put_kept r rows y i)

pub puts_new : (news rows : List Row) (y : Row) → Contains news y → Contains (put_rows news rows) y
puts_new [] rows y i = absurd (in_nil y i)
puts_new (r ∷ news) rows y i =
    ⊎_elim
    (λ (e : y ≡ r). puts_kept news (put_row r rows) y (subst (λ z. Contains (put_row r rows) z) (sym e) (put_mine r rows)))
    (λ (j : Contains news y). puts_new news (put_row r rows) y j)
    (in_cons r y news i)

pub puts_from : (news rows : List Row) (y : Row) → Contains (put_rows news rows) y → Contains news y ⊎ Contains rows y
puts_from [] rows y i = inr i
puts_from (r ∷ news) rows y i =
    ⊎_elim
    (λ (j : Contains news y). inl (in_tail r y news j))
    (λ (j : Contains (put_row r rows) y). ⊎_elim (λ (e : y ≡ r). inl (subst (λ z. Contains (r ∷ news) z) (sym e) (in_head r news))) (λ (k : Contains rows y). inr k) (put_from r rows y j))
    (puts_from news (put_row r rows) y i)

-- ---- tokens of rows

to_has : (rows : List Row) (t : List ℕ) → HasRow rows t → has_row t rows ≡ true
to_has [] t h = absurd (in_nil h.0 h.1)
to_has (r ∷ rows) t h =
    ⊎_elim
    (λ (q : h.0 ≡ r). or_left (bytes_eq r.token t) (has_row t rows) (ap (λ z. bytes_eq z t) (ap (λ (z : Row). z.token) (sym q) ∙ h.2) ∙ bytes_itself t))
    (λ (j : Contains rows h.0). or_right (bytes_eq r.token t) (has_row t rows) (to_has rows t (h.0, j, h.2)))
    (in_cons r h.0 rows h.1)

not_true : (b : Bool) → not b ≡ true → b ≡ false
not_true true h = absurd (true≢false (sym h))
not_true false h = refl

-- ---- the row of a batch

-- the row with the batch
abbrev pub moved : Row → Batch → Row
moved r b =
    record {
      token = r.token;
      parents = r.parents;
      start = r.start;
      through = through_by r b;
      seen = seen_with r (through_by r b) (news r b);
      finished = r.finished || is_end b.ending;
      leased = r.leased;
      tries = r.tries;
    }

-- the rows after its entry
pub record IsMoved (rows : List Row) (r : Row) (b : Batch) (after : List Row) : Type 0 where
  pub from : (y : Row) → Contains after y → (Contains rows y × (y.token ≢ r.token)) ⊎ ((y ≡ moved r b) ⊎ ((x : NewChild) × Contains b.children x × (y ≡ born x) × (is_end b.ending ≡ true) × (HasRow rows x.token → ⊥)))
  pub kept : (y : Row) → Contains rows y → y.token ≢ r.token → Contains after y
  pub mine : Contains after (moved r b)

module _ (s : ℕ) (rows : List Row) (single : Single rows) (r : Row) (b : Batch) (there : Contains rows r) where
  n : ℕ
  n = through_by r b

  -- an entry of the row's token moves it
  moves : (fin : Bool) → is_end b.ending ≡ fin → advanced r.token n (news r b) fin r ≡ moved r b
  unfolding n
  moves fin h =
      ap (λ z. cond z (record { token = r.token; parents = r.parents; start = r.start; through = through_by r b; seen = seen_with r (through_by r b) (news r b); finished = r.finished || fin; leased = r.leased; tries = r.tries }) r) (bytes_itself r.token)
      ∙ (λ i. record { token = r.token; parents = r.parents; start = r.start; through = through_by r b; seen = seen_with r (through_by r b) (news r b); finished = r.finished || sym h i; leased = r.leased; tries = r.tries })

  -- and no other
  stays : (fin : Bool) (y : Row) → y.token ≢ r.token → advanced r.token n (news r b) fin y ≡ y
  stays fin y h = by (bytes_eq r.token y.token) refl
    where
      by : (z : Bool) → bytes_eq r.token y.token ≡ z → cond z (record { token = y.token; parents = y.parents; start = y.start; through = n; seen = seen_with y n (news r b); finished = y.finished || fin; leased = y.leased; tries = y.tries }) y ≡ y
      by true g = absurd (h (sym (bytes_same r.token y.token g)))
      by false g = refl

  front_from : (fin : Bool) → is_end b.ending ≡ fin → (y : Row) → Contains (map (advanced r.token n (news r b) fin) rows) y → (Contains rows y × (y.token ≢ r.token)) ⊎ (y ≡ moved r b)
  front_from fin h y i =
      let u = from_map (advanced r.token n (news r b) fin) y rows i in
      ⊎_elim
      (λ (a : u.0.token ≡ r.token). inr (u.2 ∙ ap (advanced r.token n (news r b) fin) (single u.0 r u.1 there a) ∙ moves fin h))
      (λ (a : u.0.token ≢ r.token).
      let same : y ≡ u.0 = u.2 ∙ stays fin u.0 a in
      inl (subst (λ z. Contains rows z × (z.token ≢ r.token)) (sym same) (u.1, a)))
      (token_cases u.0.token r.token)

  front_kept : (fin : Bool) (y : Row) → Contains rows y → y.token ≢ r.token → Contains (map (advanced r.token n (news r b) fin) rows) y
  front_kept fin y i h = subst (λ z. Contains (map (advanced r.token n (news r b) fin) rows) z) (stays fin y h) (in_map (advanced r.token n (news r b) fin) y rows i)

  front_mine : (fin : Bool) → is_end b.ending ≡ fin → Contains (map (advanced r.token n (news r b) fin) rows) (moved r b)
  front_mine fin h = subst (λ z. Contains (map (advanced r.token n (news r b) fin) rows) z) (moves fin h) (in_map (advanced r.token n (news r b) fin) r rows there)

  after_end : is_end b.ending ≡ true → IsMoved rows r b (put_rows (map born (rowless rows b.children)) (map (advanced r.token n (news r b) true) rows))
  after_end h =
      record {
        from = λ y i. ⊎_elim
            (λ (j : Contains (map born new) y).
            let u = from_map born y new j in
            let v = from_filter (λ x. not (has_row x.token rows)) u.0 b.children u.1 in
            inr (inr (u.0, v.0, u.2, h, λ g. true≢false (sym (to_has rows u.0.token g) ∙ not_true (has_row u.0.token rows) v.1))))
            (λ (j : Contains front y). ⊎_elim (λ (a : Contains rows y × (y.token ≢ r.token)). inl a) (λ (a : y ≡ moved r b). inr (inl a)) (front_from true h y j))
            (puts_from (map born new) front y i);
        kept = λ y i g. puts_kept (map born new) front y (front_kept true y i g);
        mine = puts_kept (map born new) front (moved r b) (front_mine true h);
      }
    where
      front : List Row
      front = map (advanced r.token n (news r b) true) rows

      new : List NewChild
      new = rowless rows b.children

  after_progress : is_end b.ending ≡ false → IsMoved rows r b (map (advanced r.token n (news r b) false) rows)
  after_progress h =
      record {
        from = λ y i. ⊎_elim (λ (a : Contains rows y × (y.token ≢ r.token)). inl a) (λ (a : y ≡ moved r b). inr (inl a)) (front_from false h y i);
        kept = front_kept false;
        mine = front_mine false h;
      }

  applied : IsMoved rows r b (apply s rows (entry_by r b))
  unfolding n
  applied = by (is_end b.ending) refl
    where
      by : (c : Bool) → is_end b.ending ≡ c → IsMoved rows r b (apply s rows (cond c (Finished r.token (through_by r b) (news r b) b.children) (Progress r.token (through_by r b) (news r b))))
      by true h = after_end h
      by false h = after_progress h

  -- of any list with the same rows
  pub is_moved : (after : List Row) → ((y : Row) → Contains after y ↔ Contains (apply s rows (entry_by r b)) y) → IsMoved rows r b after
  is_moved after same = record {
    from = λ y i. applied.from y ((same y).0 i);
    kept = λ y i h. (same y).1 (applied.kept y i h);
    mine = (same (moved r b)).1 applied.mine;
  }
