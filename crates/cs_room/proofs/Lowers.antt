-- The entry of a faithful batch lowers what is expected by its own bytes.
use Rattle.std.proofs.Common.{◌≡◌, ◌≢◌, ◌⊎◌, ℕ, suc, ◌+◌, ◌-◌, ◌<◌, ◌≤◌, max, Bool, true, false, cond, ◌||◌, List, [], ◌∷◌, ◌++◌, map, length, Option, Some, None, ⊎_elim, inl, inr, sym, refl, ap, ◌∙◌, subst, arith, true≢false, bytes_eq, Contains}
use Rattle.std.proofs.lemmas.Bool.{and_from, le-leb}
use Rattle.std.proofs.lemmas.List.Elements.{Contains-append_right}
use Rattle.cs_types.specs.declared.change.Change.{Change}
use Rattle.cs_types.specs.declared.names.Window.{Window}
use Rattle.cs_types.specs.Members.{bytes_same, bytes_itself, in_nil, in_filter, pairs_from, pairs_right, pairs_across, pairs_weaker}
use Rattle.cs_place.specs.declared.part.Part.{Part}
use Rattle.cs_link.specs.declared.batch.Batch.{Batch}
use Rattle.cs_link.specs.declared.batch.Ending.{Ending}
use Rattle.cs_link.specs.declared.batch.Ending.TheVariants as endings
use Rattle.cs_link.specs.declared.batch.Known.{Known}
use Rattle.cs_link.specs.declared.batch.NewChild.{NewChild}
use Rattle.cs_link.specs.declared.feed.Feed.{Feed}
use Rattle.cs_link.specs.Batch.{limit, seen_of, is_seen}
use Rattle.cs_link.specs.Feed.{IsFeed}
use Rattle.cs_schedule.specs.declared.entry.Entry.TheVariants.{Progress, Finished}
use Rattle.cs_schedule.specs.declared.row.Row.{Row}
use Rattle.cs_schedule.specs.Board.{row_of, is_ended, has_ended}
use Rattle.cs_schedule.specs.Consistent.{HasRow, InOrder, IsRight, born, is_end, news, through_by, entry_by, MayMove}
use Rattle.cs_schedule.specs.Rows.{next_of}
use Rattle.cs_schedule.specs.Size.{total}
use Rattle.cs_schedule.specs.Spelling.{payload}
use Rattle.cs_room.specs.Laws.{BringsRowOn}
use Rattle.cs_room.specs.Room.{entry_frame, change_bytes, child_bytes, as_child, wanted_in, opening_left, change_left, child_left, next_with, entries_left, part_left, expected}
use Rattle.cs_room.proofs.Layouts.{token_cases, same_part, row_start}
use Rattle.cs_room.proofs.Lookups.{row_none, row_found, look}
use Rattle.cs_room.proofs.Moves.{moved, IsMoved}
use Rattle.cs_room.proofs.Names.{is_same, same_is, same_itself, in_has, from_has, has_more, same_named}
use Rattle.cs_room.proofs.Pace.{left_less, left_falls}
use Rattle.cs_room.proofs.Sizes.{size_progress, size_finished}
use Rattle.cs_room.proofs.Sums.{sum_less, sum_falls, sum_more, all_paid}

pub in_wanted : (f : Feed) (w : Window) (c : Change) → Contains f.wanted c → w.start ≤ c.stamp → c.stamp ≤ w.end → Contains (wanted_in f w) c
in_wanted f w c i a b = in_filter _ c f.wanted i (and_from _ _ (le-leb w.start c.stamp a) (le-leb c.stamp w.end b))

ended : (x : Ending) → x ≡ endings.Finished → is_end x ≡ true
ended x h = subst (λ z. is_end z ≡ true) (sym h) refl

limit_top : (e : ℕ) (o : Option ℕ) → limit e o ≤ suc e
limit_top e None = omega arith
limit_top e (Some u) = omega arith

none_opening : (f : Feed) (l : List Row) (x : Row) → Contains l x → opening_left f l ≡ 0
none_opening f [] x i = absurd (in_nil x i)
none_opening f (y ∷ l) x i = refl

module _ (f : Feed) (F : IsFeed f) (w : Window) (first : 1 ≤ w.start) (rows : List Row) (done : List Change) (R : IsRight f w.start w.end rows done) (r : Row) (q : Part) (k : Known) (b : Batch) (M : MayMove f w.start w.end rows r q k b)
    (after : List Row) (A : IsMoved rows r b after) (S : IsRight f w.start w.end after (done ++ news r b)) where
  fin : Bool
  fin = is_end b.ending

  fin_moved : (moved r b).finished ≡ fin
  unfolding fin
  fin_moved = ap (λ z. z || is_end b.ending) M.unfinished

  fin_ended : b.ending ≡ endings.Finished → fin ≡ true
  unfolding fin
  fin_ended h = ended b.ending h

  -- ---- the changes

  new_order : InOrder (news r b)
  new_order = pairs_right (λ (c d : Change). c.row ≡ d.row → c.stamp < d.stamp) done (news r b) S.order

  is_wanted : (c : Change) → Contains (news r b) c → Contains f.wanted c × (w.start ≤ c.stamp) × (c.stamp ≤ w.end)
  is_wanted c i =
      let u = S.wanted c (Contains-append_right done (news r b) c i) in
      let k = S.known u.0 u.1 in
      (u.3, omega (arith, u.4, k.4.2), u.5)

  was_wanted : (c : Change) → Contains done c → Contains f.wanted c
  was_wanted c i = (R.wanted c i).3

  fresh_has : (c : Change) → Contains (news r b) c → is_seen (map seen_of done) c ≡ false
  fresh_has c i = by (is_seen (map seen_of done) c) refl
    where
      by : (d : Bool) → is_seen (map seen_of done) c ≡ d → is_seen (map seen_of done) c ≡ false
      by false h = h
      by true h =
          let u = from_has c done h in
          let same : c ≡ u.0 = same_named f F c u.0 (is_wanted c i).0 (was_wanted u.0 u.1) u.2 in
          let less : c.stamp < c.stamp = pairs_across (λ (c d : Change). c.row ≡ d.row → c.stamp < d.stamp) done (news r b) S.order c c (subst (λ z. Contains done z) (sym same) u.1) i refl in
          absurd (omega (arith, less))

  changes_fall : total (change_left (done ++ news r b)) (wanted_in f w) + total (λ c. change_bytes c + entry_frame) (news r b) ≤ total (change_left done) (wanted_in f w)
  changes_fall =
      all_paid is_same (change_left (done ++ news r b)) (change_left done) (λ c. change_bytes c + entry_frame) (wanted_in f w) (news r b)
      (λ c i. less c (is_seen (map seen_of done) c) refl)
      (λ c i.
      let n = is_wanted c i in
      (c, in_wanted f w c n.0 n.1 n.2, same_itself c, paid c (is_seen (map seen_of (done ++ news r b)) c) (in_has c (done ++ news r b) (Contains-append_right done (news r b) c i)) (is_seen (map seen_of done) c) (fresh_has c i)))
      (pairs_weaker (λ (c d : Change). c.row ≡ d.row → c.stamp < d.stamp) (λ (c d : Change). (x : Change) → Contains (wanted_in f w) x → is_same x c ≡ true → is_same x d ≡ true → ⊥) (news r b)
      (λ c d i j h x m u v.
      let same : c ≡ d = same_named f F c d (is_wanted c i).0 (is_wanted d j).0 (sym (same_is x c u) ∙ same_is x d v) in
      let l = h (ap (λ (z : Change). z.row) same) in
      let e : c.stamp ≡ d.stamp = ap (λ (z : Change). z.stamp) same in
      omega (arith, l, e))
      new_order)
    where
      less : (c : Change) (d : Bool) → is_seen (map seen_of done) c ≡ d → cond (is_seen (map seen_of (done ++ news r b)) c) 0 (change_bytes c + entry_frame) ≤ cond d 0 (change_bytes c + entry_frame)
      less c true h = subst (λ z. cond z 0 (change_bytes c + entry_frame) ≤ 0) (sym (has_more c done (news r b) h)) (omega arith)
      less c false h = most (is_seen (map seen_of (done ++ news r b)) c)
        where
          most : (d : Bool) → cond d 0 (change_bytes c + entry_frame) ≤ change_bytes c + entry_frame
          most true = omega arith
          most false = omega arith

      paid : (c : Change) (x : Bool) → x ≡ true → (y : Bool) → y ≡ false → cond x 0 (change_bytes c + entry_frame) + (change_bytes c + entry_frame) ≤ cond y 0 (change_bytes c + entry_frame)
      paid c true h false g = omega arith
      paid c true h true g = absurd (true≢false g)
      paid c false h y g = absurd (true≢false (sym h))

  -- ---- what the rows say of a token

  its_row : row_of rows q.token ≡ Some r
  its_row = row_found rows q.token r M.there M.its R.single

  then_row : row_of after q.token ≡ Some (moved r b)
  then_row = row_found after q.token (moved r b) A.mine M.its S.single

  its_ended : has_ended rows q.token ≡ false
  its_ended = ap is_ended its_row ∙ M.unfinished

  then_ended : has_ended after q.token ≡ fin
  then_ended = ap is_ended then_row ∙ fin_moved

  its_next : (from : ℕ) → next_with (row_of rows q.token) from ≡ next_of r
  its_next from = ap (λ o. next_with o from) its_row

  then_next : (from : ℕ) → next_with (row_of after q.token) from ≡ suc (through_by r b)
  then_next from = ap (λ o. next_with o from) then_row

  other : (t : List ℕ) → t ≢ q.token → (z : Row) → Contains rows z → z.token ≡ t → Contains after z
  other t n z i h = A.kept z i (λ g. n (sym h ∙ g ∙ M.its))

  -- a new row of a token that had none
  made : (t : List ℕ) → t ≢ q.token → (HasRow rows t → ⊥) → (z : Row) → Contains after z → z.token ≡ t → (x : NewChild) × (z ≡ born x)
  made t n none z i h =
      ⊎_elim
      (λ (a : Contains rows z × (z.token ≢ r.token)). absurd (none (z, a.0, h)))
      (λ (o : (z ≡ moved r b) ⊎ ((x : NewChild) × Contains b.children x × (z ≡ born x) × (is_end b.ending ≡ true) × (HasRow rows x.token → ⊥))). ⊎_elim
      (λ (a : z ≡ moved r b). absurd (n (sym h ∙ ap (λ (y : Row). y.token) a ∙ M.its)))
      (λ (a : (x : NewChild) × Contains b.children x × (z ≡ born x) × (is_end b.ending ≡ true) × (HasRow rows x.token → ⊥)). (a.0, a.2))
      o)
      (A.from z i)

  same_ended : (t : List ℕ) → t ≢ q.token → has_ended after t ≡ has_ended rows t
  same_ended t n = by (look rows t) (look after t)
    where
      by : HasRow rows t ⊎ (HasRow rows t → ⊥) → HasRow after t ⊎ (HasRow after t → ⊥) → has_ended after t ≡ has_ended rows t
      by (inl h) o = ap is_ended (row_found after t h.0 (other t n h.0 h.1 h.2) h.2 S.single ∙ sym (row_found rows t h.0 h.1 h.2 R.single))
      by (inr none) (inr never) = ap is_ended (row_none after t never ∙ sym (row_none rows t none))
      by (inr none) (inl h) =
          let x = made t n none h.0 h.1 h.2 in
          ap is_ended (row_found after t h.0 h.1 h.2 S.single) ∙ ap (λ (z : Row). z.finished) x.1 ∙ sym (ap is_ended (row_none rows t none))

  same_next : (p : Part) → Contains f.parts p → p.token ≢ q.token → next_with (row_of after p.token) (max w.start p.from) ≡ next_with (row_of rows p.token) (max w.start p.from)
  same_next p i n = by (look rows p.token) (look after p.token)
    where
      from : ℕ
      from = max w.start p.from

      by : HasRow rows p.token ⊎ (HasRow rows p.token → ⊥) → HasRow after p.token ⊎ (HasRow after p.token → ⊥) → next_with (row_of after p.token) (max w.start p.from) ≡ next_with (row_of rows p.token) (max w.start p.from)
      by (inl h) o = ap (λ o. next_with o (max w.start p.from)) (row_found after p.token h.0 (other p.token n h.0 h.1 h.2) h.2 S.single ∙ sym (row_found rows p.token h.0 h.1 h.2 R.single))
      by (inr none) (inr never) = ap (λ o. next_with o (max w.start p.from)) (row_none after p.token never ∙ sym (row_none rows p.token none))
      by (inr none) (inl h) =
          let x = made p.token n none h.0 h.1 h.2 in
          let start = (row_start f F w.start w.end after (done ++ news r b) S h.0 h.1 p i h.2).0 in
          let through : h.0.through ≡ h.0.start - 1 = ap (λ (z : Row). z.through) x.1 ∙ sym (ap (λ (z : Row). z.start - 1) x.1) in
          let next : next_of h.0 ≡ max w.start p.from = omega (arith, start, through, first) in
          ap (λ o. next_with o (max w.start p.from)) (row_found after p.token h.0 h.1 h.2 S.single) ∙ next ∙ sym (ap (λ o. next_with o (max w.start p.from)) (row_none rows p.token none))

  -- ---- the children

  stays_ended : (t : List ℕ) → has_ended rows t ≡ true → has_ended after t ≡ true
  stays_ended t h =
      ⊎_elim
      (λ (g : t ≡ q.token). absurd (true≢false (sym (subst (λ z. has_ended rows z ≡ true) g h) ∙ its_ended)))
      (λ (g : t ≢ q.token). same_ended t g ∙ h)
      (token_cases t q.token)

  one_child : (c : Part) (t : List ℕ) → cond (has_ended after t) 0 (child_bytes (as_child c)) ≤ cond (has_ended rows t) 0 (child_bytes (as_child c))
  one_child c t = by (has_ended rows t) refl
    where
      most : (d : Bool) → cond d 0 (child_bytes (as_child c)) ≤ child_bytes (as_child c)
      most true = omega arith
      most false = omega arith

      by : (d : Bool) → has_ended rows t ≡ d → cond (has_ended after t) 0 (child_bytes (as_child c)) ≤ cond d 0 (child_bytes (as_child c))
      by true h = subst (λ z. cond z 0 (child_bytes (as_child c)) ≤ 0) (sym (stays_ended t h)) (omega arith)
      by false h = most (has_ended after t)

  children_fall : total (child_left after) f.parts + total child_bytes b.children ≤ total (child_left rows) f.parts
  children_fall =
      all_paid (λ (c : Part) (x : NewChild). bytes_eq c.token x.token) (child_left after) (child_left rows) child_bytes f.parts b.children
      (λ c i. sum_less (λ t. cond (has_ended after t) 0 (child_bytes (as_child c))) (λ t. cond (has_ended rows t) 0 (child_bytes (as_child c))) c.parents (λ t j. one_child c t))
      (λ x i.
      let t = (M.batch.children x).0 i in
      let c = t.1.child in (
        c,
        t.1.there,
        ap (λ (z : NewChild). bytes_eq c.token z.token) t.1.same ∙ bytes_itself c.token,
        sum_falls (λ t. cond (has_ended after t) 0 (child_bytes (as_child c))) (λ t. cond (has_ended rows t) 0 (child_bytes (as_child c))) (child_bytes x) c.parents q.token t.1.parent (λ t j. one_child c t)
            (paid c x t.1.same (has_ended after q.token) (then_ended ∙ fin_ended t.0) (has_ended rows q.token) its_ended),
      ))
      (pairs_weaker (λ (x y : NewChild). x.token ≢ y.token) (λ (x y : NewChild). (c : Part) → Contains f.parts c → bytes_eq c.token x.token ≡ true → bytes_eq c.token y.token ≡ true → ⊥) b.children
      (λ x y i j h c m u v. h (sym (bytes_same c.token x.token u) ∙ bytes_same c.token y.token v))
      (pairs_from (λ (x y : NewChild). x.token ≢ y.token) b.children M.batch.once))
    where
      paid : (c : Part) (x : NewChild) → x ≡ as_child c → (y : Bool) → y ≡ true → (z : Bool) → z ≡ false → cond y 0 (child_bytes (as_child c)) + child_bytes x ≤ cond z 0 (child_bytes (as_child c))
      paid c x h true g false n = let l = ap child_bytes h in omega (arith, l)
      paid c x h true g true n = absurd (true≢false n)
      paid c x h false g z n = absurd (true≢false (sym g))

  -- ---- the parts

  before_left : (from : ℕ) → entries_left w.end (next_with (row_of rows q.token) from) (has_ended rows q.token) ≡ entries_left w.end (next_of r) false
  before_left from = λ j. entries_left w.end (its_next from j) (its_ended j)

  after_left : (from : ℕ) → entries_left w.end (next_with (row_of after q.token) from) (has_ended after q.token) ≡ entries_left w.end (suc (through_by r b)) fin
  after_left from = λ j. entries_left w.end (then_next from j) (then_ended j)

  one_part : (p : Part) → Contains f.parts p → part_left w after p ≤ part_left w rows p
  one_part p i =
      ⊎_elim
      (λ (g : p.token ≡ q.token).
      let part : p ≡ q = same_part f F p q i M.part g in
      subst (λ (z : Part). part_left w after z ≤ part_left w rows z) (sym part) mine)
      (λ (g : p.token ≢ q.token).
      let u = same_next p i g in
      let v = same_ended p.token g in
      let x : entries_left w.end (next_with (row_of after p.token) (max w.start p.from)) (has_ended after p.token) ≡ entries_left w.end (next_with (row_of rows p.token) (max w.start p.from)) (has_ended rows p.token) = λ j. entries_left w.end (u j) (v j) in
      omega (arith, x))
      (token_cases p.token q.token)
    where
      mine : part_left w after q ≤ part_left w rows q
      mine =
          let a = after_left (max w.start q.from) in
          let c = before_left (max w.start q.from) in
          let d = left_less w.end (suc (through_by r b)) (next_of r) fin (omega arith) in
          omega (arith, a, c, d)

  parts_less : total (part_left w after) f.parts ≤ total (part_left w rows) f.parts
  parts_less = sum_less (part_left w after) (part_left w rows) f.parts one_part

  parts_fall : suc (entries_left w.end (suc (through_by r b)) fin) ≤ entries_left w.end (next_of r) false → total (part_left w after) f.parts + entry_frame ≤ total (part_left w rows) f.parts
  parts_fall l =
      sum_falls (part_left w after) (part_left w rows) entry_frame f.parts q M.part one_part
      (let a = after_left (max w.start q.from) in
      let c = before_left (max w.start q.from) in
      omega (arith, a, c, l))

  -- ---- together

  -- of the frames of its changes and its part, one pays the frame of the entry
  frame_falls : BringsRowOn r b → (total (part_left w after) f.parts + total change_bytes (news r b)) + entry_frame ≤ total (part_left w rows) f.parts + total (λ c. change_bytes c + entry_frame) (news r b)
  frame_falls (inl h) =
      let end = fin_ended h in
      let a = parts_fall (subst (λ z. suc (entries_left w.end (suc (through_by r b)) z) ≤ entries_left w.end (next_of r) false) (sym end) (omega arith)) in
      let c = sum_more change_bytes entry_frame (news r b) in
      omega (arith, a, c)
  frame_falls (inr (inl h)) =
      let a = parts_less in
      let c = sum_more change_bytes entry_frame (news r b) in
      let d : 0 < length (news r b) = omega (arith, h.1) in
      omega (arith, a, c, d)
  frame_falls (inr (inr h)) =
      let o = S.bound (moved r b) q A.mine M.part M.its in
      let l = limit_top w.end q.until in
      let top : suc (through_by r b) ≤ suc w.end = omega (arith, o.1, l) in
      let a = parts_fall (left_falls w.end (suc (through_by r b)) (next_of r) fin (omega (arith, h)) top) in
      let c = sum_more change_bytes entry_frame (news r b) in
      omega (arith, a, c)

  size : length (payload (entry_by r b)) ≤ 21 + (length r.token + (total change_bytes (news r b) + total child_bytes b.children))
  size = by (is_end b.ending)
    where
      by : (x : Bool) → length (payload (cond x (Finished r.token (through_by r b) (news r b) b.children) (Progress r.token (through_by r b) (news r b)))) ≤ 21 + (length r.token + (total change_bytes (news r b) + total child_bytes b.children))
      by true = let a = size_finished r.token (through_by r b) (news r b) b.children in omega (arith, a)
      by false = let a = size_progress r.token (through_by r b) (news r b) in omega (arith, a)

  pub lowers : length r.token ≤ 1024 → BringsRowOn r b → expected f w after (done ++ news r b) + (5 + length (payload (entry_by r b))) ≤ expected f w rows done
  lowers short on =
      let a = changes_fall in
      let c = children_fall in
      let d = frame_falls on in
      let g = none_opening f after (moved r b) A.mine in
      let z = size in
      omega (arith, a, c, d, g, short, z)
