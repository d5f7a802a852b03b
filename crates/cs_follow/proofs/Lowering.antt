-- Each entry leaves less that may still be added.
use Rattle.std.proofs.Common.{◌≡◌, ℕ, suc, ◌<◌, ◌≤◌, ◌+◌, ◌-◌, ◌*◌, Bool, true, false, cond, not, ◌||◌, List, [], ◌++◌, Option, None, ⊎_elim, sym, refl, ap, ◌∙◌, subst, arith, filter, map, length, length-append, Contains, nat_le, eqb}
use Rattle.std.proofs.Math.Nat.{add-mul}
use Rattle.std.proofs.lemmas.Bool.{cases_lt, eq-eqb}
use Rattle.cs_types.specs.declared.change.Change.{Change}
use Rattle.cs_types.specs.Members.{in_filter, from_filter}
use Rattle.cs_link.specs.declared.batch.Batch.{Batch}
use Rattle.cs_link.specs.Batch.{seen_of, is_known}
use Rattle.cs_schedule.specs.declared.entry.Entry.{Entry}
use Rattle.cs_schedule.specs.declared.row.Row.{Row}
use Rattle.cs_schedule.specs.Board.{IsOrdered}
use Rattle.cs_schedule.specs.Consistent.{known_by, news, through_by, born, advanced, put_rows, rowless}
use Rattle.cs_schedule.specs.Plan.{count_new, seen_with, judge, has_change}
use Rattle.cs_schedule.specs.Update.{applied}
use Rattle.cs_follow.specs.Left.{row_left, row_most, rows_left, left_of}
use Rattle.cs_follow.proofs.PlannedCases.{Ends, Brings, Idles, judged_parts, not_too_many, not_crowded, some_of}
use Rattle.cs_follow.proofs.RowLemmas.{puts_length, puts_left, all_born_left, advanced_row, its, moved_left, rowless_length}
use Rattle.cs_follow.proofs.Small.{map_length, some_length, le_false}

-- rows that are new are paid for by those that there may still be
pub paid : (e : ℕ) (before k : ℕ) (old new rest : ℕ) → before + k ≤ 65536 → new + k ≤ k * row_most e → rest + 1 ≤ old + k → (65536 - (k + before)) * row_most e + (new + rest) < (65536 - before) * row_most e + old
paid e before k old new rest few born less =
    let there : 65536 - before ≡ (65536 - (k + before)) + k = omega (arith, few) in
    let split : (65536 - before) * row_most e ≡ (65536 - (k + before)) * row_most e + k * row_most e = ap (λ z. z * row_most e) there ∙ add-mul (65536 - (k + before)) k (row_most e) in
    omega (arith, split, born, less)

known_false : (a b : Bool) → (a || b) ≡ false → a ≡ false
known_false true b h = h
known_false false b h = refl

module _ (e s : ℕ) (rows : List Row) (r : Row) (b : Batch) (O : IsOrdered rows) (there : Contains rows r) (unfinished : r.finished ≡ false) (low : r.through ≤ e) (within : b.through ≤ e)
    (top : (c : Change) → Contains b.changes c → (c.stamp ≤ suc b.through) × (is_known (known_by r) c ≡ false)) (judged : judge rows r b ≡ None) where
  n : ℕ
  n = through_by r b

  has_left : 1 ≤ row_left e r
  has_left = let is : row_left e r ≡ suc ((suc e - r.through) * 1025 + (1024 - length r.seen)) = ap (λ z. cond z 0 (suc ((suc e - r.through) * 1025 + (1024 - length r.seen)))) unfinished in omega (arith, is)

  moved_is : row_left e (advanced_row r.token n (news r b) false r) ≡ suc ((suc e - n) * 1025 + (1024 - length (seen_with r n (news r b))))
  unfolding n
  moved_is = ap (λ z. cond (z || false) 0 (suc ((suc e - through_by r b) * 1025 + (1024 - length (seen_with r (through_by r b) (news r b)))))) unfinished

  was : row_left e r ≡ suc ((suc e - r.through) * 1025 + (1024 - length r.seen))
  was = ap (λ z. cond z 0 (suc ((suc e - r.through) * 1025 + (1024 - length r.seen)))) unfinished

  raised : r.through < b.through → row_left e (advanced_row r.token n (news r b) false r) < row_left e r
  unfolding n
  raised up =
      let more : through_by r b ≡ b.through = omega (arith, up) in
      omega (arith, moved_is, was, more, up, within)

  -- the changes that are new to it where no more is complete
  module _ (same : b.through ≤ r.through) (c : Change) (new : Contains (news r b) c) where
    stays : n ≡ r.through
    unfolding n
    stays = omega (arith, same)

    stamp : c.stamp ≡ suc n
    stamp =
        let parts = from_filter (λ d. not (is_known (known_by r) d)) c b.changes new in
        let bounds = top c parts.0 in
        let above : r.through < c.stamp = le_false c.stamp r.through (known_false (nat_le c.stamp r.through) _ bounds.1) in
        omega (arith, stays, above, bounds.0, same)

    at_next : Contains (filter (λ d. eqb d.stamp (suc n)) (news r b)) c
    at_next = in_filter (λ d. eqb d.stamp (suc n)) c (news r b) new (eq-eqb c.stamp (suc n) stamp)

    grown : length (seen_with r n (news r b)) ≡ length r.seen + length (filter (λ d. eqb d.stamp (suc n)) (news r b))
    grown =
        let next : eqb (suc r.through) (suc n) ≡ true = eq-eqb (suc r.through) (suc n) (ap suc (sym stays)) in
        ap (λ z. length (cond z r.seen [] ++ map seen_of (filter (λ d. eqb d.stamp (suc n)) (news r b)))) next
        ∙ length-append r.seen (map seen_of (filter (λ d. eqb d.stamp (suc n)) (news r b)))
        ∙ ap (λ z. length r.seen + z) (map_length seen_of (filter (λ d. eqb d.stamp (suc n)) (news r b)))

    seen_more : row_left e (advanced_row r.token n (news r b) false r) < row_left e r
    unfolding n
    seen_more =
        let parts = judged_parts rows r b.children n (news r b) judged in
        let few = not_crowded _ (length (seen_with r n (news r b))) c parts.0 at_next in
        let some = some_length c (filter (λ d. eqb d.stamp (suc n)) (news r b)) at_next in
        let one : (suc e - n) * 1025 ≡ (suc e - r.through) * 1025 = ap (λ z. (suc e - z) * 1025) stays in
        omega (arith, moved_is, was, few, some, grown, one)

  brings_less : (o : Option Entry) → Brings r b o → row_left e (advanced_row r.token n (news r b) false r) < row_left e r
  brings_less o B = ⊎_elim (λ (q : has_change (news r b) ≡ true). let c = some_of (news r b) q in ⊎_elim (λ (u : r.through < b.through). raised u) (λ (u : b.through ≤ r.through). seen_more u c.0 c.1) (cases_lt r.through b.through)) (λ (q : nat_le b.through r.through ≡ false). raised (le_false b.through r.through q)) B.more

  pub progress_less : (o : Option Entry) → Brings r b o → left_of e (applied s rows o) < left_of e rows
  unfolding n
  progress_less o B =
      let after = map (advanced r.token n (news r b) false) rows in
      let is : applied s rows o ≡ after = ap (applied s rows) B.entry in
      let total = moved_left r.token n (news r b) false e rows r O there refl in
      let mine : row_left e (advanced r.token n (news r b) false r) ≡ row_left e (advanced_row r.token n (news r b) false r) = ap (row_left e) (its r.token n (news r b) false r refl) in
      let less = brings_less o B in
      let same : left_of e after ≡ (65536 - length rows) * row_most e + rows_left e after = ap (λ z. (65536 - z) * row_most e + rows_left e after) (map_length (advanced r.token n (news r b) false) rows) in
      let fewer : rows_left e after < rows_left e rows = omega (arith, total, mine, less) in
      subst (λ l. left_of e l < left_of e rows) (sym is) (omega (arith, same, fewer))

  ended_is : row_left e (advanced_row r.token n (news r b) true r) ≡ 0
  unfolding n
  ended_is = ap (λ z. cond (z || true) 0 (suc ((suc e - through_by r b) * 1025 + (1024 - length (seen_with r (through_by r b) (news r b)))))) unfinished

  pub finished_less : (o : Option Entry) → Ends r b o → left_of e (applied s rows o) < left_of e rows
  unfolding n
  finished_less o E =
      let front = map (advanced r.token n (news r b) true) rows in
      let new = map born (rowless rows b.children) in
      let after = put_rows new front in
      let is : applied s rows o ≡ after = ap (applied s rows) E.entry in
      let total = moved_left r.token n (news r b) true e rows r O there refl in
      let mine : row_left e (advanced r.token n (news r b) true r) ≡ row_left e (advanced_row r.token n (news r b) true r) = ap (row_left e) (its r.token n (news r b) true r refl) in
      let count : length new ≡ count_new rows b.children = map_length born (rowless rows b.children) ∙ rowless_length rows b.children in
      let long : length after ≡ length new + length rows = puts_length new front ∙ ap (λ z. length new + z) (map_length (advanced r.token n (news r b) true) rows) in
      let few = not_too_many rows b.children (judged_parts rows r b.children n (news r b) judged).1 in
      let cost : rows_left e new + length new ≤ length new * row_most e = subst (λ k. rows_left e new + k ≤ k * row_most e) (sym (map_length born (rowless rows b.children))) (all_born_left e (rowless rows b.children)) in
      let sum = puts_left e new front in
      let less = paid e (length rows) (length new) (rows_left e rows) (rows_left e new) (rows_left e front) (omega (arith, few, count)) cost (omega (arith, total, mine, ended_is, has_left)) in
      let same : left_of e after ≡ (65536 - (length new + length rows)) * row_most e + rows_left e after = ap (λ z. (65536 - z) * row_most e + rows_left e after) long in
      subst (λ l. left_of e l < left_of e rows) (sym is) (omega (arith, same, sum, less))

  pub idle_same : (o : Option Entry) → Idles r b o → applied s rows o ≡ rows
  idle_same o I = ap (applied s rows) I.entry
