-- The rows behind an entry do not fall back.
use Rattle.std.proofs.Common.{◌≡◌, ◌⊎◌, ℕ, Bool, true, false, cond, ◌||◌, List, [], ◌∷◌, Option, Some, Ok, ⊎_elim, inl, inr, sym, refl, ap, ◌∙◌, subst, arith, true≢false, map, Contains, bytes_eq}
use Rattle.std.specs.Ordering.{nat_cmp, is_lt}
use Rattle.std.specs.Cmp.Lexicographic.{slice_cmp}
use Rattle.std.proofs.lemmas.Bool.{cases_Bool}
use Rattle.cs_types.specs.declared.names.Window.{Window}
use Rattle.cs_types.specs.Members.{bytes_same, bytes_itself, in_nil, in_head, in_tail, in_cons, in_map}
use Rattle.cs_link.specs.declared.batch.Batch.{Batch}
use Rattle.cs_schedule.specs.declared.entry.Entry.{Entry}
use Rattle.cs_schedule.specs.declared.row.Row.{Row}
use Rattle.cs_schedule.specs.Board.{Shown, IsOrdered, fresh}
use Rattle.cs_schedule.specs.Consistent.{IsReady, news, through_by, born, advanced, put_row, put_rows, rowless}
use Rattle.cs_schedule.specs.Plan.{planned}
use Rattle.cs_schedule.specs.Update.{PlansOf, applied}
use Rattle.cs_book.specs.declared.lease.Lease.{Lease}
use Rattle.cs_book.specs.Lease.{row_lease, first_lease}
use Rattle.cs_follow.specs.Due.{IsLeaseOf}
use Rattle.cs_follow.specs.Pauses.{IsMovedBy, Moves}
use Rattle.cs_follow.specs.Reads.{IsOn, NotBack}
use Rattle.cs_follow.specs.Still.{WhereOn}
use Rattle.cs_follow.specs.declared.turn.Turn.{Turn}
use Rattle.cs_follow.specs.declared.turn.Turn.TheVariants as turns
use Rattle.cs_follow.proofs.AtRest.{back_same, fresh_applied, fresh_plans, fresh_ordered}
use Rattle.cs_follow.proofs.KeptRows.{same_row}
use Rattle.cs_follow.proofs.PlannedCases.{Ends, Brings, Idles, planned_ok, entry_cases}
use Rattle.cs_follow.proofs.Reading.{starts_up, on_itself, back_by, back_now}
use Rattle.cs_follow.proofs.RowLemmas.{advanced_row, its, other, row_at}

-- a row stays among those that others are put to
put_keeps : (r : Row) (rows : List Row) (y : Row) → Contains rows y → Contains (put_row r rows) y
put_keeps r [] y i = absurd (in_nil y i)
put_keeps r (a ∷ rows) y i = by (is_lt (slice_cmp nat_cmp r.token a.token)) (put_keeps r rows y)
  where
    by : (b : Bool) → (Contains rows y → Contains (put_row r rows) y) → Contains (cond b (r ∷ a ∷ rows) (a ∷ put_row r rows)) y
    by true f = in_tail r y (a ∷ rows) i
    by false f = ⊎_elim (λ (e : y ≡ a). subst (λ z. Contains (a ∷ put_row r rows) z) (sym e) (in_head a (put_row r rows))) (λ (j : Contains rows y). in_tail a y (put_row r rows) (f j)) (in_cons a y rows i)

puts_keep : (news rows : List Row) (y : Row) → Contains rows y → Contains (put_rows news rows) y
puts_keep [] rows y i = i
puts_keep (r ∷ news) rows y i = puts_keep news (put_row r rows) y (put_keeps r rows y i)

not_more : (a b : Bool) → (a || b) ≡ false → a ≡ false
not_more true b h = h
not_more false b h = refl

module _ (rows : List Row) (r : Row) (b : Batch) (O : IsOrdered rows) (there : Contains rows r) where
  on_front : (fin : Bool) (y : Row) → Contains rows y → IsOn y (advanced r.token (through_by r b) (news r b) fin y)
  on_front fin y i =
      ⊎_elim
      (λ (q : bytes_eq r.token y.token ≡ true).
      let same : y ≡ r = same_row rows y r O i there (sym (bytes_same r.token y.token q)) in
      let moved : IsOn r (advanced_row r.token (through_by r b) (news r b) fin r) = record { token = refl; start = starts_up r (advanced_row r.token (through_by r b) (news r b) fin r) refl (omega arith); finished = λ h. not_more r.finished fin h } in
      subst (λ z. IsOn z (advanced r.token (through_by r b) (news r b) fin z)) (sym same) (subst (λ z. IsOn r z) (sym (its r.token (through_by r b) (news r b) fin r refl)) moved))
      (λ (q : bytes_eq r.token y.token ≡ false). subst (λ z. IsOn y z) (sym (other r.token (through_by r b) (news r b) fin y (λ same. true≢false (sym (subst (λ z. bytes_eq r.token z ≡ true) (sym same) (bytes_itself r.token)) ∙ q)))) (on_itself y))
      (cases_Bool (bytes_eq r.token y.token))

  front : (fin : Bool) (new : List Row) → NotBack rows (put_rows new (map (advanced r.token (through_by r b) (news r b) fin) rows))
  front fin new = back_by rows (put_rows new (map (advanced r.token (through_by r b) (news r b) fin) rows)) (λ y i.
      let z = advanced r.token (through_by r b) (news r b) fin y in
      (z, puts_keep new (map (advanced r.token (through_by r b) (news r b) fin) rows) z (in_map (advanced r.token (through_by r b) (news r b) fin) y rows i), on_front fin y i))

  pub not_back : (s : ℕ) (o : Option Entry) → Ends r b o ⊎ (Brings r b o ⊎ Idles r b o) → NotBack rows (applied s rows o)
  not_back s o (inl E) = subst (NotBack rows) (sym (ap (applied s rows) E.entry)) (front true (map born (rowless rows b.children)))
  not_back s o (inr (inl B)) = subst (NotBack rows) (sym (ap (applied s rows) B.entry)) (front false [])
  not_back s o (inr (inr I)) = subst (NotBack rows) (sym (ap (applied s rows) I.entry)) (back_now rows)

-- the rows over which the READ was due
lease_back : (w : Window) (rows : List Row) → IsOrdered rows → (lease : Lease) → IsLeaseOf w rows lease → (x : Batch) → x.token ≡ lease.args.token → (s : ℕ) (o : Option Entry) → PlansOf rows x x.token (Ok o) → NotBack rows (applied s rows o)
lease_back w rows O lease due x token s o plans = ⊎_elim
    (λ (h : (rows ≡ []) × (lease ≡ first_lease w)). back_by rows (applied s rows o) (λ r i. absurd (in_nil r (subst (λ l. Contains l r) h.0 i))))
    (λ (h : (r : Row) × IsReady rows r × (lease ≡ row_lease w r)).
    let named : x.token ≡ Some h.0.token = token ∙ ap (λ (l : Lease). l.args.token) h.2 in
    let plan : planned rows h.0.token x ≡ Ok o = subst (λ t. PlansOf rows x t (Ok o)) named plans in
    let parts = planned_ok rows h.0.token h.0 x o (row_at rows h.0.token h.0 O h.1.there refl) plan in
    not_back rows h.0 x O h.1.there s o (entry_cases h.0 x o parts.1))
    due

-- one turn
module _ (b : Shown) (O : IsOrdered b.rows) (lease : Lease) (due : IsLeaseOf b.window (map fresh b.rows) lease) (x : Batch) (token : x.token ≡ lease.args.token) (rows : List Row) where
  moved_on : (caught_up : Bool) → IsMovedBy b lease x caught_up rows → NotBack (map fresh b.rows) (map fresh rows)
  moved_on caught_up M =
      let is : map fresh rows ≡ applied b.window.start (map fresh b.rows) M.planned = ap (map fresh) M.is ∙ back_same lease.args.token caught_up (applied b.window.start b.rows M.planned) ∙ fresh_applied b.window.start b.rows M.planned in
      subst (NotBack (map fresh b.rows)) (sym is) (lease_back b.window (map fresh b.rows) (fresh_ordered b.rows O) lease due x token b.window.start M.planned (fresh_plans b.rows x x.token (Ok M.planned) M.plans))

  pub turn_back : (t : Turn) → Moves b lease x t rows → WhereOn t (NotBack (map fresh b.rows) (map fresh rows))
  turn_back (turns.Stops o) M = tt
  turn_back turns.CaughtUp M = moved_on true M
  turn_back turns.On M = moved_on false M
