-- Right steps behind a good base have a good output; where the last rows are all finished, a complete one.
use Rattle.cs_types.specs.declared.change.Change.{Change}
use Rattle.cs_types.specs.declared.change.RowName.{RowName}
use Rattle.cs_link.specs.declared.feed.Feed.{Feed}
use Rattle.cs_types.specs.Change.{of_row, wanted_changes}
use Rattle.cs_schedule.specs.Outline.{Event, Changed, Watermark, risen, last_after, Step, out_of, changed, watermarks, IsPrefixOf, AreGood, AllRight, last_rows, IsBase}
use Rattle.cs_schedule.specs.Rows.{least_next, first_open}
use Rattle.cs_schedule.specs.declared.row.Row.{Row}
use Rattle.cs_schedule.specs.Consistent.{IsRight}
use Rattle.std.specs.Int.{is_in_range}
use Rattle.cs_types.specs.Row.{same_row}
use Rattle.cs_types.specs.Exact.{same_row-is}
use Rattle.cs_types.specs.Members.{Pairwise, in_nil, in_head, in_tail, in_cons, in_filter, from_filter, snoc_append, pairs_append, pairs_filter, pairs_weaker}
use Rattle.cs_schedule.proofs.Parts.{Facts}
use Rattle.cs_schedule.proofs.Order.{Later, Rising, prefix_by_stamps, in_wanted, from_wanted, changed_risen, above_risen, Above}
use Rattle.cs_schedule.proofs.Lines.{changed_append, changed_behind, watermarks_behind, CoversBehind, covers_behind, covers_at}
use Rattle.cs_schedule.proofs.Cover.{Marked, downward, covered}
use Rattle.std.proofs.Common.{◌≡◌, ◌≢◌, ◌⊎◌, ℕ, suc, ◌-◌, ◌<◌, ◌≤◌, min, max, Bool, true, false, cond, List, [], ◌∷◌, ◌++◌, Option, Some, None, ⊎_elim, inl, inr, sym, refl, ap, ◌∙◌, subst, arith, true≢false, Contains, append-nil, append_assoc, ltb}
use Rattle.std.proofs.lemmas.Bool.{cases_lt, ltb-true}
use Rattle.std.proofs.lemmas.List.Elements.{Contains-append_left, Contains-append_cases}

least_le : (e : ℕ) (rows : List Row) (r : Row) → Contains rows r → r.finished ≡ false → least_next e rows ≤ (suc r.through)
least_le e [] r i h = absurd (in_nil r i)
least_le e (a ∷ rows) r i h = by a.finished refl (in_cons a r rows i) (λ j. least_le e rows r j h)
  where
    by : (c : Bool) → a.finished ≡ c → (r ≡ a) ⊎ Contains rows r → (Contains rows r → least_next e rows ≤ (suc r.through)) → cond c (least_next e rows) (min (suc a.through) (least_next e rows)) ≤ (suc r.through)
    by true q (inl k) g = absurd (true≢false (sym q ∙ ap (λ (x : Row). x.finished) (sym k) ∙ h))
    by false q (inl k) g = let n : (suc r.through) ≡ (suc a.through) = ap (λ (x : Row). (suc x.through)) k in omega (arith, n)
    by true q (inr k) g = g k
    by false q (inr k) g = omega (arith, g k)

pub least_top : (e : ℕ) (rows : List Row) → least_next e rows ≤ suc e
least_top e [] = omega arith
least_top e (a ∷ rows) = by a.finished (least_top e rows)
  where
    by : (c : Bool) → least_next e rows ≤ suc e → cond c (least_next e rows) (min (suc a.through) (least_next e rows)) ≤ suc e
    by true h = h
    by false h = omega arith

pub least_all : (e : ℕ) (rows : List Row) → ((r : Row) → Contains rows r → r.finished ≡ true) → least_next e rows ≡ suc e
least_all e [] h = refl
least_all e (a ∷ rows) h = ap (λ c. cond c (least_next e rows) (min (suc a.through) (least_next e rows))) (h a (in_head a rows)) ∙ least_all e rows (λ r i. h r (in_tail a r rows i))

pub marked : (e : ℕ) (rows : List Row) (m : ℕ) → first_open e rows ≡ Some m → Marked e rows m
marked e [] m h = absurd (grind arith)
marked e (r ∷ rows) m h =
    let same : least_next e (r ∷ rows) ≡ m = grind arith in
    record {
      row = r;
      there = in_head r rows;
      least = λ a i u. subst (λ n. n ≤ (suc a.through)) same (least_le e (r ∷ rows) a i u);
      within = subst (λ n. n ≤ suc e) same (least_top e (r ∷ rows));
    }

abbrev pub all_new : List Step → List Change
all_new [] = []
all_new (x ∷ steps) = x.new ++ all_new steps

pub changed_out : (e last : ℕ) (steps : List Step) → changed (out_of e last steps) ≡ all_new steps
changed_out e last [] = refl
changed_out e last (x ∷ steps) =
    let m = first_open e x.rows in
    changed_behind x.new (risen last m ++ out_of e (last_after last m) steps)
    ∙ ap (λ l. x.new ++ l) (changed_risen last m (out_of e (last_after last m) steps) ∙ changed_out e (last_after last m) steps)

above_out : (e last : ℕ) (steps : List Step) → Above e last (watermarks (out_of e last steps))
above_out e last [] = (tt, λ n i. absurd (in_nil n i))
above_out e last (x ∷ steps) =
    let m = first_open e x.rows in
    let rest = out_of e (last_after last m) steps in
    subst (λ l. Above e last l) (sym (watermarks_behind x.new (risen last m ++ rest)))
    (above_risen e last m rest (λ n q. (marked e x.rows n q).within) (above_out e (last_after last m) steps))

pub watermarks_append : (xs ys : List Event) → watermarks (xs ++ ys) ≡ watermarks xs ++ watermarks ys
watermarks_append [] ys = refl
watermarks_append (Changed c ∷ xs) ys = watermarks_append xs ys
watermarks_append (Watermark n ∷ xs) ys = ap (λ l. n ∷ l) (watermarks_append xs ys)

covers_from : (w seen : List Change) (xs : List Event) → ((before behind : List Event) (n : ℕ) → before ++ Watermark n ∷ behind ≡ xs → (c : Change) → Contains w c → c.stamp ≤ n → Contains (seen ++ changed before) c) → CoversBehind w seen xs
covers_from w seen [] h = tt
covers_from w seen (Changed d ∷ xs) h = covers_from w (seen ++ d ∷ []) xs (λ before behind n q c i l. subst (λ z. Contains z c) (sym (snoc_append seen (changed before) d)) (h (Changed d ∷ before) behind n (ap (λ z. Changed d ∷ z) q) c i l))
covers_from w seen (Watermark n ∷ xs) h = (
  λ c i l. subst (λ z. Contains z c) (append-nil seen) (h [] xs n refl c i l),
  covers_from w seen xs (λ before behind m q c i l. h (Watermark n ∷ before) behind m (ap (λ z. Watermark n ∷ z) q) c i l),
)

covers_append : (w seen : List Change) (xs ys : List Event) → CoversBehind w seen xs → CoversBehind w (seen ++ changed xs) ys → CoversBehind w seen (xs ++ ys)
covers_append w seen [] ys h k = subst (λ l. CoversBehind w l ys) (append-nil seen) k
covers_append w seen (Changed d ∷ xs) ys h k = covers_append w (seen ++ d ∷ []) xs ys h (subst (λ l. CoversBehind w l ys) (sym (snoc_append seen (changed xs) d)) k)
covers_append w seen (Watermark n ∷ xs) ys h k = (h.0, covers_append w seen xs ys h.1 k)

module _ (f : Feed) (F : Facts f) (s e : ℕ) (late : f.created ≤ s) where
  abbrev pub Stood : ℕ → List Change → Type 0
  Stood last done = (c : Change) → Contains (wanted_changes s e f.wanted) c → c.stamp < last → Contains done c

  pub stood_after : (last : ℕ) (done : List Change) (x : Step) → IsRight f s e x.rows (done ++ x.new) → Stood last done → (m : Option ℕ) → first_open e x.rows ≡ m → Stood (last_after last m) (done ++ x.new)
  stood_after last done x R h None q c i l = Contains-append_left done x.new c (h c i l)
  stood_after last done x R h (Some n) q c i l =
      let u = from_wanted f s e c i in
      ⊎_elim
      (λ (a : c.stamp < last). Contains-append_left done x.new c (h c i a))
      (λ (a : last ≤ c.stamp). covered f F s e late x.rows (done ++ x.new) R n (marked e x.rows n q) c u.0 u.1 u.2 (omega arith))
      (cases_lt c.stamp last)

  covers_out : (last : ℕ) (done : List Change) (steps : List Step) → AllRight f s e done steps → Stood last done → CoversBehind (wanted_changes s e f.wanted) done (out_of e last steps)
  covers_out last done [] S h = tt
  covers_out last done (x ∷ steps) S h =
      let J = stood_after last done x S.0 h (first_open e x.rows) refl in
      covers_behind (wanted_changes s e f.wanted) done x.new (risen last (first_open e x.rows) ++ out_of e (last_after last (first_open e x.rows)) steps)
      (by (first_open e x.rows) J (covers_out (last_after last (first_open e x.rows)) (done ++ x.new) steps S.1 J))
    where
      by : (m : Option ℕ) → Stood (last_after last m) (done ++ x.new) → CoversBehind (wanted_changes s e f.wanted) (done ++ x.new) (out_of e (last_after last m) steps) → CoversBehind (wanted_changes s e f.wanted) (done ++ x.new) (risen last m ++ out_of e (last_after last m) steps)
      by None J h = h
      by (Some m) J h = it (ltb last m) refl
        where
          it : (b : Bool) → ltb last m ≡ b → CoversBehind (wanted_changes s e f.wanted) (done ++ x.new) (cond b (Watermark (m - 1) ∷ []) [] ++ out_of e (max last m) steps)
          it true q = let l = ltb-true last m q in (λ c i a. J c i (omega (arith, l)), h)
          it false q = h

  -- the rows and the changes at the end
  pub at_end : (rows : List Row) (done : List Change) (steps : List Step) → IsRight f s e rows done → AllRight f s e done steps → IsRight f s e (last_rows rows steps) (done ++ all_new steps)
  at_end rows done [] R S = subst (λ l. IsRight f s e rows l) (sym (append-nil done)) R
  at_end rows done (x ∷ steps) R S = subst (λ l. IsRight f s e (last_rows x.rows steps) l) (append_assoc done x.new (all_new steps)) (at_end x.rows (done ++ x.new) steps S.0 S.1)

  row_prefix : (rows : List Row) (done : List Change) → IsRight f s e rows done → (r : RowName) → IsPrefixOf (of_row r done) (of_row r (wanted_changes s e f.wanted))
  row_prefix rows done R r = prefix_by_stamps (of_row r done) (of_row r (wanted_changes s e f.wanted)) mine theirs sub down
    where
      its : (cs : List Change) (c : Change) → Contains (of_row r cs) c → Contains cs c × (c.row ≡ r)
      its cs c i = let u = from_filter (λ (x : Change). same_row r x.row) c cs i in (u.0, sym ((same_row-is r c.row).0 u.1))

      put : (cs : List Change) (c : Change) → Contains cs c → c.row ≡ r → Contains (of_row r cs) c
      put cs c i q = in_filter (λ (x : Change). same_row r x.row) c cs i ((same_row-is r c.row).1 (sym q))

      mine : Pairwise Rising (of_row r done)
      mine =
          pairs_weaker Later Rising (of_row r done)
          (λ c d i j l. l ((its done c i).1 ∙ sym (its done d j).1))
          (pairs_filter Later (λ (x : Change). same_row r x.row) done R.order)

      theirs : Pairwise Rising (of_row r (wanted_changes s e f.wanted))
      theirs =
          pairs_weaker (λ (c d : Change). (c.stamp ≤ d.stamp) × (c.stamp ≡ d.stamp → c.row ≢ d.row)) Rising (of_row r (wanted_changes s e f.wanted))
          (λ c d i j l. ⊎_elim (λ (m : c.stamp < d.stamp). m) (λ (m : d.stamp ≤ c.stamp). absurd (l.1 (omega (arith, l.0)) ((its (wanted_changes s e f.wanted) c i).1 ∙ sym (its (wanted_changes s e f.wanted) d j).1))) (cases_lt c.stamp d.stamp))
          (pairs_filter (λ (c d : Change). (c.stamp ≤ d.stamp) × (c.stamp ≡ d.stamp → c.row ≢ d.row)) (λ (x : Change). same_row r x.row) (wanted_changes s e f.wanted)
          (pairs_filter (λ (c d : Change). (c.stamp ≤ d.stamp) × (c.stamp ≡ d.stamp → c.row ≢ d.row)) (λ (x : Change). is_in_range s e x.stamp) f.wanted F.order))

      sub : (c : Change) → Contains (of_row r done) c → Contains (of_row r (wanted_changes s e f.wanted)) c
      sub c i = let u = its done c i in put (wanted_changes s e f.wanted) c (known c u.0) u.1
        where
          known : (c : Change) → Contains done c → Contains (wanted_changes s e f.wanted) c
          known c i =
              let m = R.wanted c i in
              let k = R.known m.0 m.1 in
              in_wanted f s e c m.3 (omega (arith, k.4.2, m.4)) m.5

      down : (c d : Change) → Contains (of_row r done) c → Contains (of_row r (wanted_changes s e f.wanted)) d → d.stamp < c.stamp → Contains (of_row r done) d
      down c d i j l =
          let u = its done c i in
          let v = its (wanted_changes s e f.wanted) d j in
          let t = from_wanted f s e d v.0 in
          put done d (downward f F s e late rows done R c d u.0 t.0 (v.1 ∙ sym u.1) t.1 l) v.1

  pub stood_base : (base : List Event) (rows : List Row) (last : ℕ) → IsBase f s e base rows last → Stood last (changed base)
  stood_base base rows last B = by (first_open e rows) refl
    where
      by : (m : Option ℕ) → first_open e rows ≡ m → Stood last (changed base)
      by None q c i l = let n = B.marked.1 q in absurd (omega (arith, n, (from_wanted f s e c i).1))
      by (Some m) q c i l = let n = B.marked.0 m q in let u = from_wanted f s e c i in covered f F s e late rows (changed base) B.right m (marked e rows m q) c u.0 u.1 u.2 (omega (arith, n))

  pub run_good : (base : List Event) (rows : List Row) (last : ℕ) (steps : List Step) → IsBase f s e base rows last → AllRight f s e (changed base) steps → AreGood (base ++ out_of e last steps) (wanted_changes s e f.wanted) e
  run_good base rows last steps B S =
      let R = at_end rows (changed base) steps B.right S in
      let new = out_of e last steps in
      let same : changed (base ++ new) ≡ changed base ++ all_new steps = changed_append base new ∙ ap (λ l. changed base ++ l) (changed_out e last steps) in
      let above = above_out e last steps in
      let covers = covers_append (wanted_changes s e f.wanted) [] base new (covers_from (wanted_changes s e f.wanted) [] base (λ before behind n q c i l. B.good.covered before behind n q c i l)) (covers_out last (changed base) steps S (stood_base base rows last B)) in
      record {
        known = λ c i.
            let m = R.wanted c (subst (λ l. Contains l c) same i) in
            let k = R.known m.0 m.1 in
            in_wanted f s e c m.3 (omega (arith, k.4.2, m.4)) m.5;
        rows = λ r. subst (λ l. IsPrefixOf (of_row r l) (of_row r (wanted_changes s e f.wanted))) (sym same) (row_prefix (last_rows rows steps) (changed base ++ all_new steps) R r);
        covered = λ before behind n q c i l. covers_at (wanted_changes s e f.wanted) [] before behind n (subst (λ o. CoversBehind (wanted_changes s e f.wanted) [] o) (sym q) covers) c i l;
        rising = subst (λ l. Pairwise (λ m n. m < n) l) (sym (watermarks_append base new))
            (pairs_append (λ m n. m < n) (watermarks base) (watermarks new) B.good.rising above.0 (λ m n i j. omega (arith, B.written m i, (above.1 n j).0)));
        within = λ n i. ⊎_elim (λ (j : Contains (watermarks base) n). B.good.within n j) (λ (j : Contains (watermarks new) n). (above.1 n j).1)
            (Contains-append_cases (watermarks base) (watermarks new) n (subst (λ l. Contains l n) (watermarks_append base new) i));
      }
