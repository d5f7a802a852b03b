-- A turn brings the rows on: where its READ caught up, one more was tried, or all that are not finished are complete up to the moment.
use Rattle.std.proofs.Common.{◌≡◌, ◌⊎◌, ℕ, suc, ◌-◌, ◌<◌, ◌≤◌, Bool, true, false, cond, List, [], ◌∷◌, map, Option, Some, None, Ok, ⊎_elim, inl, inr, sym, refl, ap, ◌∙◌, subst, arith, true≢false, Contains, bytes_eq}
use Rattle.std.proofs.lemmas.Bool.{cases_lt}
use Rattle.cs_types.specs.Members.{in_nil, from_map}
use Rattle.cs_place.specs.declared.part.Part.{Part}
use Rattle.cs_link.specs.declared.batch.Batch.{Batch}
use Rattle.cs_link.specs.declared.batch.Ending.{Ending}
use Rattle.cs_link.specs.declared.batch.NewChild.{NewChild}
use Rattle.cs_link.specs.declared.feed.Feed.{Feed}
use Rattle.cs_link.specs.Batch.{limit, IsFaithfulPart, IsFaithfulOf, IsFaithful}
use Rattle.cs_link.specs.Pace.{Reaches, ReachesBy}
use Rattle.cs_link.specs.Reading.{end_of}
use Rattle.cs_fetch.specs.Laws.{ListsFirst, HasShape, IsWellFormed}
use Rattle.cs_schedule.specs.declared.entry.Entry.{Entry}
use Rattle.cs_schedule.specs.declared.row.Row.{Row}
use Rattle.cs_schedule.specs.Board.{Shown, IsOrdered, fresh, given_back}
use Rattle.cs_schedule.specs.Consistent.{IsReady, is_end, news, through_by, known_by, born, advanced, rowless}
use Rattle.cs_schedule.specs.Follows.{IsBoardOf, IsFollowed}
use Rattle.cs_schedule.specs.Plan.{planned}
use Rattle.cs_schedule.specs.Update.{PlansOf, PlansFirst, applied}
use Rattle.cs_book.specs.declared.lease.Lease.{Lease}
use Rattle.cs_book.specs.Book.{rows_back}
use Rattle.cs_book.specs.Lease.{row_lease, first_lease}
use Rattle.cs_book.specs.Planned.{is_caught_up}
use Rattle.cs_follow.specs.Due.{IsLeaseOf}
use Rattle.cs_follow.specs.Own.{AreFollowing}
use Rattle.cs_follow.specs.Pauses.{count_tried, AreUpTo, IsGettingOn, GetsOn, IsFewest, IsMovedBy, Moves}
use Rattle.cs_follow.specs.declared.turn.Turn.{Turn}
use Rattle.cs_follow.specs.declared.turn.Turn.TheVariants as turns
use Rattle.cs_follow.proofs.AtRest.{remade, remade_is}
use Rattle.cs_follow.proofs.KeptRows.{same_row, Lasts, ends_last, brings_last, idles_last, opened_last}
use Rattle.cs_follow.proofs.Moving.{not_back}
use Rattle.cs_follow.proofs.PlannedCases.{Ends, Brings, Idles, planned_ok, entry_cases}
use Rattle.cs_follow.proofs.Reaching.{board_reaches}
use Rattle.cs_follow.proofs.Refusals.{same_part}
use Rattle.cs_follow.proofs.RowLemmas.{advanced_row, its, row_at}
use Rattle.cs_follow.proofs.Small.{le_true}
use Rattle.cs_follow.proofs.Tries.{puts_tried, moved_tried, remade_of, remade_none, remade_tried, remade_more}
use Rattle.cs_follow.proofs.Work.{lease_end}

-- ---- endings

no_end : (ending : Ending) → is_caught_up ending ≡ true → is_end ending ≡ true → ⊥
no_end Ending.Finished h k = true≢false (sym h)
no_end (Ending.CaughtUp at) h k = true≢false (sym k)
no_end Ending.Cut h k = true≢false (sym h)
no_end Ending.Full h k = true≢false (sym h)

caught_reaches : (moment : ℕ) (x : Batch) (ending : Ending) → is_caught_up ending ≡ true → ReachesBy moment x ending → moment ≤ x.through
caught_reaches moment x Ending.Finished h k = absurd (true≢false (sym h))
caught_reaches moment x (Ending.CaughtUp at) h k = k
caught_reaches moment x Ending.Cut h k = absurd (true≢false (sym h))
caught_reaches moment x Ending.Full h k = absurd (true≢false (sym h))

-- ---- a row that is read on

module _ (s : ℕ) (rows : List Row) (r : Row) (x : Batch) (o : Option Entry) (O : IsOrdered rows) (there : Contains rows r) (C : Ends r x o ⊎ (Brings r x o ⊎ Idles r x o)) where
  all_last : (P : Row → Type 0) → Lasts P rows r x → (y : Row) → Contains (applied s rows o) y → P y
  all_last P L = ⊎_elim
      (λ (E : Ends r x o). ends_last P s rows r x O there L o E)
      (λ (D : Brings r x o ⊎ Idles r x o). ⊎_elim (λ (B : Brings r x o). brings_last P s rows r x O there L o B) (λ (I : Idles r x o). idles_last P s rows r x O there L o I) D)
      C

  applied_tried : count_tried rows ≤ count_tried (applied s rows o)
  applied_tried = ⊎_elim
      (λ (E : Ends r x o).
      let front = moved_tried r.token (through_by r x) (news r x) true rows in
      let more = puts_tried (map born (rowless rows x.children)) (map (advanced r.token (through_by r x) (news r x) true) rows) in
      subst (λ l. count_tried rows ≤ count_tried l) (sym (ap (applied s rows) E.entry)) (omega (arith, front, more)))
      (λ (D : Brings r x o ⊎ Idles r x o). ⊎_elim
      (λ (B : Brings r x o).
      let front = moved_tried r.token (through_by r x) (news r x) false rows in
      subst (λ l. count_tried rows ≤ count_tried l) (sym (ap (applied s rows) B.entry)) (omega (arith, front)))
      (λ (I : Idles r x o). subst (λ l. count_tried rows ≤ count_tried l) (sym (ap (applied s rows) I.entry)) (omega arith))
      D)
      C

  -- its own row, where it goes on
  module _ (caught : is_caught_up x.ending ≡ true) where
    goes : Brings r x o ⊎ Idles r x o
    goes = ⊎_elim (λ (E : Ends r x o). absurd (no_end x.ending caught E.ended)) (λ (D : Brings r x o ⊎ Idles r x o). D) C

    -- what it has is that of the row moved, or of it as it was
    own_moved : (P : Row → Type 0) → P (advanced_row r.token (through_by r x) (news r x) false r) → Brings r x o → (y : Row) → Contains (applied s rows o) y → y.token ≡ r.token → P y
    own_moved P moved B y i token =
        let u = from_map (advanced r.token (through_by r x) (news r x) false) y rows (subst (λ l. Contains l y) (ap (applied s rows) B.entry) i) in
        let named : u.0.token ≡ r.token = sym (keeps_token u.0) ∙ ap (λ (z : Row). z.token) (sym u.2) ∙ token in
        let same : u.0 ≡ r = same_row rows u.0 r O u.1 there named in
        subst P (sym (u.2 ∙ ap (advanced r.token (through_by r x) (news r x) false) same ∙ its r.token (through_by r x) (news r x) false r refl)) moved
      where
        keeps_token : (z : Row) → (advanced r.token (through_by r x) (news r x) false z).token ≡ z.token
        keeps_token z = by (bytes_eq r.token z.token)
          where
            by : (b : Bool) → (cond b (advanced_row r.token (through_by r x) (news r x) false z) z).token ≡ z.token
            by true = refl
            by false = refl

    own_same : (P : Row → Type 0) → P r → Idles r x o → (y : Row) → Contains (applied s rows o) y → y.token ≡ r.token → P y
    own_same P before I y i token = subst P (sym (same_row rows y r O (subst (λ l. Contains l y) (ap (applied s rows) I.entry) i) there token)) before

    own_tries : (y : Row) → Contains (applied s rows o) y → y.token ≡ r.token → y.tries ≡ r.tries
    own_tries = ⊎_elim
        (λ (B : Brings r x o). own_moved (λ (y : Row). y.tries ≡ r.tries) refl B)
        (λ (I : Idles r x o). own_same (λ (y : Row). y.tries ≡ r.tries) refl I)
        goes

    own_reach : (moment : ℕ) → moment ≤ x.through → (y : Row) → Contains (applied s rows o) y → y.token ≡ r.token → moment ≤ y.through
    own_reach moment up = ⊎_elim
        (λ (B : Brings r x o). own_moved (λ (y : Row). moment ≤ y.through) (omega (arith, up)) B)
        (λ (I : Idles r x o). let low = le_true x.through r.through I.low in own_same (λ (y : Row). moment ≤ y.through) (omega (arith, up, low)) I)
        goes

  module _ (moment : ℕ) where
    -- what was tried is complete up to the moment
    reach_applied : ((y : Row) → Contains rows y → 1 ≤ y.tries → moment ≤ y.through) → (y : Row) → Contains (applied s rows o) y → 1 ≤ y.tries → moment ≤ y.through
    reach_applied reach = all_last (λ (y : Row). 1 ≤ y.tries → moment ≤ y.through) (record {
      old = reach;
      moved = λ fin h. let low = reach r there h in omega (arith, low);
      new = λ c i h. absurd (omega (arith, h));
    })

    -- all that are not finished stay complete up to the moment
    upto_applied : r.finished ≡ false → ((c : NewChild) → Contains x.children c → r.through ≤ c.start - 1) → AreUpTo moment rows → AreUpTo moment (applied s rows o)
    upto_applied going children U = record {
      some = λ none. U.some ((not_back rows r x O there s o C).none none);
      each = all_last (λ (y : Row). y.finished ≡ false → moment ≤ y.through) (record {
        old = U.each;
        moved = λ fin h. let low = U.each r there going in omega (arith, low);
        new = λ c i h. let low = U.each r there going in let up = children c i in omega (arith, low, up);
      });
    }

-- ---- the lease given back

module _ (moment : ℕ) (caught_up : Bool) (t : List ℕ) (rows : List Row) where
  back_is : rows_back (Some t) caught_up rows ≡ remade (given_back caught_up) t rows
  back_is = remade_is (given_back caught_up) t rows

  upto_back : AreUpTo moment rows → AreUpTo moment (rows_back (Some t) caught_up rows)
  upto_back U = subst (AreUpTo moment) (sym back_is) (record {
    some = λ none. U.some (remade_none (given_back caught_up) t rows none);
    each = λ y i going. ⊎_elim
        (λ (j : Contains rows y). U.each y j going)
        (λ (z : (z : Row) × Contains rows z × (z.token ≡ t) × (y ≡ given_back caught_up z)).
        let low = U.each z.0 z.1 (sym (ap (λ (v : Row). v.finished) z.3) ∙ going) in
        subst (λ (v : Row). moment ≤ v.through) (sym z.3) low)
        (remade_of (given_back caught_up) t rows y i);
  })

  reach_back : ((y : Row) → Contains rows y → 1 ≤ y.tries → moment ≤ y.through) → (caught_up ≡ true → (y : Row) → Contains rows y → y.token ≡ t → moment ≤ y.through) → (y : Row) → Contains (rows_back (Some t) caught_up rows) y → 1 ≤ y.tries → moment ≤ y.through
  reach_back reach own y i tried = ⊎_elim
      (λ (j : Contains rows y). reach y j tried)
      (λ (z : (z : Row) × Contains rows z × (z.token ≡ t) × (y ≡ given_back caught_up z)).
      subst (λ (v : Row). moment ≤ v.through) (sym z.3) (by caught_up refl z.0 z.1 z.2 (subst (λ (v : Row). 1 ≤ v.tries) z.3 tried)))
      (remade_of (given_back caught_up) t rows y (subst (λ l. Contains l y) back_is i))
    where
      by : (b : Bool) → caught_up ≡ b → (z : Row) → Contains rows z → z.token ≡ t → 1 ≤ (given_back b z).tries → moment ≤ z.through
      by true q z j token h = own q z j token
      by false q z j token h = reach z j h

-- ---- a turn

module _ (b : Shown) (lease : Lease) (O : IsOrdered b.rows) (due : IsLeaseOf b.window (map fresh b.rows) lease) (es : List Entry) (B : IsBoardOf es b) (f : Feed) (followed : IsFollowed f b.window) (A : AreFollowing f b.window es) (x : Batch) (W : IsWellFormed lease.args lease.known x) (faithful : IsFaithful f (end_of lease.args) lease.known x)
    (moment later count : ℕ) (early : moment ≤ later) (reaches : Reaches later x) (fewest : IsFewest lease.args.token b.rows) (G : IsGettingOn moment count b.rows) where
  far : is_caught_up x.ending ≡ true → moment ≤ x.through
  far caught = let up = caught_reaches later x x.ending caught reaches in omega (arith, early, up)

  within : x.through ≤ b.window.end
  within = subst (λ n. x.through ≤ n) (lease_end b.window (map fresh b.rows) lease due).1 W.within

  -- of a row
  module _ (r : Row) (there : Contains b.rows r) (going : r.finished ≡ false) (of : lease ≡ row_lease b.window r) (o : Option Entry) (C : Ends r x o ⊎ (Brings r x o ⊎ Idles r x o)) where
    token : lease.args.token ≡ Some r.token
    token = ap (λ (l : Lease). l.args.token) of

    children : (c : NewChild) → Contains x.children c → r.through ≤ c.start - 1
    children c i =
        let named : x.token ≡ Some r.token = W.token ∙ token in
        let F : IsFaithfulOf f (end_of lease.args) lease.known x (Some r.token) = subst (IsFaithfulOf f (end_of lease.args) lease.known x) named faithful in
        let P : IsFaithfulPart f (end_of lease.args) (known_by r) F.0 x = subst (λ k. IsFaithfulPart f (end_of lease.args) k F.0 x) (ap (λ (l : Lease). l.known) of) F.3 in
        let v = (P.children c).0 i in
        let N = v.1 in
        let rises = P.rises in
        let by_then = N.by_then in
        let start : c.start ≡ N.child.from = ap (λ (z : NewChild). z.start) N.same in
        let until : F.0.until ≡ Some N.child.from = begins F.0 F.1 N.child N.there N.parent in
        let ends : N.until ≡ N.child.from = same_end (sym N.ends ∙ until) in
        let top : suc x.through ≡ limit (end_of lease.args) (Some N.until) = P.ended v.0 ∙ ap (limit (end_of lease.args)) N.ends in
        omega (arith, rises, by_then, start, ends, top)
      where
        same_end : {m n : ℕ} → Some m ≡ Some n → m ≡ n
        same_end h = cc

        -- a part ends where its child begins
        begins : (q : Part) → Contains f.parts q → (d : Part) → Contains f.parts d → Contains d.parents q.token → q.until ≡ Some d.from
        begins q j d k parent = ⊎_elim
            (λ (y : f.created < d.from).
            let u = (followed.feed.layout.parents d k y q.token).0 parent in
            subst (λ (p : Part). p.until ≡ Some d.from) (same_part f followed.feed u.0 q u.1 j u.2) u.3.moment)
            (λ (y : d.from ≤ f.created).
            let from = followed.feed.layout.begins d k in
            absurd (in_nil q.token (subst (λ ts. Contains ts q.token) (followed.feed.layout.first d k (omega (arith, y, from))) parent)))
            (cases_lt f.created d.from)

    abbrev rows_then : Bool → List Row
    rows_then caught_up = rows_back (Some r.token) caught_up (applied b.window.start b.rows o)

    upto_then : (caught_up : Bool) → AreUpTo moment b.rows → AreUpTo moment (rows_then caught_up)
    upto_then caught_up U = upto_back moment caught_up r.token (applied b.window.start b.rows o) (upto_applied b.window.start b.rows r x o O there C moment going children U)

    reach_then : (caught_up : Bool) → is_caught_up x.ending ≡ caught_up → (y : Row) → Contains (rows_then caught_up) y → 1 ≤ y.tries → moment ≤ y.through
    reach_then caught_up ending = reach_back moment caught_up r.token (applied b.window.start b.rows o) (reach_applied b.window.start b.rows r x o O there C moment G.reach)
        (λ caught. own_reach b.window.start b.rows r x o O there C (ending ∙ caught) moment (far (ending ∙ caught)))

    -- nothing caught up
    on_then : is_caught_up x.ending ≡ false → IsGettingOn moment count (rows_then false)
    on_then ending = record {
      reach = reach_then false ending;
      enough = ⊎_elim
          (λ (U : AreUpTo moment b.rows). inl (upto_then false U))
          (λ (k : count ≤ count_tried b.rows).
          let one = applied_tried b.window.start b.rows r x o O there C in
          let two = remade_tried false r.token (applied b.window.start b.rows o) in
          inr (subst (λ l. count ≤ count_tried l) (sym (back_is moment false r.token (applied b.window.start b.rows o))) (omega (arith, k, one, two))))
          G.enough;
    }

    -- it caught up: it was not tried before, or all that may be read were
    caught_then : is_caught_up x.ending ≡ true → IsGettingOn moment (suc count) (rows_then true)
    caught_then ending = record {
      reach = reach_then true ending;
      enough = ⊎_elim
          (λ (U : AreUpTo moment b.rows). inl (upto_then true U))
          (λ (k : count ≤ count_tried b.rows). ⊎_elim
          (λ (new : r.tries < 1).
          let y = (not_back b.rows r x O there b.window.start o C).each r there in
          let one = applied_tried b.window.start b.rows r x o O there C in
          let two = remade_more r.token (applied b.window.start b.rows o) (λ z i same. let tries = own_tries b.window.start b.rows r x o O there C ending z i same in omega (arith, tries, new)) y.0 y.1 y.2.token in
          inr (subst (λ l. suc count ≤ count_tried l) (sym (back_is moment true r.token (applied b.window.start b.rows o))) (omega (arith, k, one, two))))
          (λ (again : 1 ≤ r.tries).
          let up = far ending in
          let low = within in
          inl (upto_then true (board_reaches f b es B followed A r there moment (omega (arith, up, low)) (λ a R.
          let most = fewest r.token r token there refl a R in
          G.reach a R.there (omega (arith, again, most))))))
          (cases_lt r.tries 1))
          G.enough;
    }

    row_then : (caught_up : Bool) → is_caught_up x.ending ≡ caught_up → IsGettingOn moment (cond caught_up (suc count) count) (rows_then caught_up)
    row_then true ending = caught_then ending
    row_then false ending = on_then ending

  -- of the parts at the window's start
  first_then : (o : Option Entry) → b.rows ≡ [] → x.token ≡ None → PlansFirst b.rows x.children (Ok o) → IsGettingOn moment count (applied b.window.start b.rows o)
  first_then o empty none P = record {
    reach = opened_last (λ (y : Row). 1 ≤ y.tries → moment ≤ y.through) b.window.start b.rows P.1 o empty P.2 (λ t h. absurd (omega (arith, h)));
    enough = ⊎_elim
        (λ (U : AreUpTo moment b.rows). absurd (U.some empty))
        (λ (k : count ≤ count_tried b.rows). let nothing : count_tried b.rows ≡ 0 = ap count_tried empty in inr (omega (arith, k, nothing)))
        G.enough;
  }

  first_ended : lease.args.token ≡ None → x.ending ≡ Ending.Finished
  first_ended none = let L : ListsFirst x = subst (HasShape x) none W.shape in L.ended

  -- with the batch taken in
  moved_gets : (caught_up : Bool) (rows : List Row) → IsMovedBy b lease x caught_up rows → IsGettingOn moment (cond caught_up (suc count) count) rows
  moved_gets caught_up rows M = ⊎_elim
      (λ (h : (map fresh b.rows ≡ []) × (lease ≡ first_lease b.window)).
      let none : lease.args.token ≡ None = ap (λ (l : Lease). l.args.token) h.1 in
      let going : x.token ≡ None = W.token ∙ none in
      let P : PlansFirst b.rows x.children (Ok M.planned) = subst (λ t. PlansOf b.rows x t (Ok M.planned)) going M.plans in
      let G2 = first_then M.planned (no_rows b.rows h.0) going P in
      let rows_are : rows ≡ applied b.window.start b.rows M.planned = M.is ∙ ap (λ t. rows_back t caught_up (applied b.window.start b.rows M.planned)) none in
      let caught : caught_up ≡ false = sym M.ending ∙ ap is_caught_up (first_ended none) in
      subst (λ c. IsGettingOn moment (cond c (suc count) count) rows) (sym caught) (subst (IsGettingOn moment count) (sym rows_are) G2))
      (λ (h : (r : Row) × IsReady (map fresh b.rows) r × (lease ≡ row_lease b.window r)).
      let u = from_map fresh h.0 b.rows h.1.there in
      let of : lease ≡ row_lease b.window u.0 = h.2 ∙ ap (row_lease b.window) u.2 in
      let going : u.0.finished ≡ false = sym (ap (λ (z : Row). z.finished) u.2) ∙ h.1.unfinished in
      let named : lease.args.token ≡ Some u.0.token = ap (λ (l : Lease). l.args.token) of in
      let plan : planned b.rows u.0.token x ≡ Ok M.planned = subst (λ t. PlansOf b.rows x t (Ok M.planned)) (W.token ∙ named) M.plans in
      let parts = planned_ok b.rows u.0.token u.0 x M.planned (row_at b.rows u.0.token u.0 O u.1 refl) plan in
      let C = entry_cases u.0 x M.planned parts.1 in
      let rows_are : rows ≡ rows_then u.0 u.1 going of M.planned C caught_up = M.is ∙ ap (λ t. rows_back t caught_up (applied b.window.start b.rows M.planned)) named in
      subst (λ l. IsGettingOn moment (cond caught_up (suc count) count) l) (sym rows_are) (row_then u.0 u.1 going of M.planned C caught_up M.ending))
      due
    where
      no_rows : (rows : List Row) → map fresh rows ≡ [] → rows ≡ []
      no_rows [] h = refl
      no_rows (r ∷ rows) h = absurd cc

  pub turn_gets_on : (t : Turn) (rows : List Row) → Moves b lease x t rows → GetsOn moment count t rows
  turn_gets_on (turns.Stops o) rows M = tt
  turn_gets_on turns.CaughtUp rows M = moved_gets true rows M
  turn_gets_on turns.On rows M = moved_gets false rows M
