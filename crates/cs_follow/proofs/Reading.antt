-- The READs of a turn, and of turns one after another.
use Rattle.std.proofs.Common.{◌≡◌, ℕ, ◌≤◌, max, Bool, true, false, cond, List, [], ◌∷◌, ◌++◌, append-nil, append_assoc, Option, Some, None, Result, Ok, Err, ⊎_elim, sym, refl, ap, ◌∙◌, subst, arith, map, Contains, nat_lt}
use Rattle.std.proofs.lemmas.List.Elements.{Contains-append_cases}
use Rattle.cs_types.specs.declared.names.Window.{Window}
use Rattle.cs_types.specs.Members.{in_nil, in_cons, in_head, in_map}
use Rattle.cs_link.specs.declared.batch.Batch.{Batch}
use Rattle.cs_link.specs.declared.reading.ReadArgs.{ReadArgs}
use Rattle.cs_fetch.specs.declared.fault.FetchFault.{FetchFault}
use Rattle.cs_fetch.specs.Made.{HasAsked, AsksOnce}
use Rattle.cs_schedule.specs.declared.row.Row.{Row}
use Rattle.cs_schedule.specs.Board.{IsOrdered, fresh}
use Rattle.cs_schedule.specs.Consistent.{IsReady}
use Rattle.cs_book.specs.Lease.{row_start, row_lease, first_lease}
use Rattle.cs_book.specs.declared.lease.Lease.{Lease}
use Rattle.cs_follow.specs.Due.{IsLeaseOf}
use Rattle.cs_follow.specs.Reads.{HasRead, StartsAs, StartsAtRow, IsOn, NotBack}
use Rattle.cs_follow.proofs.RowLemmas.{row_at}
use Rattle.cs_follow.proofs.Small.{lt_true, lt_false}

pub read_none : (before : Option (List ReadArgs)) (P : ReadArgs → Type 0) → HasRead before before P
read_none None P = tt
read_none (Some before) P = ([], ap Some (sym (append-nil before)), λ args i. absurd (in_nil args i))

asked_one : (before now : Option (List ReadArgs)) (args : ReadArgs) (P : ReadArgs → Type 0) → P args → HasAsked before now args → HasRead before now P
asked_one None now args P p h = tt
asked_one (Some before) now args P p h = (args ∷ [], h, λ a i. ⊎_elim (λ (q : a ≡ args). subst P (sym q) p) (λ (j : Contains [] a). absurd (in_nil a j)) (in_cons args a [] i))

pub read_once : (before now : Option (List ReadArgs)) (args : ReadArgs) (P : ReadArgs → Type 0) (result : Result Batch FetchFault) → P args → AsksOnce before now args result → HasRead before now P
read_once before now args P (Ok batch) p h = asked_one before now args P p h
read_once before now args P (Err FetchFault.LinkFault) p h = asked_one before now args P p h
read_once before now args P (Err (FetchFault.Refused refusal)) p h = asked_one before now args P p h
read_once before now args P (Err (FetchFault.Breach breach)) p h = asked_one before now args P p h
read_once before now args P (Err (FetchFault.Stalled count)) p h = asked_one before now args P p h
read_once before now args P (Err FetchFault.Memory) p h = ⊎_elim (λ (q : now ≡ before). subst (λ z. HasRead before z P) (sym q) (read_none before P)) (λ (k : HasAsked before now args). asked_one before now args P p k) h

pub read_such : (before now : Option (List ReadArgs)) (P Q : ReadArgs → Type 0) → ((args : ReadArgs) → P args → Q args) → HasRead before now P → HasRead before now Q
read_such None now P Q f h = tt
read_such (Some before) now P Q f h = (h.0, h.1, λ args i. f args (h.2 args i))

-- a READ that is due starts as the rows are over which it is
pub due_starts : (w : Window) (rows : List Row) (lease : Lease) → IsOrdered rows → IsLeaseOf w rows lease → StartsAtRow rows lease.args
due_starts w rows lease O due = ⊎_elim
    (λ (h : (rows ≡ []) × (lease ≡ first_lease w)). subst (λ (l : Lease). StartsAtRow rows l.args) (sym h.1) h.0)
    (λ (h : (r : Row) × IsReady rows r × (lease ≡ row_lease w r)). subst (λ (l : Lease). StartsAtRow rows l.args) (sym h.2) (λ y i same.
    let one : Some y ≡ Some h.0 = sym (row_at rows h.0.token y O i same) ∙ row_at rows h.0.token h.0 O h.1.there refl in
    let it : y ≡ h.0 = cc in
    subst (λ (z : Row). (z.finished ≡ false) × (row_start z ≤ row_start h.0)) (sym it) (h.1.unfinished, omega arith)))
    due

pub due_reads : (before now : Option (List ReadArgs)) (w : Window) (rows : List Row) (lease : Lease) → IsOrdered rows → IsLeaseOf w rows lease → HasRead before now (λ args. args ≡ lease.args) → HasRead before now (StartsAtRow rows)
due_reads before now w rows lease O due h = read_such before now (λ args. args ≡ lease.args) (StartsAtRow rows) (λ args q. subst (StartsAtRow rows) (sym q) (due_starts w rows lease O due)) h

pub read_then : (a b c : Option (List ReadArgs)) (P : ReadArgs → Type 0) → HasRead a b P → HasRead b c P → HasRead a c P
read_then None b c P h k = tt
read_then (Some before) b c P h k =
    let on = subst (λ z. HasRead z c P) h.1 k in
    (h.0 ++ on.0, on.1 ∙ ap Some (append_assoc before h.0 on.0), λ args i. ⊎_elim (λ (j : Contains h.0 args). h.2 args j) (λ (j : Contains on.0 args). on.2 args j) (Contains-append_cases h.0 on.0 args i))

-- ---- rows that do not fall back

start_is : (r : Row) → row_start r ≡ max r.start r.through
start_is r = by (nat_lt r.through r.start) refl
  where
    by : (b : Bool) → nat_lt r.through r.start ≡ b → cond b r.start r.through ≡ max r.start r.through
    by true q = let above = lt_true r.through r.start q in omega (arith, above)
    by false q = let low = lt_false r.through r.start q in omega (arith, low)

pub starts_up : (r y : Row) → y.start ≡ r.start → r.through ≤ y.through → row_start r ≤ row_start y
starts_up r y same up = let one = start_is r in let two = start_is y in omega (arith, one, two, same, up)

pub on_itself : (r : Row) → IsOn r r
on_itself r = record { token = refl; start = omega arith; finished = λ h. h }

none_from : (old new : List Row) → ((r : Row) → Contains old r → (y : Row) × Contains new y) → new ≡ [] → old ≡ []
none_from [] new f e = refl
none_from (r ∷ old) new f e = let u = f r (in_head r old) in absurd (in_nil u.0 (subst (λ l. Contains l u.0) e u.1))

pub back_by : (old new : List Row) → ((r : Row) → Contains old r → (y : Row) × Contains new y × IsOn r y) → NotBack old new
back_by old new f = record { none = none_from old new (λ r i. let u = f r i in (u.0, u.1)); each = f }

pub back_now : (rows : List Row) → NotBack rows rows
back_now rows = back_by rows rows (λ r i. (r, i, on_itself r))

pub back_fresh : (rows : List Row) → NotBack rows (map fresh rows)
back_fresh rows = back_by rows (map fresh rows) (λ r i. (fresh r, in_map fresh r rows i, record { token = refl; start = starts_up r (fresh r) refl (omega arith); finished = λ h. h }))

pub back_then : (a b c : List Row) → NotBack a b → NotBack b c → NotBack a c
back_then a b c h k = back_by a c (λ r i.
    let u = h.each r i in
    let v = k.each u.0 u.1 in
    let one = u.2.start in
    let two = v.2.start in
    (v.0, v.1, record { token = v.2.token ∙ u.2.token; start = omega (arith, one, two); finished = λ q. u.2.finished (v.2.finished q) }))

pub starts_before : (old new : List Row) → NotBack old new → (args : ReadArgs) → StartsAtRow new args → StartsAtRow old args
starts_before old new N args = by args.token
  where
    by : (token : Option (List ℕ)) → StartsAs new token args.start → StartsAs old token args.start
    by None h = N.none h
    by (Some t) h = λ r i same.
        let u = N.each r i in
        let on = h u.0 u.1 (u.2.token ∙ same) in
        let low = on.1 in
        let rises = u.2.start in
        (u.2.finished on.0, omega (arith, low, rises))

-- one turn more
pub read_on_then : (a b c : Option (List ReadArgs)) (old mid : List Row) → NotBack old mid → HasRead a b (StartsAtRow old) → HasRead b c (StartsAtRow mid) → HasRead a c (StartsAtRow old)
read_on_then a b c old mid N h k = read_then a b c (StartsAtRow old) h (read_such b c (StartsAtRow mid) (StartsAtRow old) (starts_before old mid N) k)
