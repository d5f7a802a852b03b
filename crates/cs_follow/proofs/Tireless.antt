-- Over an honest link so many records in a row never add nothing, whatever entries the book holds.
use Rattle.std.proofs.Common.{◌≡◌, ◌≢◌, ◌⊎◌, ℕ, zero, suc, ◌-◌, ◌<◌, ◌≤◌, Bool, true, false, cond, List, [], ◌∷◌, ◌++◌, map, Option, None, Some, ⊎_elim, inl, inr, sym, refl, ap, ◌∙◌, subst, arith, nat_lt, true≢false, bytes_eq, length, Contains}
use Rattle.std.proofs.lemmas.List.Elements.{Contains-append_cases, Contains-append_right}
use Rattle.cs_types.specs.declared.names.Window.{Window}
use Rattle.cs_types.specs.Members.{bytes_same, in_nil, in_head, in_cons, in_map, from_map, in_flat, from_flat}
use Rattle.cs_types.specs.Stamp.{IsStamp}
use Rattle.cs_link.specs.declared.batch.Limits.{Limits}
use Rattle.cs_link.specs.declared.batch.NewChild.{NewChild}
use Rattle.cs_link.specs.declared.feed.Feed.{Feed}
use Rattle.cs_link.specs.Honest.{IsHonestFor}
use Rattle.cs_link.specs.Reading.{Read}
use Rattle.cs_fetch.specs.Fetch.{Stalls}
use Rattle.cs_fetch.specs.Honesty.{MadeIsFaithful}
use Rattle.cs_fetch.specs.Laws.{Fits as ReadFits}
use Rattle.cs_schedule.specs.declared.entry.Entry.{Entry}
use Rattle.cs_schedule.specs.declared.entry.Entry.TheVariants.{Begin, Opened, Progress, Finished}
use Rattle.cs_schedule.specs.declared.row.Row.{Row}
use Rattle.cs_schedule.specs.Board.{Shown, IsOrdered, fresh, row_of}
use Rattle.cs_schedule.specs.Follows.{IsBoardOf}
use Rattle.cs_schedule.specs.Rows.{is_of, next_in, births_in, births, next, row_after, rows_of, GoesOn, Fits, FoldsBehind, Folds}
use Rattle.cs_book.specs.Book.{BookState, AreEntriesOf}
use Rattle.cs_book.specs.Lease.{row_start}
use Rattle.cs_book.specs.declared.lease.Lease.{Lease}
use Rattle.cs_follow.specs.declared.outcome.Outcome.{Outcome}
use Rattle.cs_follow.specs.Cause.{HasStalled}
use Rattle.cs_follow.specs.Due.{IsLeaseOf}
use Rattle.cs_follow.specs.Turn.{IsStopped, HasStopped}
use Rattle.cs_follow.proofs.AtRest.{fresh_ordered}
use Rattle.cs_follow.proofs.RowLemmas.{row_at}
use Rattle.cs_follow.proofs.Small.{lt_true}
use Rattle.cs_follow.proofs.Synced.{IsSynced}
use Rattle.cs_follow.proofs.Work.{lease_end, row_fits}

-- ---- what entries that fold make of a part

module _ (s e : ℕ) (order : s ≤ e) where
  -- no part begins past the end
  birth_start : (done : List Entry) (x : Entry) → Fits s e done x → (b : NewChild) → Contains (births_in s x) b → b.start ≤ e
  birth_start done (Begin w) F b i = absurd (in_nil b i)
  birth_start done (Opened tokens) F b i = let u = from_map (λ (t : List ℕ). record { token = t; parents = []; start = s }) b tokens i in subst (λ (z : NewChild). z.start ≤ e) (sym u.2) order
  birth_start done (Progress t n cs) F b i = absurd (in_nil b i)
  birth_start done (Finished t n cs xs) F b i = (F.1 b i).0

  births_start : (done es : List Entry) → FoldsBehind s e done es → (b : NewChild) → Contains (births s es) b → b.start ≤ e
  births_start done [] F b i = absurd (in_nil b i)
  births_start done (x ∷ es) F b i = ⊎_elim (λ j. birth_start done x F.0 b j) (λ j. births_start (done ++ x ∷ []) es F.1 b j) (Contains-append_cases (births_in s x) (births s es) b i)

  -- the next moment of a token, all of whose parts have one start
  module _ (t : List ℕ) (m : ℕ) (within : m ≤ e) where
    abbrev Only : List Entry → Type 0
    Only es = (b : NewChild) → Contains (births s es) b → b.token ≡ t → b.start ≡ m

    abbrev step : Entry → ℕ → ℕ
    step x n = cond (is_of t x) (next_in x n) n

    next_more : (done : List Entry) (x : Entry) (n : ℕ) → next t n (done ++ x ∷ []) ≡ step x (next t n done)
    next_more [] x n = refl
    next_more (y ∷ done) x n = next_more done x (step y n)

    only_more : (done : List Entry) (x : Entry) (es : List Entry) → Only done → Only (x ∷ es) → Only (done ++ x ∷ [])
    only_more done x es before behind b i same =
        let u = from_flat (births_in s) b (done ++ x ∷ []) i in
        ⊎_elim
        (λ (j : Contains done u.0). before b (in_flat (births_in s) b u.0 done j u.2) same)
        (λ (j : Contains (x ∷ []) u.0). ⊎_elim (λ (is : u.0 ≡ x). behind b (in_flat (births_in s) b x (x ∷ es) (in_head x es) (subst (λ z. Contains (births_in s z) b) is u.2)) same) (λ (k : Contains [] u.0). absurd (in_nil u.0 k)) (in_cons x u.0 [] j))
        (Contains-append_cases done (x ∷ []) u.0 u.1)

    only_less : (x : Entry) (es : List Entry) → Only (x ∷ es) → Only es
    only_less x es all b i same = let u = from_flat (births_in s) b es i in all b (in_flat (births_in s) b u.0 (x ∷ es) (Contains-append_right (x ∷ []) es u.0 u.1) u.2) same

    abbrev IsInside : ℕ → Type 0
    IsInside n = (m ≤ n) × (n ≤ suc e)

    goes_inside : (done : List Entry) (u : List ℕ) (n : ℕ) → Only done → GoesOn s e done u n → u ≡ t → IsInside (next t m done) → IsInside (suc n)
    goes_inside done u n only G same I =
        let start : G.part.start ≡ m = only G.part G.there (G.its ∙ same) in
        let rises : next t m done ≤ suc n = subst (λ a. next t a done ≤ suc n) start (subst (λ z. next z G.part.start done ≤ suc n) same G.rises) in
        let low = I.0 in
        let top = G.within in
        (omega (arith, low, rises), omega (arith, top))

    step_inside : (done : List Entry) (x : Entry) → Only done → Fits s e done x → IsInside (next t m done) → IsInside (step x (next t m done))
    step_inside done (Begin w) only F I = I
    step_inside done (Opened tokens) only F I = I
    step_inside done (Progress u n cs) only F I = by (bytes_eq u t) refl
      where
        by : (b : Bool) → bytes_eq u t ≡ b → IsInside (cond b (suc n) (next t m done))
        by true q = goes_inside done u n only F (bytes_same u t q) I
        by false q = I
    step_inside done (Finished u n cs xs) only F I = by (bytes_eq u t) refl
      where
        by : (b : Bool) → bytes_eq u t ≡ b → IsInside (cond b (suc n) (next t m done))
        by true q = goes_inside done u n only F.0 (bytes_same u t q) I
        by false q = I

    next_inside : (done es : List Entry) → Only done → Only es → FoldsBehind s e done es → IsInside (next t m done) → IsInside (next t (next t m done) es)
    next_inside done [] before behind F I = I
    next_inside done (x ∷ es) before behind F I =
        let more = next_more done x m in
        subst (λ n. IsInside (next t n es)) more
        (next_inside (done ++ x ∷ []) es (only_more done x es before behind) (only_less x es behind) F.1 (subst IsInside (sym more) (step_inside done x before F.0 I)))

-- ---- the rows of a board

less_one : (m e n : ℕ) → m ≤ n → n ≤ suc e → (m ≤ suc (n - 1)) × (n - 1 ≤ e)
less_one m e n l h = (omega (arith, l), omega (arith, h))

module _ (w : Window) (es : List Entry) (b : Shown) (of : IsBoardOf es b) (is_window : b.window ≡ w) (ordered : IsOrdered b.rows) (order : w.start ≤ w.end) where
  there : (r : Row) → Contains b.rows r → Contains (rows_of w.start es) (fresh r)
  there r i = subst (λ (v : Window). Contains (rows_of v.start es) (fresh r)) is_window ((of.rows (fresh r)).0 (in_map fresh r b.rows i))

  back : (r : Row) → Contains (rows_of w.start es) r → Contains (map fresh b.rows) r
  back r i = (of.rows r).1 (subst (λ (v : Window). Contains (rows_of v.start es) r) (sym is_window) i)

  folds : Folds w es
  folds = subst (λ (v : Window). Folds v es) is_window of.folds

  -- parts of one token have one start
  one_start : (x y : NewChild) → Contains (births w.start es) x → Contains (births w.start es) y → y.token ≡ x.token → y.start ≡ x.start
  one_start x y i j same =
      let a = row_at (map fresh b.rows) x.token (row_after es x) (fresh_ordered b.rows ordered) (back (row_after es x) (in_map (row_after es) x (births w.start es) i)) refl in
      let c = row_at (map fresh b.rows) x.token (row_after es y) (fresh_ordered b.rows ordered) (back (row_after es y) (in_map (row_after es) y (births w.start es) j)) same in
      let one : Some (row_after es y) ≡ Some (row_after es x) = sym c ∙ a in
      let is : row_after es y ≡ row_after es x = cc in
      ap (λ (r : Row). r.start) is

  -- where a row starts, and what is complete of it
  inside : (x : NewChild) → Contains (births w.start es) x → (x.start ≤ w.end) × (x.start ≤ next x.token x.start es) × (next x.token x.start es ≤ suc w.end)
  inside x i = by es folds i (λ y j same. one_start x y i j same)
    where
      by : (l : List Entry) → Folds w l → Contains (births w.start l) x → ((y : NewChild) → Contains (births w.start l) y → y.token ≡ x.token → y.start ≡ x.start) → (x.start ≤ w.end) × (x.start ≤ next x.token x.start l) × (next x.token x.start l ≤ suc w.end)
      by [] F j only = absurd (in_nil x j)
      by (y ∷ l) F j only = begun y F.0 F.1 j only
        where
          begun : (y : Entry) → y ≡ Begin w → FoldsBehind w.start w.end (y ∷ []) l → Contains (births w.start (y ∷ l)) x → ((z : NewChild) → Contains (births w.start (y ∷ l)) z → z.token ≡ x.token → z.start ≡ x.start) → (x.start ≤ w.end) × (x.start ≤ next x.token x.start (y ∷ l)) × (next x.token x.start (y ∷ l) ≤ suc w.end)
          begun (Begin v) is F j only =
              let start = births_start w.start w.end order (Begin v ∷ []) l F x j in
              let I = next_inside w.start w.end order x.token x.start start (Begin v ∷ []) l (λ z k. absurd (in_nil z k)) only F (omega arith, omega (arith, start)) in
              (start, I.0, I.1)
          begun (Opened tokens) is F j only = absurd cc
          begun (Progress t n cs) is F j only = absurd cc
          begun (Finished t n cs xs) is F j only = absurd cc

  row_inside : (r : Row) → Contains b.rows r → (r.start ≤ w.end) × (r.start ≤ suc r.through) × (r.through ≤ w.end)
  row_inside r i =
      let u = from_map (row_after es) (fresh r) (births w.start es) (there r i) in
      let I = inside u.0 u.1 in
      let L = less_one u.0.start w.end (next u.0.token u.0.start es) I.1 I.2 in
      subst (λ (z : Row). (z.start ≤ w.end) × (z.start ≤ suc z.through) × (z.through ≤ w.end)) (sym u.2) (I.0, L.0, L.1)

  -- a READ that is due starts in the window
  row_starts : (r : Row) → Contains b.rows r → row_start r ≤ w.end
  row_starts r i = by (nat_lt r.through r.start) refl (row_inside r i)
    where
      by : (x : Bool) → nat_lt r.through r.start ≡ x → (r.start ≤ w.end) × (r.start ≤ suc r.through) × (r.through ≤ w.end) → cond x r.start r.through ≤ w.end
      by true q I = I.0
      by false q I = I.2

  lease_starts : (lease : Lease) → IsLeaseOf w b.rows lease → lease.args.start ≤ w.end
  lease_starts lease (inl h) = subst (λ (l : Lease). l.args.start ≤ w.end) (sym h.1) order
  lease_starts lease (inr h) = subst (λ (l : Lease). l.args.start ≤ w.end) (sym h.2) (row_starts h.0 h.1.there)

  -- and at the end of what is known, or one microsecond later
  first_fits : (n : ℕ) → (n ≡ n - 1) ⊎ (n ≡ suc (n - 1))
  first_fits zero = inl (omega arith)
  first_fits (suc n) = inr (omega arith)

  lease_is_near : (lease : Lease) → IsLeaseOf w b.rows lease → ReadFits lease.args lease.known
  lease_is_near lease (inl h) = subst (λ (l : Lease). ReadFits l.args l.known) (sym h.1) (first_fits w.start)
  lease_is_near lease (inr h) = subst (λ (l : Lease). ReadFits l.args l.known) (sym h.2) (row_fits w h.0 (row_inside h.0 h.1.there).1)

  module _ (limits : Limits) (since : ℕ) (told told_now : Option Feed) (before now : Option (Option Read)) (E : IsHonestFor w.stream told before) (H : IsHonestFor w.stream told_now now) (range : IsStamp w.end) (faithful : MadeIsFaithful) where
    never : (token : Option (List ℕ)) (count : ℕ) → HasStalled w limits since before now b.rows token count → ⊥
    never token count S =
        let lease = S.0 in
        let stream : w.stream ≡ lease.args.stream = sym (lease_end w b.rows lease S.1).2 in
        let was : IsHonestFor lease.args.stream told before = subst (λ z. IsHonestFor z told before) stream E in
        let is : IsHonestFor lease.args.stream told_now now = subst (λ z. IsHonestFor z told_now now) stream H in
        let starts = lease_starts lease S.1 in
        let top = range.1 in
        faithful lease.args before now told told_now was is lease.known limits since Stalls S.4 (omega (arith, starts, top)) (lease_is_near lease S.1)

-- ---- a follower that stopped

pub never_stalled : {J O : Type 0} (seen : J → Option (List ℕ)) (text : O → Option (List ℕ)) (limits : Limits) (since : ℕ) (before now : Option (Option Read)) (turns count count_now : ℕ) (rose rosej roseo : Type 0) (new : BookState J O) (es : List Entry) (w : Window) → new.board.window ≡ w → w.start ≤ w.end → IsStamp w.end
    → (told told_now : Option Feed) → IsHonestFor w.stream told before → IsHonestFor w.stream told_now now → MadeIsFaithful → (o : Outcome) (token : Option (List ℕ)) (k : ℕ) → o ≡ Outcome.Stalled token k → HasStopped seen text limits since before now turns count count_now rose rosej roseo new es o → ⊥
never_stalled seen text limits since before now turns count count_now rose rosej roseo new es w window order range told told_now E H faithful o token k is S =
    let D = subst (HasStopped seen text limits since before now turns count count_now rose rosej roseo new es) is S in
    let T = subst (λ (v : Window). IsStopped v limits since before now turns count count_now rose es (Outcome.Stalled token k)) window D.1 in
    never w es T.board T.of T.window T.ordered order limits since told told_now before now E H range faithful token k T.cause

-- an outcome that is told behind the last sync was one before it
pub stalled_synced : (a b : Type 0) (outcome result : Outcome) → IsSynced outcome a b result → (token : Option (List ℕ)) (k : ℕ) → result ≡ Outcome.Stalled token k → outcome ≡ Outcome.Stalled token k
stalled_synced a b outcome result S token k is =
    ⊎_elim
    (λ (e : result ≡ outcome). sym e ∙ is)
    (λ (h : ((outcome ≡ Outcome.Ended) ⊎ (outcome ≡ Outcome.Paused)) × (((result ≡ Outcome.JournalFault) × a) ⊎ ((result ≡ Outcome.OutputFault) × b))).
    ⊎_elim (λ (j : (result ≡ Outcome.JournalFault) × a). apart Outcome.JournalFault refl (sym j.0 ∙ is)) (λ (j : (result ≡ Outcome.OutputFault) × b). apart Outcome.OutputFault refl (sym j.0 ∙ is)) h.1)
    S
  where
    is_fault : Outcome → Bool
    is_fault Outcome.JournalFault = true
    is_fault Outcome.OutputFault = true
    is_fault _ = false

    apart : (o : Outcome) → is_fault o ≡ true → o ≡ Outcome.Stalled token k → outcome ≡ Outcome.Stalled token k
    apart o fault same = absurd (true≢false (sym fault ∙ ap is_fault same))
