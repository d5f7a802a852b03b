-- A READ that is due over the rows of consistent entries is not refused by an honest server that still keeps the window's start.
use Rattle.std.proofs.Common.{◌≡◌, ◌≢◌, ◌⊎◌, ℕ, suc, ◌<◌, ◌≤◌, max, Bool, true, false, cond, List, Option, Some, None, ⊎_elim, inl, inr, sym, refl, ◌∙◌, subst, arith, Contains, nat_lt}
use Rattle.cs_types.specs.declared.names.Window.{Window}
use Rattle.cs_place.specs.declared.part.Part.{Part}
use Rattle.cs_place.specs.Part.{IsBefore}
use Rattle.cs_link.specs.declared.feed.Feed.{Feed}
use Rattle.cs_link.specs.declared.reading.ReadArgs.{ReadArgs}
use Rattle.cs_link.specs.declared.refusal.ReadRefusal.{ReadRefusal}
use Rattle.cs_link.specs.Batch.{limit}
use Rattle.cs_link.specs.Feed.{IsFeed}
use Rattle.cs_link.specs.Refusal.{IsRefusedBy}
use Rattle.cs_types.specs.declared.change.Change.{Change}
use Rattle.cs_types.specs.Members.{pairs_from, pairs_two}
use Rattle.cs_schedule.specs.declared.row.Row.{Row}
use Rattle.cs_schedule.specs.Board.{fresh}
use Rattle.cs_schedule.specs.Consistent.{IsRight}
use Rattle.cs_schedule.specs.Follows.{IsFollowed}
use Rattle.cs_book.specs.declared.lease.Lease.{Lease}
use Rattle.cs_follow.specs.Due.{IsLeaseOf}
use Rattle.cs_follow.specs.Rightly.{MayBeRefused}
use Rattle.cs_book.specs.Lease.{row_lease, first_lease}
use Rattle.cs_follow.proofs.Small.{lt_false}
use Rattle.cs_fetch.specs.Laws.{Fits}
use Rattle.cs_follow.proofs.Work.{row_fits}

pub same_part : (f : Feed) → IsFeed f → (a b : Part) → Contains f.parts a → Contains f.parts b → a.token ≡ b.token → a ≡ b
same_part f F a b i j e =
    ⊎_elim
    (λ (s : a ≡ b). s)
    (λ (r : (a.token ≢ b.token) ⊎ (b.token ≢ a.token)). ⊎_elim (λ (n : a.token ≢ b.token). absurd (n e)) (λ (n : b.token ≢ a.token). absurd (n (sym e))) r)
    (pairs_two (λ (x y : Part). x.token ≢ y.token) f.parts (pairs_from (λ (x y : Part). x.token ≢ y.token) f.parts F.layout.tokens) a b i j)

-- what the start of a READ meets: it is in the window, and where it is of a part, in the part
pub record IsTimely (f : Feed) (w : Window) (args : ReadArgs) : Type 0 where
  pub heartbeat : args.heartbeat_ms ≡ 10000
  pub end : args.end ≡ Some w.end
  pub early : w.start ≤ args.start
  pub late : args.start ≤ w.end
  pub part : (t : List ℕ) → args.token ≡ Some t → (q : Part) × Contains f.parts q × (q.token ≡ t) × (q.from ≤ args.start) × IsBefore args.start q.until

before_max : (s from : ℕ) (until : Option ℕ) → IsBefore s until → IsBefore from until → IsBefore (max s from) until
before_max s from None a b = tt
before_max s from (Some u) a b = omega (arith, a, b)

before_limit : (e n : ℕ) (until : Option ℕ) → suc n ≤ limit e until → IsBefore n until
before_limit e n None h = tt
before_limit e n (Some u) h = omega (arith, h)

pub within_limit : (e n : ℕ) (until : Option ℕ) → suc n ≤ limit e until → n ≤ e
within_limit e n None h = omega (arith, h)
within_limit e n (Some u) h = omega (arith, h)

module _ (f : Feed) (w : Window) (followed : IsFollowed f w) where
  -- of a row
  module _ (rows : List Row) (done : List Change) (R : IsRight f w.start w.end rows done) (r : Row) (there : Contains rows r) where
    row_timely : IsTimely f w (row_lease w r).args
    row_timely =
        let k = R.known r there in
        let q = k.0 in
        let of = k.4 in
        let b = R.bound r q there k.1 of.0 in
        let lives = followed.feed.layout.lives q k.1 in
        record {
          heartbeat = refl;
          end = refl;
          early = by_early q (nat_lt r.through r.start) refl of.2 b.0;
          late = by_late q (nat_lt r.through r.start) refl of.2 k.2 (within_limit w.end r.through q.until b.1);
          part = λ t e. let named : r.token ≡ t = cc in (q, k.1, sym of.0 ∙ named, by_from q (nat_lt r.through r.start) refl of.2, by_until q (nat_lt r.through r.start) refl of.2 (before_max w.start q.from q.until k.3 lives) (before_limit w.end r.through q.until b.1));
        }
      where
        by_early : (q : Part) (b : Bool) → nat_lt r.through r.start ≡ b → r.start ≡ max w.start q.from → r.start ≤ suc r.through → w.start ≤ cond b r.start r.through
        by_early q true p e l = omega (arith, e)
        by_early q false p e l = let low = lt_false r.through r.start p in omega (arith, e, low)

        by_late : (q : Part) (b : Bool) → nat_lt r.through r.start ≡ b → r.start ≡ max w.start q.from → q.from ≤ w.end → r.through ≤ w.end → cond b r.start r.through ≤ w.end
        by_late q true p e l m = let order = followed.in_order in omega (arith, e, l, order)
        by_late q false p e l m = m

        by_from : (q : Part) (b : Bool) → nat_lt r.through r.start ≡ b → r.start ≡ max w.start q.from → q.from ≤ cond b r.start r.through
        by_from q true p e = omega (arith, e)
        by_from q false p e = let low = lt_false r.through r.start p in omega (arith, e, low)

        by_until : (q : Part) (b : Bool) → nat_lt r.through r.start ≡ b → r.start ≡ max w.start q.from → IsBefore (max w.start q.from) q.until → IsBefore r.through q.until → IsBefore (cond b r.start r.through) q.until
        by_until q true p e l m = subst (λ n. IsBefore n q.until) (sym e) l
        by_until q false p e l m = m

  -- of the parts at the window's start
  first_timely : IsTimely f w (first_lease w).args
  first_timely = record { heartbeat = refl; end = refl; early = omega arith; late = followed.in_order; part = λ t e. absurd cc }

  module _ (args : ReadArgs) (T : IsTimely f w args) (moment : ℕ) where
    pub refused_rightly : (refusal : ReadRefusal) → IsRefusedBy f args moment refusal → MayBeRefused f w args.start moment refusal
    refused_rightly ReadRefusal.UnknownFunction h = h
    refused_rightly (ReadRefusal.ArgumentType name) h = h
    refused_rightly (ReadRefusal.ArgumentMissing name) h = h
    refused_rightly ReadRefusal.ReadOptions h = h
    refused_rightly ReadRefusal.Heartbeat h = let beat = T.heartbeat in ⊎_elim (λ l. omega (arith, beat, l)) (λ l. omega (arith, beat, l)) h
    refused_rightly ReadRefusal.EndBeforeStart h = let same : Some h.0 ≡ Some w.end = sym h.1 ∙ T.end in let is : h.0 ≡ w.end = cc in let l = T.late in omega (arith, is, h.2, l)
    refused_rightly ReadRefusal.StartBeforeCreation h = let l = T.early in let m = followed.created in omega (arith, h, l, m)
    refused_rightly (ReadRefusal.StartTooOld earliest) h = (h.0, T.early, h.1)
    refused_rightly (ReadRefusal.StartInFuture at) h = let l = T.late in (h.0, omega (arith, h.1, l))
    refused_rightly ReadRefusal.UnknownToken h = let u = T.part h.0 h.1 in h.2 u.0 u.1 u.2
    refused_rightly (ReadRefusal.StartBeforePartition from) h =
        let p = h.0 in
        let u = T.part p.token h.1.token in
        let same : u.0 ≡ p = same_part f followed.feed u.0 p u.1 h.1.there u.2 in
        let low : p.from ≤ args.start = subst (λ (z : Part). z.from ≤ args.start) same u.3 in
        omega (arith, h.2, h.3, low)
    refused_rightly (ReadRefusal.StartPastPartition until) h =
        let p = h.0 in
        let u = T.part p.token h.1.token in
        let same : u.0 ≡ p = same_part f followed.feed u.0 p u.1 h.1.there u.2 in
        let below : args.start < until = subst (IsBefore args.start) h.2 (subst (λ (z : Part). IsBefore args.start z.until) same u.4) in
        omega (arith, below, h.3)
    refused_rightly (ReadRefusal.Syntax place) h = h
    refused_rightly (ReadRefusal.Wire status) h = h

  pub lease_timely : (rows all : List Row) (done : List Change) → IsRight f w.start w.end all done → ((r : Row) → Contains rows r → Contains all (fresh r)) → (lease : Lease) → IsLeaseOf w rows lease → IsTimely f w lease.args
  lease_timely rows all done R inside lease (inl h) = subst (λ (l : Lease). IsTimely f w l.args) (sym h.1) first_timely
  lease_timely rows all done R inside lease (inr h) = subst (λ (l : Lease). IsTimely f w l.args) (sym h.2) (row_timely all done R (fresh h.0) (inside h.0 h.1.there))

  pub lease_fits : (rows all : List Row) (done : List Change) → IsRight f w.start w.end all done → ((r : Row) → Contains rows r → Contains all (fresh r)) → (lease : Lease) → IsLeaseOf w rows lease → Fits lease.args lease.known
  lease_fits rows all done R inside lease (inl h) = let first = followed.first in subst (λ (l : Lease). Fits l.args l.known) (sym h.1) (inr (omega (arith, first)))
  lease_fits rows all done R inside lease (inr h) =
      let r = fresh h.0 in
      let there = inside h.0 h.1.there in
      let k = R.known r there in
      subst (λ (l : Lease). Fits l.args l.known) (sym h.2) (row_fits w h.0 (R.bound r k.0 there k.1 k.4.0).0)
