-- Why a follower stops over an honest link.
use Rattle.std.proofs.Common.{◌≡◌, ◌≢◌, ◌⊎◌, ℕ, ◌<◌, ◌≤◌, Bool, true, false, cond, nat_lt, List, [], ◌∷◌, Option, Some, None, Ok, Err, ⊎_elim, inl, inr, sym, refl, ap, ◌∙◌, subst, arith, true≢false, Contains, bytes_eq, append-nil}
use Rattle.std.proofs.lemmas.Bool.{cases_Bool}
use Rattle.cs_types.specs.declared.names.Window.{Window}
use Rattle.cs_types.specs.Stamp.{IsStamp}
use Rattle.cs_types.specs.Members.{bytes_same, bytes_itself, in_nil, in_head, in_tail, in_cons, in_map}
use Rattle.cs_place.specs.declared.part.Part.{Part}
use Rattle.cs_link.specs.declared.batch.Batch.{Batch}
use Rattle.cs_link.specs.declared.batch.Limits.{Limits}
use Rattle.cs_link.specs.declared.breach.Breach.{Breach}
use Rattle.cs_link.specs.declared.feed.Feed.{Feed}
use Rattle.cs_link.specs.declared.reading.ReadArgs.{ReadArgs}
use Rattle.cs_link.specs.declared.refusal.ReadRefusal.{ReadRefusal}
use Rattle.cs_link.specs.Honest.{MayFollow, MayFollowFirst, MayCatchUp, HasHonestSteps, IsHonestAnswer, IsHonest, IsHonestRead, IsHonestFor}
use Rattle.cs_link.specs.Reading.{Read, end_of}
use Rattle.cs_link.specs.Refusal.{IsRefusedBy}
use Rattle.cs_fetch.specs.Fetch.{Outcome as ReadOutcome, Gives, Breaks, Stalls, outcome_of, none_counted, IfGives}
use Rattle.cs_fetch.specs.Honesty.{MadeIsFaithful}
use Rattle.cs_fetch.specs.Laws.{IsFaithfulOutcome, IsWellFormed, AlwaysWellFormed, IsWithin as LeaseIsWithin}
use Rattle.cs_fetch.specs.Made.{Presents, HasGiven, IsMade, WasRefused, HadBadLine, IsBadLine}
use Rattle.cs_schedule.specs.declared.entry.Entry.{Entry}
use Rattle.cs_schedule.specs.declared.row.Row.{Row}
use Rattle.cs_schedule.specs.Board.{Shown, IsOrdered, fresh, row_of}
use Rattle.cs_schedule.specs.Consistent.{IsRight, IsRowOf, IsConsistent, known_by, news, through_by}
use Rattle.cs_schedule.specs.Plan.{too_many, judge, judged, entry_with, planned, planned_of}
use Rattle.cs_schedule.specs.Update.{PlansOf}
use Rattle.cs_schedule.specs.declared.plan.PlanFault.TheVariants as faults
use Rattle.cs_place.specs.Part.{IsBefore}
use Rattle.cs_link.specs.Batch.{IsFaithfulFirst, IsFaithfulPart, IsFaithfulOf, IsFaithful}
use Rattle.cs_schedule.specs.Follows.{IsBoardOf, IsFollowed, NoneIsOrphan}
use Rattle.cs_schedule.specs.Rows.{changes, rows_of}
use Rattle.cs_book.specs.declared.lease.Lease.{Lease}
use Rattle.cs_follow.specs.declared.outcome.Outcome.{Outcome}
use Rattle.cs_follow.specs.Cause.{HasCaughtUp, IsRefused, IsBroken, IsRejected, IsOrphanBreach, HasCause}
use Rattle.cs_follow.specs.Own.{AreFollowing}
use Rattle.cs_room.specs.Room.{lease_start, low}
use Rattle.cs_room.specs.Laws.{DueIsAtLow}
use Rattle.cs_book.specs.Lease.{row_start}
use Rattle.cs_follow.specs.Rightly.{IsRefusedRightly, IsKeptNoLonger, StopsRightly}
use Rattle.cs_follow.proofs.Small.{lt_false, lt_true}
use Rattle.cs_follow.proofs.Ending.{found}
use Rattle.cs_follow.proofs.Honest.{judge_faithful, first_faithful}
use Rattle.cs_follow.proofs.RowLemmas.{row_at}
use Rattle.cs_follow.specs.Due.{IsLeaseOf}
use Rattle.cs_book.specs.Waiting.{AreFree, IsOrphan}
use Rattle.std.specs.Option.{unwrap_or}
use Rattle.cs_follow.proofs.Refusals.{IsTimely, refused_rightly, lease_timely, lease_fits, within_limit}
use Rattle.cs_follow.proofs.Stuckness.{waits_for}
use Rattle.cs_follow.proofs.Work.{lease_end}

-- ---- where a READ that is due starts

row_low : (r : Row) (n : ℕ) → n ≤ lease_start r → n ≤ row_start r
row_low r n h = by (nat_lt r.through r.start) refl
  where
    by : (b : Bool) → nat_lt r.through r.start ≡ b → n ≤ cond b r.start r.through
    by true q = let lt = lt_true r.through r.start q in omega (arith, h, lt)
    by false q = let le = lt_false r.through r.start q in omega (arith, h, le)

lease_low : (w : Window) (rows : List Row) → DueIsAtLow → (lease : Lease) → IsLeaseOf w rows lease → low w rows ≤ lease.args.start
lease_low w rows at_low lease (inl h) = subst (λ (l : Lease). low w rows ≤ l.args.start) (sym h.1) (subst (λ l. low w l ≤ w.start) (sym h.0) (omega arith))
lease_low w rows at_low lease (inr h) = subst (λ (l : Lease). low w rows ≤ l.args.start) (sym h.2) (row_low h.0 (low w rows) (at_low w rows h.0 h.1.there h.1.unfinished))

-- ---- the present READ of an honest link

find_part : (t : List ℕ) (parts : List Part) → ((p : Part) × Contains parts p × (p.token ≡ t)) ⊎ ((p : Part) → Contains parts p → p.token ≢ t)
find_part t [] = inr (λ p i e. in_nil p i)
find_part t (q ∷ parts) =
    ⊎_elim
    (λ (h : bytes_eq q.token t ≡ true). inl (q, in_head q parts, bytes_same q.token t h))
    (λ (h : bytes_eq q.token t ≡ false).
    ⊎_elim
    (λ (u : (p : Part) × Contains parts p × (p.token ≡ t)). inl (u.0, in_tail q u.0 parts u.1, u.2))
    (λ (n : (p : Part) → Contains parts p → p.token ≢ t). inr (λ p i e. ⊎_elim (λ (s : p ≡ q). true≢false (sym (bytes_itself t) ∙ ap (λ z. bytes_eq z t) (sym (ap (λ (z : Part). z.token) (sym s) ∙ e)) ∙ h)) (λ (j : Contains parts p). n p j e) (in_cons q p parts i)))
    (find_part t parts))
    (cases_Bool (bytes_eq q.token t))

module _ (f : Feed) (w : Window) (told : Option Feed) (now : Option (Option Read)) (H : IsHonestFor w.stream told now) (same : H.feed ≡ f) where
  pub present_honest : (read : Read) → now ≡ Some (Some read) → read.args.stream ≡ w.stream → IsHonest f read
  present_honest read is stream =
      let one : Some H.read ≡ Some (Some read) = sym H.presents ∙ is in
      let it : H.read ≡ Some read = cc in
      let honest : IsHonestRead H.feed w.stream (Some read) = subst (IsHonestRead H.feed w.stream) it H.honest in
      subst (λ (g : Feed). IsHonest g read) same (honest stream)

  -- one that caught up was opened before the end
  pub caught_up_before : (limits : Limits) (since : ℕ) (x : Option Read) → HasCaughtUp w limits since (Some x) now → since < w.end
  caught_up_before limits since x C =
      let read = C.made.told.0 in
      let given : HasGiven C.lease.args since C.made.steps read = C.made.told.2 in
      let asked : read.args ≡ C.lease.args = given.asked in
      let honest : IsHonest f read = present_honest read C.made.told.1 (ap (λ (a : ReadArgs). a.stream) asked ∙ C.stream) in
      let ends : end_of read.args ≡ w.end = ap end_of asked ∙ at_end C.lease.args C.end in
      let gave_it : outcome_of read.args C.lease.known limits read.steps ≡ Gives C.batch = ap (λ a. outcome_of a C.lease.known limits read.steps) asked ∙ ap (outcome_of C.lease.args C.lease.known limits) given.gave ∙ C.made.comes in
      by read honest ends given.timely gave_it read.args.token refl given.taken
    where
      at_end : (args : ReadArgs) → args.end ≡ Some w.end → end_of args ≡ w.end
      at_end args h = ap (λ o. unwrap_or o 253402300799999999) h

      by : (read : Read) → IsHonest f read → end_of read.args ≡ w.end → since ≤ read.moment → outcome_of read.args C.lease.known limits read.steps ≡ Gives C.batch → (token : Option (List ℕ)) → read.args.token ≡ token → (u : Unit {0}) × (read.opened ≡ Ok u) → since < w.end
      by read honest ends timely gives None is taken =
          let steps : HasHonestSteps f read None = subst (HasHonestSteps f read) is honest.steps in
          let u = found read.args C.lease.known limits (MayFollowFirst f read.args.start) C.moment C.batch C.ending [] none_counted read.steps steps gives in
          absurd u.1.1
      by read honest ends timely gives (Some t) is taken =
          let steps : HasHonestSteps f read (Some t) = subst (HasHonestSteps f read) is honest.steps in
          let answer : (refusal : ReadRefusal) → IsRefusedBy f read.args read.moment refusal → ⊥ = subst (IsHonestAnswer f read.args read.moment) taken.1 honest.answer in
          ⊎_elim
          (λ (p : (p : Part) × Contains f.parts p × (p.token ≡ t)).
          let u = found read.args C.lease.known limits (MayFollow f p.0 read.args.start (end_of read.args) read.moment) C.moment C.batch C.ending [] none_counted read.steps (steps p.0 p.1 p.2) gives in
          let caught : MayCatchUp f p.0 read.args.start (end_of read.args) read.moment u.0 C.moment = u.1.1 in
          let m = caught.moment in
          omega (arith, m.0, m.1, ends, timely))
          (λ (none : (p : Part) → Contains f.parts p → p.token ≢ t). absurd (answer ReadRefusal.UnknownToken (t, is, none)))
          (find_part t f.parts)

-- ---- what an honest link never does

never_judged : (rows : List Row) (r : Row) (x : Batch) (breach : Breach) → row_of rows r.token ≡ Some r → judge rows r x ≡ None → planned rows r.token x ≡ Err breach → ⊥
never_judged rows r x breach at none h = by (judge rows r x) none (ap (λ z. planned_of rows z x) (sym at) ∙ h)
  where
    by : (j : Option Breach) → j ≡ None → judged j (entry_with r x (through_by r x) (news r x)) ≡ Err breach → ⊥
    by None q k = absurd cc
    by (Some other) q k = absurd cc

module _ (f : Feed) (w : Window) (limits : Limits) (since : ℕ) (told told_now : Option Feed) (before now : Option (Option Read)) (es : List Entry) (b : Shown) (F : IsFollowed f w) (E : IsHonestFor w.stream told before) (H : IsHonestFor w.stream told_now now) (same : H.feed ≡ f) (is_window : b.window ≡ w) (of : IsBoardOf es b) (A : AreFollowing f w es) (range : IsStamp w.end) where
  all : List Row
  all = rows_of w.start es

  right : IsRight f w.start w.end all (changes es)
  unfolding all
  right = (A.consistent es [] (append-nil es)).right

  inside : (r : Row) → Contains b.rows r → Contains all (fresh r)
  unfolding all
  inside r i = subst (λ (v : Window). Contains (rows_of v.start es) (fresh r)) is_window ((of.rows (fresh r)).0 (in_map fresh r b.rows i))

  there : before ≡ Some E.read
  there = E.presents

  timely : (lease : Lease) → IsLeaseOf w b.rows lease → IsTimely f w lease.args
  timely lease l = lease_timely f w F b.rows all (changes es) right inside lease l

  refused_by : (refusal : ReadRefusal) → IsRefused w limits since before now b.rows refusal → IsRefusedRightly f w now refusal
  refused_by refusal h =
      let lease = h.0 in
      let p = subst (λ z. Presents z now (WasRefused lease.args refusal)) there h.2 in
      let read = p.0 in
      let asked : read.args ≡ lease.args = p.2.asked in
      let honest : IsHonest f read = present_honest f w told_now now H same read p.1 (ap (λ (a : ReadArgs). a.stream) asked ∙ (lease_end w b.rows lease h.1).2) in
      let answer : IsRefusedBy f read.args read.moment refusal = subst (IsHonestAnswer f read.args read.moment) p.2.refused honest.answer in
      (read, p.1, refused_rightly f w F read.args (subst (IsTimely f w) (sym asked) (timely lease h.1)) read.moment refusal answer)

  -- one whose start is kept no longer starts at the least start of those that are due, or above
  pub too_old_at : DueIsAtLow → (earliest : ℕ) → IsRefused w limits since before now b.rows (ReadRefusal.StartTooOld earliest) → IsKeptNoLonger f w b.rows now earliest
  too_old_at at_low earliest h =
      let lease = h.0 in
      let p = subst (λ z. Presents z now (WasRefused lease.args (ReadRefusal.StartTooOld earliest))) there h.2 in
      let R = refused_by (ReadRefusal.StartTooOld earliest) h in
      let one : Some (Some R.0) ≡ Some (Some p.0) = sym R.1 ∙ p.1 in
      let is : R.0 ≡ p.0 = cc in
      (R.0, R.1, R.2.0, subst (λ a. low w b.rows ≤ a.start) (sym (ap (λ (z : Read). z.args) is ∙ p.2.asked)) (lease_low w b.rows at_low lease h.1), R.2.2)

  module _ (faithful : MadeIsFaithful) where
    made_never : (lease : Lease) (outcome : ReadOutcome) → IsLeaseOf w b.rows lease → IsMade lease.args lease.known limits since before now outcome → (g : Feed) × IsFaithfulOutcome g (end_of lease.args) lease.known outcome
    made_never lease outcome l M =
        let stream : w.stream ≡ lease.args.stream = sym (lease_end w b.rows lease l).2 in
        let was : IsHonestFor lease.args.stream told before = subst (λ z. IsHonestFor z told before) stream E in
        let is : IsHonestFor lease.args.stream told_now now = subst (λ z. IsHonestFor z told_now now) stream H in
        let time = (timely lease l).late in
        let top = range.1 in
        (is.feed, faithful lease.args before now told told_now was is lease.known limits since outcome M (omega (arith, time, top)) (lease_fits f w F b.rows all (changes es) right inside lease l))

    line_never : (lease : Lease) → IsLeaseOf w b.rows lease → (breach : Breach) → IsBadLine lease.args lease.known limits since before now breach → ⊥
    line_never lease l (Breach.StampFell x y) h = h
    line_never lease l (Breach.OutOfWindow x y) h = h
    line_never lease l (Breach.HeartbeatWrong x y) h = h
    line_never lease l (Breach.BelowHeartbeat x y) h = h
    line_never lease l (Breach.AfterChildren x y) h = h
    line_never lease l (Breach.ChildStart x y) h = h
    line_never lease l (Breach.ChildDiffers x y) h = h
    line_never lease l (Breach.ParentMissing x y) h = h
    line_never lease l (Breach.InitialWrong x y) h = h
    line_never lease l (Breach.CaughtUpWrong x y) h = h
    line_never lease l (Breach.CutEarly x y) h = h
    line_never lease l (Breach.BadLine number fault) h =
        let p = subst (λ z. Presents z now (HadBadLine lease.args lease.known limits since number fault)) there h in
        let read = p.0 in
        let honest : IsHonest f read = present_honest f w told_now now H same read p.1 (ap (λ (a : ReadArgs). a.stream) p.2.asked ∙ (lease_end w b.rows lease l).2) in
        let none : None ≡ Some (number, fault) = sym honest.lines ∙ p.2.line in
        absurd cc
    line_never lease l (Breach.TooManyAtStamp x y) h = h
    line_never lease l (Breach.Orphan x y) h = h
    line_never lease l (Breach.BadRecord x y) h = h
    line_never lease l (Breach.TooManyRows x y) h = h
    line_never lease l (Breach.TooManyChildren x y) h = h

    broken_never : (breach : Breach) → IsBroken w limits since before now b.rows breach → ⊥
    broken_never breach h = ⊎_elim (λ (m : IsMade h.0.args h.0.known limits since before now (Breaks breach)). (made_never h.0 (Breaks breach) h.1 m).1) (λ (m : IsBadLine h.0.args h.0.known limits since before now breach). line_never h.0 h.1 breach m) h.2

    -- a batch that is made of a due READ makes a plan
    module _ (well : AlwaysWellFormed) (ordered : IsOrdered b.rows) where
      known : (r : Row) → Contains b.rows r → (q : Part) × Contains f.parts q × (q.from ≤ w.end) × IsBefore w.start q.until × IsRowOf w.start q r
      known r i = right.known (fresh r) (inside r i)

      within : (lease : Lease) → IsLeaseOf w b.rows lease → LeaseIsWithin lease.args lease.known
      within lease (inl h) = let order = F.in_order in subst (λ (l : Lease). LeaseIsWithin l.args l.known) (sym h.1) (record { low = omega (arith, order); first = λ none. order })
      within lease (inr h) =
          let r = fresh h.0 in
          let k = known h.0 h.1.there in
          let bound = right.bound r k.0 (inside h.0 h.1.there) k.1 k.4.0 in
          subst (λ (l : Lease). LeaseIsWithin l.args l.known) (sym h.2) (record { low = within_limit w.end h.0.through k.0.until bound.1; first = λ none. absurd cc })

      rejected_never : (breach : Breach) → IsRejected w limits since before now b.rows breach → ⊥
      unfolding all
      rejected_never breach R =
          let lease = R.0 in
          let x = R.2.0 in
          let made = R.2.1 in
          let W : IsWellFormed lease.args lease.known x = subst (IfGives (IsWellFormed lease.args lease.known)) made.comes (well lease.args lease.known limits made.steps (within lease R.1)) in
          let stream : w.stream ≡ lease.args.stream = sym (lease_end w b.rows lease R.1).2 in
          let was : IsHonestFor lease.args.stream told before = subst (λ z. IsHonestFor z told before) stream E in
          let is : IsHonestFor lease.args.stream told_now now = subst (λ z. IsHonestFor z told_now now) stream H in
          let time = (timely lease R.1).late in
          let top = range.1 in
          let faithful_is : IsFaithful is.feed (end_of lease.args) lease.known x = faithful lease.args before now told told_now was is lease.known limits since (Gives x) made (omega (arith, time, top)) (lease_fits f w F b.rows all (changes es) right inside lease R.1) in
          let feeds : is.feed ≡ f = one_feed is.feed H.feed told_now is.tells H.tells ∙ same in
          by R.1 x W (subst (λ g. IsFaithful g (end_of lease.args) lease.known x) feeds faithful_is) R.2.2 lease (lease_end w b.rows lease R.1).1
        where
          one_feed : (g h : Feed) (o : Option Feed) → o ≡ Some g → o ≡ Some h → g ≡ h
          one_feed g h o p q = let e : Some g ≡ Some h = sym p ∙ q in cc

          by : {lease : Lease} → IsLeaseOf w b.rows lease → (x : Batch) → IsWellFormed lease.args lease.known x → IsFaithful f (end_of lease.args) lease.known x → PlansOf b.rows x x.token (Err (faults.Breach breach)) → (l : Lease) → end_of lease.args ≡ w.end → ⊥
          by {lease} (inl h) x W Q plans l ends =
              let none : x.token ≡ None = W.token ∙ ap (λ (z : Lease). z.args.token) h.1 in
              let first : IsFaithfulFirst f x = subst (IsFaithfulOf f (end_of lease.args) lease.known x) none Q in
              let many : too_many b.rows x.children ≡ Some breach = subst (λ t. PlansOf b.rows x t (Err (faults.Breach breach))) none plans in
              let few = first_faithful f w F b.rows ordered known h.0 x first in
              let e : None ≡ Some breach = sym few ∙ many in
              absurd cc
          by {lease} (inr h) x W Q plans l ends =
              let r = h.0 in
              let token : x.token ≡ Some r.token = W.token ∙ ap (λ (z : Lease). z.args.token) h.2 in
              let G : IsFaithfulOf f (end_of lease.args) lease.known x (Some r.token) = subst (IsFaithfulOf f (end_of lease.args) lease.known x) token Q in
              let knows : lease.known ≡ known_by r = ap (λ (z : Lease). z.known) h.2 in
              let part : IsFaithfulPart f w.end (known_by r) G.0 x = subst (λ k. IsFaithfulPart f w.end k G.0 x) knows (subst (λ n. IsFaithfulPart f n lease.known G.0 x) ends G.3) in
              let judged = judge_faithful f w F b.rows ordered known r h.1.there G.0 G.1 (sym G.2) x part (A.own (fresh r) (inside r h.1.there)) in
              let plan : planned b.rows r.token x ≡ Err breach = subst (λ t. PlansOf b.rows x t (Err (faults.Breach breach))) token plans in
              never_judged b.rows r x breach (row_at b.rows r.token r ordered h.1.there refl) judged plan

    module _ (well : AlwaysWellFormed) (orphan : NoneIsOrphan) (ordered : IsOrdered b.rows) (free : AreFree b.rows) where
      waits_never : (row parent : List ℕ) → IsOrphan b.rows row parent → ⊥
      waits_never row parent O =
          let u = waits_for b.rows O.waiting O.first in
          let done = orphan f es b (subst (IsFollowed f) (sym is_window) F) of (subst (λ v. IsConsistent f v es) (sym is_window) A.consistent) ordered free O.none O.waiting u.0 in
          true≢false (sym done ∙ u.1)

      orphan_never : (breach : Breach) → IsOrphanBreach b.rows breach → ⊥
      orphan_never (Breach.StampFell x y) h = h
      orphan_never (Breach.OutOfWindow x y) h = h
      orphan_never (Breach.HeartbeatWrong x y) h = h
      orphan_never (Breach.BelowHeartbeat x y) h = h
      orphan_never (Breach.AfterChildren x y) h = h
      orphan_never (Breach.ChildStart x y) h = h
      orphan_never (Breach.ChildDiffers x y) h = h
      orphan_never (Breach.ParentMissing x y) h = h
      orphan_never (Breach.InitialWrong x y) h = h
      orphan_never (Breach.CaughtUpWrong x y) h = h
      orphan_never (Breach.CutEarly x y) h = h
      orphan_never (Breach.BadLine number fault) h = h
      orphan_never (Breach.TooManyAtStamp x y) h = h
      orphan_never (Breach.Orphan row parent) h = waits_never row parent h
      orphan_never (Breach.BadRecord x y) h = h
      orphan_never (Breach.TooManyRows x y) h = h
      orphan_never (Breach.TooManyChildren x y) h = h

      pub stops_rightly : (n count count_now : ℕ) (rose : Type 0) (o : Outcome) → HasCause w limits since before now n count count_now rose b.rows o → StopsRightly f w since now rose o
      stops_rightly n count count_now rose Outcome.Ended h = tt
      stops_rightly n count count_now rose Outcome.Paused h = caught_up_before f w told_now now H same limits since E.read (subst (λ z. HasCaughtUp w limits since z now) there h.1)
      stops_rightly n count count_now rose (Outcome.RetentionPassed earliest) h = refused_by (ReadRefusal.StartTooOld earliest) h
      stops_rightly n count count_now rose (Outcome.Refused refusal) h = (h.0, refused_by refusal h.1)
      stops_rightly n count count_now rose Outcome.LinkFault h = h
      stops_rightly n count count_now rose (Outcome.Breach breach) (inl h) = broken_never breach h
      stops_rightly n count count_now rose (Outcome.Breach breach) (inr (inl h)) = rejected_never well ordered breach h
      stops_rightly n count count_now rose (Outcome.Breach breach) (inr (inr h)) = orphan_never breach h
      stops_rightly n count count_now rose (Outcome.Stalled token k) h = (made_never h.0 Stalls h.1 h.4).1
      stops_rightly n count count_now rose Outcome.JournalFault h = tt
      stops_rightly n count count_now rose Outcome.OutputFault h = tt
      stops_rightly n count count_now rose (Outcome.Full length) h = tt
      stops_rightly n count count_now rose Outcome.Memory h = tt
