-- The first refusal is right, and where there is none nothing refuses.
use Rattle.std.proofs.Common.{◌≡◌, ◌≢◌, ◌⊎◌, ℕ, ◌-◌, ◌<◌, Bool, true, false, ◌||◌, cond, nat_le, nat_lt, List, [], ◌∷◌, Option, None, Some, ⊎_elim, inl, inr, refl, sym, ap, ◌∙◌, subst, arith, Contains, true≢false}
use Rattle.std.specs.Option.{option_or}
use Rattle.std.proofs.lemmas.Bool.{or_cases, or_parts, ltb-true, ltb-false, leb-true, leb-false}
use Rattle.cs_place.specs.declared.part.Part.{Part}
use Rattle.cs_place.specs.Layout.{IsSoundLayout}
use Rattle.cs_types.specs.Names.{is_same}
use Rattle.cs_types.specs.Exact.{same_name-is}
use Rattle.cs_types.specs.Members.{in_nil, in_head, in_tail, in_cons}
use Rattle.cs_partitions.specs.Reshape.{part_named}
use Rattle.cs_link.specs.declared.feed.Feed.{Feed}
use Rattle.cs_link.specs.declared.reading.ReadArgs.{ReadArgs}
use Rattle.cs_link.specs.declared.refusal.ReadRefusal.{ReadRefusal}
use Rattle.cs_link.specs.Refusal.{IsAskedFor, IsRefusedBy}
use Rattle.cs_steps.specs.Refusals.{ends_before, time_refusal, past_refusal, part_refusal, found_refusal, token_refusal, first_refusal, FirstIsRight, NoneIsRight}
use Rattle.cs_steps.proofs.Premises.{TokensNameParts}

-- ---- the part of a token

named_none : (token : List ℕ) (parts : List Part) → part_named token parts ≡ None → (p : Part) → Contains parts p → p.token ≢ token
named_none token [] h p i e = in_nil p i
named_none token (q ∷ qs) h p i e = by (is_same q.token token) refl h (λ k j. named_none token qs k p j e)
  where
    by : (b : Bool) → is_same q.token token ≡ b → cond b (Some q) (part_named token qs) ≡ None → (part_named token qs ≡ None → Contains qs p → ⊥) → ⊥
    by true t k f = cc
    by false t k f = ⊎_elim
        (λ (s : p ≡ q). true≢false (sym ((same_name-is q.token token).1 (sym (ap (λ (z : Part). z.token) s) ∙ e)) ∙ t))
        (f k)
        (in_cons q p qs i)

named_some : (token : List ℕ) (parts : List Part) (p : Part) → part_named token parts ≡ Some p → Contains parts p × (p.token ≡ token)
named_some token [] p h = cc
named_some token (q ∷ qs) p h = by (is_same q.token token) refl h (named_some token qs p)
  where
    some_same : (a b : Part) → Some a ≡ Some b → a ≡ b
    some_same a b e = cc

    by : (b : Bool) → is_same q.token token ≡ b → cond b (Some q) (part_named token qs) ≡ Some p → (part_named token qs ≡ Some p → Contains qs p × (p.token ≡ token)) → Contains (q ∷ qs) p × (p.token ≡ token)
    by true t k f = let s = some_same q p k in (subst (Contains (q ∷ qs)) s (in_head q qs), subst (λ (z : Part). z.token ≡ token) s ((same_name-is q.token token).0 t))
    by false t k f = let r = f k in (in_tail q p qs r.0, r.1)

same_refusal : (a b : ReadRefusal) → Some a ≡ Some b → a ≡ b
same_refusal a b e = cc

-- ---- the first is right

module _ (f : Feed) (args : ReadArgs) (moment : ℕ) where
  abbrev R : ReadRefusal → Type 0
  R e = IsRefusedBy f args moment e

  is_it : (a e : ReadRefusal) → R a → Some a ≡ Some e → R e
  is_it a e h k = subst R (same_refusal a e k) h

  end_right : (o : Option ℕ) → args.end ≡ o → ends_before o args.start ≡ true → (end : ℕ) × (args.end ≡ Some end) × (end < args.start)
  end_right None e h = absurd (true≢false (sym h))
  end_right (Some end) e h = (end, e, ltb-true end args.start h)

  past_right : (p : Part) → IsAskedFor f args p → (o : Option ℕ) → p.until ≡ o → (e : ReadRefusal) → past_refusal o args.start ≡ Some e → R e
  past_right p a None s e h = cc
  past_right p a (Some u) s e h = by (nat_le u args.start) refl h
    where
      by : (b : Bool) → nat_le u args.start ≡ b → cond b (Some (ReadRefusal.StartPastPartition u)) None ≡ Some e → R e
      by true t k = is_it (ReadRefusal.StartPastPartition u) e (p, a, s, leb-true u args.start t) k
      by false t k = cc

  part_right : (p : Part) → IsAskedFor f args p → (e : ReadRefusal) → part_refusal p args.start ≡ Some e → R e
  part_right p a e h = by (nat_lt args.start p.from) refl h
    where
      by : (b : Bool) → nat_lt args.start p.from ≡ b → cond b (Some (ReadRefusal.StartBeforePartition p.from)) (past_refusal p.until args.start) ≡ Some e → R e
      by true t k = is_it (ReadRefusal.StartBeforePartition p.from) e (p, a, refl, ltb-true args.start p.from t) k
      by false t k = past_right p a p.until refl e k

  found_right : (token : List ℕ) → args.token ≡ Some token → (o : Option Part) → part_named token f.parts ≡ o → (e : ReadRefusal) → found_refusal o args.start ≡ Some e → R e
  found_right token t None n e h = is_it ReadRefusal.UnknownToken e (token, t, named_none token f.parts n) h
  found_right token t (Some p) n e h = let u = named_some token f.parts p n in part_right p (record { there = u.0; token = t ∙ ap Some (sym u.1) }) e h

  token_right : (o : Option (List ℕ)) → args.token ≡ o → (e : ReadRefusal) → token_refusal f.parts o args.start ≡ Some e → R e
  token_right None t e h = cc
  token_right (Some token) t e h = found_right token t (part_named token f.parts) refl e h

  abbrev rest : Option ReadRefusal
  rest = token_refusal f.parts args.token args.start

  right_5 : (b : Bool) → nat_lt moment args.start ≡ b → (e : ReadRefusal) → option_or (cond b (Some (ReadRefusal.StartInFuture moment)) None) rest ≡ Some e → R e
  right_5 true t e h = is_it (ReadRefusal.StartInFuture moment) e (refl, ltb-true moment args.start t) h
  right_5 false t e h = token_right args.token refl e h

  right_4 : (b : Bool) → nat_lt args.start (moment - f.retention_us) ≡ b → (e : ReadRefusal) → option_or (cond b (Some (ReadRefusal.StartTooOld (moment - f.retention_us))) (cond (nat_lt moment args.start) (Some (ReadRefusal.StartInFuture moment)) None)) rest ≡ Some e → R e
  right_4 true t e h = is_it (ReadRefusal.StartTooOld (moment - f.retention_us)) e (refl, ltb-true args.start (moment - f.retention_us) t) h
  right_4 false t e h = right_5 (nat_lt moment args.start) refl e h

  abbrev from_4 : Option ReadRefusal
  from_4 = cond (nat_lt args.start (moment - f.retention_us)) (Some (ReadRefusal.StartTooOld (moment - f.retention_us))) (cond (nat_lt moment args.start) (Some (ReadRefusal.StartInFuture moment)) None)

  right_3 : (b : Bool) → nat_lt args.start f.created ≡ b → (e : ReadRefusal) → option_or (cond b (Some ReadRefusal.StartBeforeCreation) from_4) rest ≡ Some e → R e
  right_3 true t e h = is_it ReadRefusal.StartBeforeCreation e (ltb-true args.start f.created t) h
  right_3 false t e h = right_4 (nat_lt args.start (moment - f.retention_us)) refl e h

  abbrev from_3 : Option ReadRefusal
  from_3 = cond (nat_lt args.start f.created) (Some ReadRefusal.StartBeforeCreation) from_4

  right_2 : (b : Bool) → ends_before args.end args.start ≡ b → (e : ReadRefusal) → option_or (cond b (Some ReadRefusal.EndBeforeStart) from_3) rest ≡ Some e → R e
  right_2 true t e h = is_it ReadRefusal.EndBeforeStart e (end_right args.end refl t) h
  right_2 false t e h = right_3 (nat_lt args.start f.created) refl e h

  abbrev from_2 : Option ReadRefusal
  from_2 = cond (ends_before args.end args.start) (Some ReadRefusal.EndBeforeStart) from_3

  beats_right : (nat_lt args.heartbeat_ms 1000 || nat_lt 300000 args.heartbeat_ms) ≡ true → (args.heartbeat_ms < 1000) ⊎ (300000 < args.heartbeat_ms)
  beats_right t = ⊎_elim (λ x. inl (ltb-true args.heartbeat_ms 1000 x)) (λ x. inr (ltb-true 300000 args.heartbeat_ms x)) (or_cases (nat_lt args.heartbeat_ms 1000) (nat_lt 300000 args.heartbeat_ms) t)

  right_1 : (b : Bool) → (nat_lt args.heartbeat_ms 1000 || nat_lt 300000 args.heartbeat_ms) ≡ b → (e : ReadRefusal) → option_or (cond b (Some ReadRefusal.Heartbeat) from_2) rest ≡ Some e → R e
  right_1 true t e h = is_it ReadRefusal.Heartbeat e (beats_right t) h
  right_1 false t e h = right_2 (ends_before args.end args.start) refl e h

pub first_right : FirstIsRight
first_right f args moment e h = right_1 f args moment (nat_lt args.heartbeat_ms 1000 || nat_lt 300000 args.heartbeat_ms) refl e h

-- ---- where there is none

none_of : (b : Bool) (e : ReadRefusal) (o : Option ReadRefusal) → cond b (Some e) o ≡ None → (b ≡ false) × (o ≡ None)
none_of true e o h = cc
none_of false e o h = (refl, h)

neither : (o p : Option ReadRefusal) → option_or o p ≡ None → (o ≡ None) × (p ≡ None)
neither None p h = (refl, h)
neither (Some e) p h = cc

module _ (L : TokensNameParts) (f : Feed) (args : ReadArgs) (moment : ℕ) (S : IsSoundLayout f.created f.parts) (h : first_refusal f args moment ≡ None) where
  both : (time_refusal args f.created f.retention_us moment ≡ None) × (token_refusal f.parts args.token args.start ≡ None)
  both = neither (time_refusal args f.created f.retention_us moment) (token_refusal f.parts args.token args.start) h

  no_1 : ((nat_lt args.heartbeat_ms 1000 || nat_lt 300000 args.heartbeat_ms) ≡ false) × (from_2 f args moment ≡ None)
  no_1 = none_of (nat_lt args.heartbeat_ms 1000 || nat_lt 300000 args.heartbeat_ms) ReadRefusal.Heartbeat (from_2 f args moment) both.0

  no_2 : (ends_before args.end args.start ≡ false) × (from_3 f args moment ≡ None)
  no_2 = none_of (ends_before args.end args.start) ReadRefusal.EndBeforeStart (from_3 f args moment) no_1.1

  no_3 : (nat_lt args.start f.created ≡ false) × (from_4 f args moment ≡ None)
  no_3 = none_of (nat_lt args.start f.created) ReadRefusal.StartBeforeCreation (from_4 f args moment) no_2.1

  no_4 : (nat_lt args.start (moment - f.retention_us) ≡ false) × (cond (nat_lt moment args.start) (Some (ReadRefusal.StartInFuture moment)) None ≡ None)
  no_4 = none_of (nat_lt args.start (moment - f.retention_us)) (ReadRefusal.StartTooOld (moment - f.retention_us)) _ no_3.1

  no_5 : nat_lt moment args.start ≡ false
  no_5 = (none_of (nat_lt moment args.start) (ReadRefusal.StartInFuture moment) None no_4.1).0

  -- the part that the arguments name refuses nothing
  no_part : (p : Part) → IsAskedFor f args p → part_refusal p args.start ≡ None
  no_part p a = by (part_named p.token f.parts) refl (subst (λ o. token_refusal f.parts o args.start ≡ None) a.token both.1)
    where
      by : (o : Option Part) → part_named p.token f.parts ≡ o → found_refusal o args.start ≡ None → part_refusal p args.start ≡ None
      by None e k = cc
      by (Some q) e k =
          let u = named_some p.token f.parts q e in
          subst (λ (x : Part). part_refusal x args.start ≡ None) (L f.created f.parts S q p u.0 a.there u.1) k

  no_token : (token : List ℕ) → args.token ≡ Some token → ((p : Part) → Contains f.parts p → p.token ≢ token) → ⊥
  no_token token t none = by (part_named token f.parts) refl (subst (λ o. token_refusal f.parts o args.start ≡ None) t both.1)
    where
      by : (o : Option Part) → part_named token f.parts ≡ o → found_refusal o args.start ≡ None → ⊥
      by None e k = cc
      by (Some q) e k = let u = named_some token f.parts q e in none q u.0 u.1

  past_none : (u : ℕ) (o : Option ℕ) → o ≡ Some u → past_refusal o args.start ≡ None → args.start < u
  past_none u o e k = leb-false u args.start (none_of (nat_le u args.start) (ReadRefusal.StartPastPartition u) None (subst (λ x. past_refusal x args.start ≡ None) e k)).0

  none_holds : (e : ReadRefusal) → IsRefusedBy f args moment e → ⊥
  none_holds ReadRefusal.UnknownFunction r = r
  none_holds (ReadRefusal.ArgumentType name) r = r
  none_holds (ReadRefusal.ArgumentMissing name) r = r
  none_holds ReadRefusal.ReadOptions r = r
  none_holds ReadRefusal.Heartbeat r =
      let u = or_parts (nat_lt args.heartbeat_ms 1000) (nat_lt 300000 args.heartbeat_ms) no_1.0 in
      let a = ltb-false args.heartbeat_ms 1000 u.0 in
      let b = ltb-false 300000 args.heartbeat_ms u.1 in
      ⊎_elim (λ (x : args.heartbeat_ms < 1000). omega (arith, a)) (λ (x : 300000 < args.heartbeat_ms). omega (arith, b)) r
  none_holds ReadRefusal.EndBeforeStart r =
      let a = ltb-false r.0 args.start (subst (λ o. ends_before o args.start ≡ false) r.1 no_2.0) in
      let b = r.2 in
      omega (arith, a, b)
  none_holds ReadRefusal.StartBeforeCreation r = let a = ltb-false args.start f.created no_3.0 in omega (arith, a, r)
  none_holds (ReadRefusal.StartTooOld earliest) r = let a = ltb-false args.start (moment - f.retention_us) no_4.0 in let b = r.0 in let d = r.1 in omega (arith, a, b, d)
  none_holds (ReadRefusal.StartInFuture at) r = let a = ltb-false moment args.start no_5 in let b = r.0 in let d = r.1 in omega (arith, a, b, d)
  none_holds ReadRefusal.UnknownToken r = no_token r.0 r.1 r.2
  none_holds (ReadRefusal.StartBeforePartition from) r =
      let a = ltb-false args.start r.0.from (none_of (nat_lt args.start r.0.from) (ReadRefusal.StartBeforePartition r.0.from) (past_refusal r.0.until args.start) (no_part r.0 r.1)).0 in
      let b = r.2 in
      let d = r.3 in
      omega (arith, a, b, d)
  none_holds (ReadRefusal.StartPastPartition until) r =
      let a = past_none until r.0.until r.2 (none_of (nat_lt args.start r.0.from) (ReadRefusal.StartBeforePartition r.0.from) (past_refusal r.0.until args.start) (no_part r.0 r.1)).1 in
      let b = r.3 in
      omega (arith, a, b)
  none_holds (ReadRefusal.Syntax place) r = r
  none_holds (ReadRefusal.Wire status) r = r

pub none_right : TokensNameParts → NoneIsRight
none_right L f args moment S h e r = none_holds L f args moment S h e r
