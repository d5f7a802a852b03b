-- The parts that tokens name.
use Rattle.std.proofs.Common.{◌≡◌, ◌⊎◌, ℕ, Bool, true, false, cond, not, List, [], ◌∷◌, Option, Some, None, is_some, inl, inr, ⊎_elim, sym, refl, ap, ◌∙◌, subst, true≢false, Contains, arith, nat_lt, ◌<◌}
use Rattle.std.specs.Cmp.Lexicographic.{nat_list_cmp_total}
use Rattle.std.proofs.lemmas.Cmp.{tied_itself}
use Rattle.std.proofs.lemmas.Map.Lookups.{exact_bytes}
use Rattle.std.specs.Ordering.{is_eq}
use Rattle.std.proofs.lemmas.Bool.Decides.{nat_tests}
use Rattle.cs_place.specs.declared.part.Part.{Part}
use Rattle.cs_partitions.specs.declared.fault.LayoutFault.TheVariants.{NoPart, NotLive}
use Rattle.cs_types.specs.Names.{is_same, is_among}
use Rattle.cs_types.specs.Members.{in_nil, in_head, in_tail, in_cons}
use Rattle.std.specs.Option.{option_or}
use Rattle.cs_partitions.specs.Reshape.{part_named, parts_named, and_then}
use Rattle.cs_partitions.specs.Fault.{unknown, ended, begin_before, unless}
use Rattle.cs_partitions.proofs.Order.{is_equal}
use Rattle.cs_partitions.proofs.Runs.{both}

pub same_is : (a b : List ℕ) → is_same a b ≡ true → a ≡ b
same_is a b h = exact_bytes a b (is_equal _ h)

pub same_itself : (a : List ℕ) → is_same a a ≡ true
same_itself a = ap is_eq (tied_itself nat_list_cmp_total a)

pub same_not : (a b : List ℕ) → is_same b a ≡ false → is_same a b ≡ false
same_not a b h = by (is_same a b) refl
  where
    by : (t : Bool) → is_same a b ≡ t → t ≡ false
    by true e = absurd (true≢false (sym (ap (λ z. is_same z a) (sym (same_is a b e)) ∙ same_itself a) ∙ h))
    by false e = refl

pub among_is : (token : List ℕ) (tokens : List (List ℕ)) → is_among token tokens ≡ true → Contains tokens token
among_is token [] h = absurd (true≢false (sym h))
among_is token (t ∷ ts) h = by (is_same t token) refl h (λ k. among_is token ts k)
  where
    by : (b : Bool) → is_same t token ≡ b → cond b true (is_among token ts) ≡ true → (is_among token ts ≡ true → Contains ts token) → Contains (t ∷ ts) token
    by true e h f = subst (λ z. Contains (z ∷ ts) token) (sym (same_is t token e)) (in_head token ts)
    by false e h f = in_tail t token ts (f h)

pub is_there : (token : List ℕ) (tokens : List (List ℕ)) → Contains tokens token → is_among token tokens ≡ true
is_there token [] i = absurd (in_nil token i)
is_there token (t ∷ ts) i = by (is_same t token) refl (in_cons t token ts i) (λ k. is_there token ts k)
  where
    by : (b : Bool) → is_same t token ≡ b → (token ≡ t) ⊎ Contains ts token → (Contains ts token → is_among token ts ≡ true) → cond b true (is_among token ts) ≡ true
    by true e h f = refl
    by false e (inl s) f = absurd (true≢false (sym (ap (λ z. is_same t z) s ∙ same_itself t) ∙ e))
    by false e (inr k) f = f k

pub named_in : (token : List ℕ) (parts : List Part) (p : Part) → part_named token parts ≡ Some p → Contains parts p × (p.token ≡ token)
named_in token [] p h = cc
named_in token (q ∷ qs) p h = by (is_same q.token token) refl h (λ k. named_in token qs p k)
  where
    by : (b : Bool) → is_same q.token token ≡ b → cond b (Some q) (part_named token qs) ≡ Some p → (part_named token qs ≡ Some p → Contains qs p × (p.token ≡ token)) → Contains (q ∷ qs) p × (p.token ≡ token)
    by true e h f =
        let s : q ≡ p = cc in
        (subst (λ z. Contains (q ∷ qs) z) s (in_head q qs), sym (ap (λ (z : Part). z.token) s) ∙ same_is q.token token e)
    by false e h f = let r = f h in (in_tail q p qs r.0, r.1)

and_then_cases : (o : Option Part) (ps : List Part) (p : Part) → Contains (and_then o ps) p → (o ≡ Some p) ⊎ Contains ps p
and_then_cases None ps p i = inr i
and_then_cases (Some q) ps p i = ⊎_elim (λ (e : p ≡ q). inl (ap Some (sym e))) (λ (k : Contains ps p). inr k) (in_cons q p ps i)

-- each of the named parts is one of the parts, and its token is one of the tokens
pub named_are : (tokens : List (List ℕ)) (parts : List Part) (p : Part) → Contains (parts_named tokens parts) p → Contains parts p × Contains tokens p.token
named_are [] parts p i = absurd (in_nil p i)
named_are (t ∷ ts) parts p i =
    ⊎_elim
    (λ (e : part_named t parts ≡ Some p). let r = named_in t parts p e in (r.0, subst (λ z. Contains (t ∷ ts) z) (sym r.1) (in_head t ts)))
    (λ (k : Contains (parts_named ts parts) p). let r = named_are ts parts p k in (r.0, in_tail t p.token ts r.1))
    (and_then_cases (part_named t parts) (parts_named ts parts) p i)

-- where no token is unknown, each token is that of a named part
pub token_named : (tokens : List (List ℕ)) (parts : List Part) → unknown parts tokens ≡ None → (t : List ℕ) → Contains tokens t → (p : Part) × Contains (parts_named tokens parts) p × (p.token ≡ t)
token_named [] parts h t i = absurd (in_nil t i)
token_named (s ∷ ts) parts h t i = by (part_named s parts) refl h (λ k j. token_named ts parts k t j)
  where
    by : (o : Option Part) → part_named s parts ≡ o → option_or (unless (is_some o) (NoPart s)) (unknown parts ts) ≡ None
        → (unknown parts ts ≡ None → Contains ts t → (p : Part) × Contains (parts_named ts parts) p × (p.token ≡ t))
        → (p : Part) × Contains (and_then o (parts_named ts parts)) p × (p.token ≡ t)
    by None e h f = cc
    by (Some q) e h f =
        ⊎_elim
        (λ (k : t ≡ s). (q, in_head q (parts_named ts parts), (named_in s parts q e).1 ∙ sym k))
        (λ (k : Contains ts t). let r = f h k in (r.0, in_tail q r.0 (parts_named ts parts) r.1, r.2))
        (in_cons s t ts i)

pub none_ended : (ps : List Part) → ended ps ≡ None → (p : Part) → Contains ps p → p.until ≡ None
none_ended [] h p i = absurd (in_nil p i)
none_ended (q ∷ qs) h p i = by q.until refl h (λ n k. none_ended qs n p k)
  where
    by : (o : Option ℕ) → q.until ≡ o → option_or (unless (not (is_some o)) (NotLive q.token)) (ended qs) ≡ None → (ended qs ≡ None → Contains qs p → p.until ≡ None) → p.until ≡ None
    by (Some u) e h f = cc
    by None e h f =
        ⊎_elim
        (λ (s : p ≡ q). ap (λ (z : Part). z.until) s ∙ e)
        (λ (k : Contains qs p). f h k)
        (in_cons q p qs i)

lt_is : (a b : ℕ) → nat_lt a b ≡ true → a < b
lt_is a b h = grind (arith, nat_tests)

pub all_before : (at : ℕ) (ps : List Part) → begin_before at ps ≡ true → (p : Part) → Contains ps p → p.from < at
all_before at [] h p i = absurd (in_nil p i)
all_before at (q ∷ qs) h p i =
    let h2 = both (nat_lt q.from at) (begin_before at qs) h in
    ⊎_elim
    (λ (s : p ≡ q). subst (λ (z : Part). z.from < at) (sym s) (lt_is q.from at h2.0))
    (λ (k : Contains qs p). all_before at qs h2.1 p k)
    (in_cons q p qs i)

-- the parts of a list are told apart by their tokens, so a token leads to its part
pub named_itself : (parts : List Part) (p : Part) → ((a b : Part) → Contains parts a → Contains parts b → a.token ≡ b.token → a ≡ b) → Contains parts p → part_named p.token parts ≡ Some p
named_itself [] p one i = absurd (in_nil p i)
named_itself (q ∷ qs) p one i = by (is_same q.token p.token) refl (λ k. named_itself qs p (λ a b ia ib. one a b (in_tail q a qs ia) (in_tail q b qs ib)) k)
  where
    by : (b : Bool) → is_same q.token p.token ≡ b → (Contains qs p → part_named p.token qs ≡ Some p) → cond b (Some q) (part_named p.token qs) ≡ Some p
    by true e f = ap Some (one q p (in_head q qs) i (same_is q.token p.token e))
    by false e f =
        ⊎_elim
        (λ (s : p ≡ q). absurd (true≢false (sym (ap (λ (z : Part). is_same q.token z.token) s ∙ same_itself q.token) ∙ e)))
        (λ (k : Contains qs p). f k)
        (in_cons q p qs i)
