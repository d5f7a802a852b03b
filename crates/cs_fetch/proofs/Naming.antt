-- The loop over the children of a record.
use Rattle.std.proofs.Common.{◌≡◌, ℕ, ◌+◌, ◌<◌, Bool, true, false, not, cond, ◌||◌, List, [], ◌∷◌, ◌++◌, map, take, drop, length, get_or, Option, Some, None, is_some, refl, ap, ◌∙◌, sym, true≢false}
use Rattle.std.specs.List.{list_any}
use Rattle.std.specs.Option.{option_or}
use Rattle.std.proofs.lemmas.List.{drop_more, map-append}
use Rattle.cs_records.specs.declared.records.Child.{Child}
use Rattle.cs_link.specs.declared.batch.NewChild.{NewChild}
use Rattle.cs_fetch.specs.declared.listing.Listed.{Listed}
use Rattle.cs_fetch.specs.Breach.{only_if, are_same, differ, first_differing}
use Rattle.cs_fetch.specs.Keeping.{parents_of, is_listed, keep_children, has_new_child}
use Rattle.cs_link.specs.Reading.{new_child}
use Rattle.cs_fetch.specs.Taking.{listed_of, is_new, is_differing}
use Rattle.cs_fetch.proofs.Sets.{take_next}

pub keep_more : (kept xs ys : List NewChild) → keep_children kept (xs ++ ys) ≡ keep_children (keep_children kept xs) ys
keep_more kept [] ys = refl
keep_more kept (x ∷ xs) ys = keep_more (cond (is_listed kept x.token) kept (kept ++ x ∷ [])) xs ys

drop_next : {X : Type 0} (xs : List X) (i : ℕ) (x : X) → x ≡ get_or xs i x → i < length xs → drop i xs ≡ x ∷ drop (i + 1) xs
drop_next xs i x is lt = drop_more xs i x lt ∙ ap (λ y. y ∷ drop (i + 1) xs) (sym is)

any_more : (p : Child → Bool) (cs : List Child) (c : Child) → list_any p (cs ++ c ∷ []) ≡ (list_any p cs || p c)
any_more p [] c = by (p c)
  where
    by : (b : Bool) → (b || false) ≡ b
    by true = refl
    by false = refl
any_more p (x ∷ cs) c = ap (λ z. p x || z) (any_more p cs c) ∙ by (p x) (list_any p cs) (p c)
  where
    by : (a b d : Bool) → (a || (b || d)) ≡ ((a || b) || d)
    by true b d = refl
    by false b d = refl

keep_nothing : (start : ℕ) (kept : List NewChild) (cs : List Child) → has_new_child kept cs ≡ false → keep_children kept (map (new_child start) cs) ≡ kept
keep_nothing start kept [] h = refl
keep_nothing start kept (c ∷ cs) h = by (is_listed kept c.token) (keep_nothing start kept cs) h
  where
    by : (b : Bool) → (has_new_child kept cs ≡ false → keep_children kept (map (new_child start) cs) ≡ kept) → (not b || has_new_child kept cs) ≡ false → keep_children (cond b kept (kept ++ new_child start c ∷ [])) (map (new_child start) cs) ≡ kept
    by true again g = again g
    by false again g = absurd (true≢false g)

pub listed_step : (start : ℕ) (old before after : List NewChild) (cs : List Child) (i : ℕ) (c : Child) → c ≡ get_or cs i c → i < length cs → before ≡ keep_children old (map (new_child start) (take i cs))
    → after ≡ keep_children before (new_child start c ∷ []) → after ≡ keep_children old (map (new_child start) (take (i + 1) cs))
listed_step start old before after cs i c is lt b a =
    a ∙ ap (λ l. keep_children l (new_child start c ∷ [])) b ∙ sym (keep_more old (map (new_child start) (take i cs)) (new_child start c ∷ []))
    ∙ ap (keep_children old) (sym (map-append (new_child start) (take i cs) (c ∷ []))) ∙ ap (λ l. keep_children old (map (new_child start) l)) (sym (take_next cs i c is lt))

new_is : (o : Option (List (List ℕ))) (ps : List (List ℕ)) → is_new (listed_of o ps) ≡ not (is_some o)
new_is None ps = refl
new_is (Some e) ps = by (are_same e ps)
  where
    by : (b : Bool) → is_new (cond b Listed.Same Listed.Differs) ≡ false
    by true = refl
    by false = refl

differing_is : (o : Option (List (List ℕ))) (ps : List (List ℕ)) → is_differing (listed_of o ps) ≡ differ o ps
differing_is None ps = refl
differing_is (Some e) ps = by (are_same e ps)
  where
    by : (b : Bool) → is_differing (cond b Listed.Same Listed.Differs) ≡ not b
    by true = refl
    by false = refl

pub some_step : (start : ℕ) (old before : List NewChild) (cs : List Child) (i : ℕ) (c : Child) (listed : Listed) (some new now : Bool) → c ≡ get_or cs i c → i < length cs → before ≡ keep_children old (map (new_child start) (take i cs))
    → some ≡ has_new_child old (take i cs) → listed ≡ listed_of (parents_of c.token before) c.parents → new ≡ is_new listed → now ≡ (some || new) → now ≡ has_new_child old (take (i + 1) cs)
some_step start old before cs i c listed some new now is lt b s l n o =
    o ∙ by (has_new_child old (take i cs)) refl ∙ sym (any_more (λ x. not (is_listed old x.token)) (take i cs) c) ∙ ap (has_new_child old) (sym (take_next cs i c is lt))
  where
    new_here : new ≡ not (is_listed before c.token)
    new_here = n ∙ ap is_new l ∙ new_is (parents_of c.token before) c.parents

    by : (z : Bool) → has_new_child old (take i cs) ≡ z → (some || new) ≡ (has_new_child old (take i cs) || not (is_listed old c.token))
    by true h = ap (λ z. z || new) (s ∙ h) ∙ sym (ap (λ z. z || not (is_listed old c.token)) h)
    by false h = ap (λ z. z || new) s ∙ ap (λ z. has_new_child old (take i cs) || z) (new_here ∙ ap (λ k. not (is_listed k c.token)) (b ∙ keep_nothing start old (take i cs) h))

pub differing_step : (start : ℕ) (old before after : List NewChild) (cs : List Child) (i : ℕ) (c : Child) (listed : Listed) (had now : Option (List ℕ)) → c ≡ get_or cs i c → i < length cs
    → option_or had (first_differing before start (drop i cs)) ≡ first_differing old start cs → listed ≡ listed_of (parents_of c.token before) c.parents
    → after ≡ keep_children before (new_child start c ∷ []) → now ≡ option_or had (only_if (is_differing listed) c.token) → option_or now (first_differing after start (drop (i + 1) cs)) ≡ first_differing old start cs
differing_step start old before after cs i c listed had now is lt h l a n =
    ap (λ z. option_or z (first_differing after start (drop (i + 1) cs))) (n ∙ ap (λ b. option_or had (only_if b c.token)) (ap is_differing l ∙ differing_is (parents_of c.token before) c.parents))
    ∙ by had (differ (parents_of c.token before) c.parents) (first_differing after start (drop (i + 1) cs))
    ∙ ap (λ z. option_or had (cond (differ (parents_of c.token before) c.parents) (Some c.token) (first_differing z start (drop (i + 1) cs)))) a
    ∙ ap (λ z. option_or had (first_differing before start z)) (sym (drop_next cs i c is lt)) ∙ h
  where
    by : (o : Option (List ℕ)) (b : Bool) (rest : Option (List ℕ)) → option_or (option_or o (only_if b c.token)) rest ≡ option_or o (cond b (Some c.token) rest)
    by None true rest = refl
    by None false rest = refl
    by (Some t) b rest = refl
