-- Whether a change is new, by what the sets answer.
use Rattle.std.proofs.Common.{◌≡◌, ℕ, suc, ◌+◌, ◌<◌, Bool, true, false, not, cond, ◌||◌, ◌&&◌, List, [], ◌∷◌, ◌++◌, take, length, get_or, refl, ap, ◌∙◌, sym, arith, is_eq, eqb, true≢false}
use Rattle.std.specs.List.{list_any}
use Rattle.std.proofs.lemmas.Bool.{lt-leb, eq-eqb}
use Rattle.cs_types.specs.declared.change.Change.{Change}
use Rattle.cs_link.specs.declared.batch.Known.{Known}
use Rattle.cs_link.specs.declared.batch.Seen.{Seen}
use Rattle.cs_fetch.specs.declared.dated.Dated.{Dated}
use Rattle.cs_link.specs.Batch.{is_known, seen_cmp}
use Rattle.cs_fetch.specs.Keeping.{dated, dated_cmp, is_kept, is_new, keep, has_new}
use Rattle.cs_fetch.specs.Sets.{is_known_by}
use Rattle.cs_fetch.proofs.Sets.{take_next}

pub known_else : (through : ℕ) (seen : List Seen) (d : Dated) (b : Bool) → through < d.stamp → d.stamp ≡ through + 1 → b ≡ list_any (λ s. is_eq (seen_cmp d.seen s)) seen → b ≡ is_known_by through seen d
known_else through seen d b l e s =
    s ∙ sym (ap (λ z. z || (eqb d.stamp (suc through) && list_any (λ s. is_eq (seen_cmp d.seen s)) seen)) (lt-leb d.stamp through l)
    ∙ ap (λ z. z && list_any (λ s. is_eq (seen_cmp d.seen s)) seen) (eq-eqb d.stamp (suc through) (omega (arith, e))))

or_true : (a : Bool) → not (a || true) ≡ false
or_true true = refl
or_true false = refl

pub not_new : (known : Known) (kept xs : List Change) (c : Change) (n : Dated) (b : Bool) → n ≡ dated c → kept ≡ xs → b ≡ list_any (λ d. is_eq (dated_cmp n (dated d))) xs → b ≡ true → is_new known kept c ≡ false
not_new known kept xs c n b s t u v =
    ap (λ z. not (is_known known c || z)) (ap (λ l. is_kept l c) t ∙ ap (λ m. list_any (λ d. is_eq (dated_cmp m (dated d))) xs) (sym s) ∙ sym u ∙ v) ∙ or_true (is_known known c)

pub newly : (known : Known) (seen : List Seen) (kept xs : List Change) (c : Change) (n : Dated) (a b : Bool) → n ≡ dated c → seen ≡ known.seen → kept ≡ xs
    → a ≡ is_known_by known.through seen n → a ≡ false → b ≡ list_any (λ d. is_eq (dated_cmp n (dated d))) xs → b ≡ false → is_new known kept c ≡ true
newly known seen kept xs c n a b s t u g h v w =
    let known_not : is_known known c ≡ false = ap (λ l. is_known_by known.through l (dated c)) (sym t) ∙ ap (is_known_by known.through seen) (sym s) ∙ sym g ∙ h in
    let kept_not : is_kept kept c ≡ false = ap (λ l. is_kept l c) u ∙ ap (λ m. list_any (λ d. is_eq (dated_cmp m (dated d))) xs) (sym s) ∙ sym v ∙ w in
    ap (λ z. not (z || is_kept kept c)) known_not ∙ ap not kept_not

-- ---- one more change

pub keep_more : (known : Known) (kept cs : List Change) (c : Change) → keep known kept (cs ++ c ∷ []) ≡ cond (is_new known (keep known kept cs) c) (keep known kept cs ++ c ∷ []) (keep known kept cs)
keep_more known kept [] c = refl
keep_more known kept (x ∷ cs) c = keep_more known (cond (is_new known kept x) (kept ++ x ∷ []) kept) cs c

any_more : (p : Change → Bool) (cs : List Change) (c : Change) → list_any p (cs ++ c ∷ []) ≡ (list_any p cs || p c)
any_more p [] c = by (p c)
  where
    by : (b : Bool) → (b || false) ≡ b
    by true = refl
    by false = refl
any_more p (x ∷ cs) c = ap (λ z. p x || z) (any_more p cs c) ∙ by (p x) (list_any p cs) (p c)
  where
    by : (a b d : Bool) → (a || (b || d)) ≡ ((a || b) || d)
    by true b d = refl
    by false b d = refl

keep_nothing : (known : Known) (kept cs : List Change) → has_new known kept cs ≡ false → keep known kept cs ≡ kept
keep_nothing known kept [] h = refl
keep_nothing known kept (c ∷ cs) h = by (is_new known kept c) (keep_nothing known kept cs) h
  where
    by : (b : Bool) → (has_new known kept cs ≡ false → keep known kept cs ≡ kept) → (b || has_new known kept cs) ≡ false → keep known (cond b (kept ++ c ∷ []) kept) cs ≡ kept
    by true again g = absurd (true≢false g)
    by false again g = again g

pub new_more : (known : Known) (kept cs : List Change) (c : Change) (some new : Bool) → some ≡ has_new known kept cs → new ≡ is_new known (keep known kept cs) c → (some || new) ≡ has_new known kept (cs ++ c ∷ [])
new_more known kept cs c some new s n = by (has_new known kept cs) refl ∙ sym (any_more (is_new known kept) cs c)
  where
    by : (b : Bool) → has_new known kept cs ≡ b → (some || new) ≡ (has_new known kept cs || is_new known kept c)
    by true h = ap (λ z. z || new) (s ∙ h) ∙ sym (ap (λ z. z || is_new known kept c) h)
    by false h = ap (λ z. z || new) s ∙ ap (λ z. has_new known kept cs || z) (n ∙ ap (λ l. is_new known l c) (keep_nothing known kept cs h))

-- ---- the loop over changes

pub kept_step : (known : Known) (old cs before after : List Change) (i : ℕ) (c : Change) → c ≡ get_or cs i c → i < length cs → before ≡ keep known old (take i cs)
    → after ≡ cond (is_new known before c) (before ++ c ∷ []) before → after ≡ keep known old (take (i + 1) cs)
kept_step known old cs before after i c is lt b a =
    a ∙ ap (λ l. cond (is_new known l c) (l ++ c ∷ []) l) b ∙ sym (keep_more known old (take i cs) c) ∙ ap (keep known old) (sym (take_next cs i c is lt))

pub some_step : (known : Known) (old cs before : List Change) (i : ℕ) (c : Change) (some new now : Bool) → c ≡ get_or cs i c → i < length cs → before ≡ keep known old (take i cs)
    → some ≡ has_new known old (take i cs) → new ≡ is_new known before c → now ≡ (some || new) → now ≡ has_new known old (take (i + 1) cs)
some_step known old cs before i c some new now is lt b s n o =
    o ∙ new_more known old (take i cs) c some new s (n ∙ ap (λ l. is_new known l c) b) ∙ ap (has_new known old) (sym (take_next cs i c is lt))
