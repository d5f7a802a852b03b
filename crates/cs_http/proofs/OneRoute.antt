use Rattle.std.proofs.Common.{◌≡◌, ◌∙◌, refl, sym, ap, subst, ℕ, List, [], ◌∷◌, Some, None, cond, Bool, true, false, ◌==◌, zero, suc, ◌-◌, ◌&&◌, not, length, is_some}
use Rattle.std.specs.declared.option.Option.{Option}
use Rattle.std.specs.Cmp.Lexicographic.{pointwise}
use Rattle.std.specs.Str.{bytes_eq}
use Rattle.matchit.specs.Rows.{RowsOf, param_token, catch_all_token}
use Rattle.matchit.specs.Seek.{seek, step, own, or_else, first, param_step, has_slash}

param_none : {K : Type 0} (path : List ℕ) → (param_step {K = K} [] path).1 ≡ []
unfolding param_step
param_none {K} path = elim (has_slash path) as (λ c. (cond {A = ℕ × RowsOf K} c (0, []) (length path, [])).1 ≡ []) [ true ↦ refl | false ↦ refl ]

-- no rows, no route
pub seek_none : {K : Type 0} (skip : ℕ) (path : List ℕ) → seek {K = K} skip [] path ≡ None
unfolding seek
seek_none skip [] = refl
seek_none (suc skip) (b ∷ path) = seek_none skip path
seek_none {K} zero (b ∷ path) =
    ap (λ o. or_else o (or_else (seek ((param_step {K = K} [] (b ∷ path)).0 - 1) (param_step {K = K} [] (b ∷ path)).1 path) None)) (seek_none 0 path)
    ∙ ap (λ rs. or_else (seek ((param_step {K = K} [] (b ∷ path)).0 - 1) rs path) None) (param_none (b ∷ path))
    ∙ ap (λ o. or_else o None) (seek_none ((param_step {K = K} [] (b ∷ path)).0 - 1) path)

-- a route of plain bytes
abbrev pub plain : List ℕ → Bool
plain [] = true
plain (x ∷ t) = not (x == param_token) && (not (x == catch_all_token) && plain t)

or_none : {K : Type 0} (o : Option K) → or_else o None ≡ o
or_none None = refl
or_none (Some k) = refl

rest_none : {K : Type 0} (b x : ℕ) (path t : List ℕ) (k : K) → (x == param_token) ≡ false → (x == catch_all_token) ≡ false
    → or_else (seek ((param_step (step param_token ((x ∷ t, k) ∷ [])) (b ∷ path)).0 - 1) (param_step (step param_token ((x ∷ t, k) ∷ [])) (b ∷ path)).1 path) (own (step catch_all_token ((x ∷ t, k) ∷ []))) ≡ None
rest_none {K} b x path t k p c =
    let at : Bool → Bool → Type 0 = λ p c. or_else (seek ((param_step {K = K} (cond p ((t, k) ∷ []) []) (b ∷ path)).0 - 1) (param_step {K = K} (cond p ((t, k) ∷ []) []) (b ∷ path)).1 path) (own (cond c ((t, k) ∷ []) [])) ≡ None in
    let none : at false false =
    ap (λ rs. or_else (seek ((param_step {K = K} [] (b ∷ path)).0 - 1) rs path) None) (param_none (b ∷ path))
    ∙ ap (λ o. or_else o None) (seek_none ((param_step {K = K} [] (b ∷ path)).0 - 1) path) in
    let first : at (x == param_token) false = subst (λ v. at v false) (sym p) none in
    subst (λ v. at (x == param_token) v) (sym c) first

not_true : (a b : Bool) → (not a && b) ≡ true → (a ≡ false) × (b ≡ true)
not_true true b e = (sym e, elim b as (λ v. false ≡ true → v ≡ true) [ true ↦ λ _. refl | false ↦ λ e. e ] e)
not_true false b e = (refl, e)

-- a router of one plain route answers its path alone
pub seek_plain : {K : Type 0} (path t : List ℕ) (k : K) → plain t ≡ true → seek 0 ((t, k) ∷ []) path ≡ cond (pointwise ◌==◌ t path) (Some k) None
unfolding seek
seek_plain [] [] k h = refl
seek_plain [] (x ∷ t) k h = refl
seek_plain (b ∷ path) [] k h = seek_none 0 (b ∷ path)
seek_plain {K} (b ∷ path) (x ∷ t) k h =
    let p = not_true (x == param_token) (not (x == catch_all_token) && plain t) h in
    let c = not_true (x == catch_all_token) (plain t) p.1 in
    ap (λ o. or_else (seek 0 (step b ((x ∷ t, k) ∷ [])) path) o) (rest_none b x path t k p.0 c.0)
    ∙ or_none (seek 0 (step b ((x ∷ t, k) ∷ [])) path)
    ∙ elim (x == b) as (λ v. seek 0 (cond v ((t, k) ∷ []) []) path ≡ cond (v && pointwise ◌==◌ t path) (Some k) None) [ true ↦ seek_plain path t k c.1 | false ↦ seek_none 0 path ]

is_some_cond : {K : Type 0} (b : Bool) (k : K) → is_some (cond b (Some k) None) ≡ b
is_some_cond true k = refl
is_some_cond false k = refl

-- whether a router of one plain route answers a path
pub only_route : {K : Type 0} (t path : List ℕ) (k : K) (rows : RowsOf K) (r : Bool) → plain t ≡ true → rows ≡ (t, k) ∷ [] → r ≡ is_some (first rows path) → r ≡ bytes_eq t path
only_route t path k rows r h is e =
    e ∙ ap (λ rs. is_some (first rs path)) is ∙ ap is_some (seek_plain path t k h) ∙ is_some_cond (bytes_eq t path) k
