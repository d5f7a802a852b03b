-- Reading parts one after the other, as a loop does.
use Rattle.std.proofs.Common.{◌≡◌, ℕ, suc, ◌-◌, ◌+◌, ◌≤◌, ◌<◌, Bool, true, false, List, [], ◌∷◌, ◌++◌, length, Result, Ok, Err, refl, sym, ap, subst, ◌∙◌, append_assoc, arith}
use Rattle.cs_ddl.specs.declared.fault.Refusal.{Refusal}
use Rattle.cs_ddl.specs.declared.fault.Refusal.TheVariants as refusals
use Rattle.cs_ddl.specs.declared.token.Kind.TheVariants.{Comma}
use Rattle.cs_ddl.specs.Token.{Lexeme}
use Rattle.cs_ddl.specs.Reading.{Read, Fails, Gives, behind, starts_with_sign}
use Rattle.cs_ddl.specs.Lists.{parts_at, with_front, ends_behind}

regroup : {A : Type 0} (front : List A) (x : A) (read : Read (List A)) → with_front front (with_front (x ∷ []) read) ≡ with_front (front ++ x ∷ []) read
regroup front x (Ok y) = ap (λ xs. Ok (xs, y.1)) (simp append_assoc)
regroup front x (Err n) = refl

pub goes_on : {A : Type 0} (p : List Lexeme → Read A) (b : Bool) (front : List A) (n i : ℕ) (ts us : List Lexeme) (x : A) (total : Read (List A)) → i < n → p ts ≡ Ok (x, us) → starts_with_sign Comma us ≡ true → ends_behind b (behind us) ≡ false
    → with_front front (parts_at p b (n - i) ts) ≡ total → with_front (front ++ x ∷ []) (parts_at p b (n - (i + 1)) (behind us)) ≡ total
unfolding parts_at
goes_on p b front n i ts us x total lt h comma on so_far =
    let k : n - i ≡ suc (n - (i + 1)) = omega arith in
    let one : with_front front (parts_at p b (n - i) ts) ≡ with_front (front ++ x ∷ []) (parts_at p b (n - (i + 1)) (behind us)) = rw (k, h, comma, on) (regroup front x (parts_at p b (n - (i + 1)) (behind us))) in
    sym one ∙ so_far

pub is_last : {A : Type 0} (p : List Lexeme → Read A) (b : Bool) (front : List A) (n i : ℕ) (ts us : List Lexeme) (x : A) (total : Read (List A)) → i < n → p ts ≡ Ok (x, us) → starts_with_sign Comma us ≡ false
    → with_front front (parts_at p b (n - i) ts) ≡ total → total ≡ Ok (front ++ x ∷ [], us)
unfolding parts_at
is_last p b front n i ts us x total lt h comma so_far =
    let k : n - i ≡ suc (n - (i + 1)) = omega arith in
    let one : with_front front (parts_at p b (n - i) ts) ≡ Ok (front ++ x ∷ [], us) = rw (k, h, comma) refl in
    sym so_far ∙ one

pub is_last_trailing : {A : Type 0} (p : List Lexeme → Read A) (b : Bool) (front : List A) (n i : ℕ) (ts us : List Lexeme) (x : A) (total : Read (List A)) → i < n → p ts ≡ Ok (x, us) → starts_with_sign Comma us ≡ true → ends_behind b (behind us) ≡ true
    → with_front front (parts_at p b (n - i) ts) ≡ total → total ≡ Ok (front ++ x ∷ [], behind us)
unfolding parts_at
is_last_trailing p b front n i ts us x total lt h comma ends so_far =
    let k : n - i ≡ suc (n - (i + 1)) = omega arith in
    let one : with_front front (parts_at p b (n - i) ts) ≡ Ok (front ++ x ∷ [], behind us) = rw (k, h, comma, ends) refl in
    sym so_far ∙ one

pub fails : {A : Type 0} (e : Refusal) (p : List Lexeme → Read A) (b : Bool) (front : List A) (n i : ℕ) (ts : List Lexeme) (total : Read (List A)) → i < n → Fails e (p ts)
    → with_front front (parts_at p b (n - i) ts) ≡ total → Fails e total
unfolding parts_at
fails refusals.Memory p b front n i ts total lt h so_far = tt
fails (refusals.Left left) p b front n i ts total lt h so_far =
    let k : n - i ≡ suc (n - (i + 1)) = omega arith in
    let one : with_front front (parts_at p b (n - i) ts) ≡ Err left = rw (k, h) refl in
    sym so_far ∙ one

pub runs_out : {A : Type 0} (p : List Lexeme → Read A) (b : Bool) (front : List A) (n i : ℕ) (ts : List Lexeme) (total : Read (List A)) → n ≤ i → with_front front (parts_at p b (n - i) ts) ≡ total → total ≡ Err (length ts)
unfolding parts_at
runs_out p b front n i ts total le so_far =
    let k : n - i ≡ 0 = omega arith in
    let one : with_front front (parts_at p b (n - i) ts) ≡ Err (length ts) = rw k refl in
    sym so_far ∙ one

front_nil : {A : Type 0} (read : Read (List A)) → with_front [] read ≡ read
front_nil (Ok x) = refl
front_nil (Err n) = refl

pub no_front : {A X : Type 0} (r : Result X Refusal) (view : X → List A × List Lexeme) (read : Read (List A)) → Gives view r (with_front [] read) → Gives view r read
no_front r view read g = subst (λ read. Gives view r read) (front_nil read) g
