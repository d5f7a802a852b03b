-- How many writes a moment has, and what comes by it.
use Rattle.std.proofs.Common.{◌≡◌, ◌<◌, ◌≤◌, ◌+◌, ◌-◌, ◌==◌, ℕ, suc, List, [], ◌∷◌, ◌++◌, length, Bool, true, false, cond, nat_lt, All, Option, None, Some, refl, ap, subst, ◌∙◌, arith, slice_index_or}
use Rattle.std.proofs.lemmas.List.Elements.{All-nil, All-cons, All-head, All-tail}
use Rattle.cs_schema.specs.declared.types.Table.{Table}
use Rattle.cs_txn.specs.declared.txn.Write.{Write}
use Rattle.cs_txn.specs.declared.txn.Txn.{Txn}
use Rattle.cs_txn.specs.declared.txn.Modification.{Modification}
use Rattle.cs_txn.specs.History.{modifications_from, stamp_behind}
use Rattle.cs_script.specs.Database.{writes_at}
use Rattle.cs_script.specs.Kept.{IsBy}
use Rattle.cs_script.specs.Line.{is_back}

lt_false : (a b : ℕ) → nat_lt a b ≡ false → b ≤ a
lt_false a b h = grind (arith, h)

eq_true : (a b : ℕ) → (a == b) ≡ true → a ≡ b
eq_true a b h = grind (arith, h)

eq_false : (a b : ℕ) → (a == b) ≡ false → a ≡ b → ⊥
eq_false a b h = grind (arith, h)

not_eq : (a b : ℕ) → a < b → (a == b) ≡ false
not_eq a b h = grind (arith, h)

same_eq : (a : ℕ) → (a == a) ≡ true
same_eq a = grind arith

-- by one moment is by a later one
pub by_later : (last : Option ℕ) (at x : ℕ) → is_back last at ≡ false → IsBy last x → IsBy (Some at) x
by_later None at x order h = absurd h
by_later (Some l) at x order h = omega (arith, h, lt_false at l order)

-- no commit is later than the last moment
pub none_later : (last at : ℕ) → last < at → (ms : List Modification) → All (λ (m : Modification). IsBy (Some last) m.stamp) ms → 0 ≡ writes_at at ms
none_later last at later [] h = refl
none_later last at later (m ∷ ms) h =
    let head : m.stamp ≤ last = All-head (λ (m : Modification). IsBy (Some last) m.stamp) m ms h in
    let rest = none_later last at later ms (All-tail (λ (m : Modification). IsBy (Some last) m.stamp) m ms h) in
    rw (not_eq m.stamp at (omega (arith, head, later))) (omega (arith, rest))

-- before the first line there is no commit
pub none_yet : (at : ℕ) (ms : List Modification) → All (λ (m : Modification). IsBy None m.stamp) ms → 0 ≡ writes_at at ms
none_yet at [] h = refl
none_yet at (m ∷ ms) h = absurd (All-head (λ (m : Modification). IsBy None m.stamp) m ms h)

pub writes_of_both : (at : ℕ) (xs ys : List Modification) → writes_at at (xs ++ ys) ≡ writes_at at xs + writes_at at ys
writes_of_both at [] ys = omega arith
writes_of_both at (m ∷ ms) ys = ap (λ n. cond (m.stamp == at) 1 0 + n) (writes_of_both at ms ys) ∙ omega arith

-- each write of a transaction counts at its stamp
pub writes_new : (tables : List Table) (ms : List Modification) (txn : Txn) (ws : List Write) → writes_at txn.stamp (modifications_from tables ms txn ws) ≡ length ws
writes_new tables ms txn [] = refl
writes_new tables ms txn (w ∷ ws) = rw (same_eq txn.stamp) (omega (arith, writes_new tables ms txn ws))

-- and at no other
pub writes_other : (tables : List Table) (ms : List Modification) (txn : Txn) (ws : List Write) (stamp : ℕ) → (txn.stamp == stamp) ≡ false → writes_at stamp (modifications_from tables ms txn ws) ≡ 0
writes_other tables ms txn [] stamp e = refl
writes_other tables ms txn (w ∷ ws) stamp e = rw e (omega (arith, writes_other tables ms txn ws stamp e))

-- with these a stamp has so many
pub few_with : (tables : List Table) (ms : List Modification) (txn : Txn) → writes_at txn.stamp ms + length txn.writes ≤ 1024 → ((stamp : ℕ) → writes_at stamp ms ≤ 1024)
    → (stamp : ℕ) → writes_at stamp (ms ++ modifications_from tables ms txn txn.writes) ≤ 1024
few_with tables ms txn room few stamp = by (txn.stamp == stamp) refl
  where
    by : (b : Bool) → (txn.stamp == stamp) ≡ b → writes_at stamp (ms ++ modifications_from tables ms txn txn.writes) ≤ 1024
    by true e =
        let both : writes_at txn.stamp (ms ++ modifications_from tables ms txn txn.writes) ≤ 1024 =
        omega (arith, writes_of_both txn.stamp ms (modifications_from tables ms txn txn.writes), writes_new tables ms txn txn.writes, room) in
        subst (λ s. writes_at s (ms ++ modifications_from tables ms txn txn.writes) ≤ 1024) (eq_true txn.stamp stamp e) both
    by false e = omega (arith, writes_of_both stamp ms (modifications_from tables ms txn txn.writes), writes_other tables ms txn txn.writes stamp e, few stamp)

-- what a transaction adds comes at its stamp
pub new_by : (tables : List Table) (ms : List Modification) (txn : Txn) (ws : List Write) → All (λ (m : Modification). IsBy (Some txn.stamp) m.stamp) (modifications_from tables ms txn ws)
new_by tables ms txn [] = All-nil (λ (m : Modification). IsBy (Some txn.stamp) m.stamp)
new_by tables ms txn (w ∷ ws) = All-cons (λ (m : Modification). IsBy (Some txn.stamp) m.stamp) _ (modifications_from tables ms txn ws) (omega arith) (new_by tables ms txn ws)

-- the stamp of the last modification
pub stamp_at_end : (s : ℕ) (ms : List Modification) (d : Modification) → 0 < length ms → (slice_index_or ms (length ms - 1) d).stamp ≡ stamp_behind s ms
stamp_at_end s [] d h = absurd (omega (arith, h))
stamp_at_end s (m ∷ []) d h = refl
stamp_at_end s (m ∷ n ∷ ms) d h =
    let all : suc (length ms) ≡ length (m ∷ n ∷ ms) - 1 = omega arith in
    let less : length (n ∷ ms) - 1 ≡ length ms = omega arith in
    let rest : (slice_index_or (n ∷ ms) (length ms) d).stamp ≡ stamp_behind m.stamp (n ∷ ms) =
    subst (λ k. (slice_index_or (n ∷ ms) k d).stamp ≡ stamp_behind m.stamp (n ∷ ms)) less (stamp_at_end m.stamp (n ∷ ms) d (omega arith)) in
    subst (λ k. (slice_index_or (m ∷ n ∷ ms) k d).stamp ≡ stamp_behind s (m ∷ n ∷ ms)) all rest

-- a moment that is not below another and differs is above it
pub is_later : (last at : ℕ) → nat_lt at last ≡ false → (last == at) ≡ false → last < at
is_later last at order differ = grind (arith, order, differ)
