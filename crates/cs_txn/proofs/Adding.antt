-- What a transaction's modifications add to ids and stamps.
use Rattle.std.proofs.Common.{◌≡◌, ◌∙◌, sym, ap, refl, ℕ, List, [], ◌∷◌, ◌++◌, Some, cond, false, true, Bool, is_some, nat_cmp, ◌==◌}
use Rattle.std.specs.declared.option.Option.{Option}
use Rattle.std.specs.Cmp.Lexicographic.{slice_cmp, pointwise}
use Rattle.std.specs.BTreeMap.{is_at}
use Rattle.std.specs.HashMap.{HashMap, get}
use Rattle.std.specs.Map.{lookup}
use Rattle.std.proofs.lemmas.Map.Text.{is_eq-slice_cmp}
use Rattle.cs_schema.specs.declared.types.Table.{Table}
use Rattle.cs_txn.specs.declared.txn.Write.{Write}
use Rattle.cs_txn.specs.declared.txn.Txn.{Txn}
use Rattle.cs_txn.specs.declared.txn.Modification.{Modification}
use Rattle.cs_txn.specs.History.{is_used, stamp_behind, last_stamp, modifications_from}
use Rattle.cs_txn.specs.Places.{IdsOf}

used_append : (id : List ℕ) (xs ys : List Modification) → is_used id (xs ++ ys) ≡ cond (is_used id xs) true (is_used id ys)
used_append id [] ys = refl
used_append id (x ∷ xs) ys =
    ap (cond (is_at (slice_cmp nat_cmp x.tx) id) true) (used_append id xs ys)
    ∙ elim (is_at (slice_cmp nat_cmp x.tx) id) as (λ b. cond b true (cond (is_used id xs) true (is_used id ys)) ≡ cond (cond b true (is_used id xs)) true (is_used id ys)) [ true ↦ refl | false ↦ refl ]

twice_alike : (b c : Bool) → c ≡ cond b true false → cond b true c ≡ b
twice_alike true c e = refl
twice_alike false c e = e

used_added : (tables : List Table) (id : List ℕ) (base : List Modification) (txn : Txn) (w : Write) (ws : List Write) → is_used id (modifications_from tables base txn (w ∷ ws)) ≡ is_at (slice_cmp nat_cmp txn.tx) id
used_added tables id base txn w [] = elim (is_at (slice_cmp nat_cmp txn.tx) id) as (λ b. cond b true false ≡ b) [ true ↦ refl | false ↦ refl ]
used_added tables id base txn w (v ∷ ws) =
    ap (cond (is_at (slice_cmp nat_cmp txn.tx) id) true) (used_added tables id base txn v ws)
    ∙ elim (is_at (slice_cmp nat_cmp txn.tx) id) as (λ b. cond b true b ≡ b) [ true ↦ refl | false ↦ refl ]

some_cond : (b : Bool) (o : Option (Unit {0})) → is_some (cond b (Some tt) o) ≡ cond b true (is_some o)
some_cond true o = refl
some_cond false o = refl

swap : (a b : Bool) → cond a true b ≡ cond b true a
swap true true = refl
swap true false = refl
swap false true = refl
swap false false = refl

-- the map's test of one id is that of the order
same_text : (a b : List ℕ) → pointwise ◌==◌ a b ≡ is_at (slice_cmp nat_cmp a) b
same_text a b = sym (is_eq-slice_cmp a b)

pub ids_same : {S : Type 0} (m n : HashMap (List ℕ) (Unit {0}) S) (ms : List Modification) → IdsOf ms m → n.entries ≡ m.entries → IdsOf ms n
ids_same m n ms h e q = ap (λ es. is_some (lookup (pointwise ◌==◌ q) es)) e ∙ h q

pub ids_added : {S : Type 0} (tables : List Table) (m n : HashMap (List ℕ) (Unit {0}) S) (ms : List Modification) (txn : Txn) (ws : List Write) → (modifications_from tables ms txn ws ≡ [] → ⊥)
    → IdsOf ms m
    → ((q : List ℕ) → get (pointwise ◌==◌) n q ≡ cond (pointwise ◌==◌ txn.tx q) (Some tt) (get (pointwise ◌==◌) m q))
    → IdsOf (ms ++ modifications_from tables ms txn ws) n
ids_added tables m n ms txn [] some h u q = absurd (some refl)
ids_added tables m n ms txn (w ∷ ws) some h u q =
    ap is_some (u q) ∙ some_cond (pointwise ◌==◌ txn.tx q) (get (pointwise ◌==◌) m q)
    ∙ ap (λ b. cond b true (is_some (get (pointwise ◌==◌) m q))) (same_text txn.tx q)
    ∙ ap (cond (is_at (slice_cmp nat_cmp txn.tx) q) true) (h q)
    ∙ swap (is_at (slice_cmp nat_cmp txn.tx) q) (is_used q ms)
    ∙ sym (used_append q ms (modifications_from tables ms txn (w ∷ ws)) ∙ ap (cond (is_used q ms) true) (used_added tables q ms txn w ws))

pub stamp_append : (s : ℕ) (xs ys : List Modification) → stamp_behind s (xs ++ ys) ≡ stamp_behind (stamp_behind s xs) ys
stamp_append s [] ys = refl
stamp_append s (x ∷ xs) ys = stamp_append x.stamp xs ys

pub stamp_same : (tables : List Table) (base : List Modification) (txn : Txn) (ws : List Write) → stamp_behind txn.stamp (modifications_from tables base txn ws) ≡ txn.stamp
stamp_same tables base txn [] = refl
stamp_same tables base txn (w ∷ ws) = stamp_same tables base txn ws

pub stamp_added : (tables : List Table) (ms : List Modification) (txn : Txn) (ws : List Write) → (modifications_from tables ms txn ws ≡ [] → ⊥) → txn.stamp ≡ last_stamp (ms ++ modifications_from tables ms txn ws)
stamp_added tables ms txn [] some = absurd (some refl)
stamp_added tables ms txn (w ∷ ws) some = sym (stamp_append 0 ms (modifications_from tables ms txn (w ∷ ws)) ∙ stamp_same tables ms txn ws)
