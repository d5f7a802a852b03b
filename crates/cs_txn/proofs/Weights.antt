-- Sums over lists that are put together.
use Rattle.std.proofs.Common.{◌≡◌, ◌+◌, List, [], ◌∷◌, ◌++◌, arith}
use Rattle.cs_txn.specs.declared.txn.Modification.{Modification}
use Rattle.cs_txn.specs.Sizes.{history_size}

pub history_size-append : (xs ys : List Modification) → history_size (xs ++ ys) ≡ history_size xs + history_size ys
history_size-append [] ys = omega arith
history_size-append (x ∷ xs) ys = let e = history_size-append xs ys in omega (arith, e)
