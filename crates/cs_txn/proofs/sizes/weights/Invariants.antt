use Rattle.std.proofs.Common.{◌≡◌, ◌++◌, All, drop, take}
use Rattle.cs_types.specs.Firsts.{first_of}
use Rattle.cs_txn.specs.Fits.{HasCells}
use Rattle.cs_txn.specs.Sizes.{weights_of, large_fault}
use Rattle.cs_txn.proofs.sizes.weights.Given as goal

abbrev pub invariant-loop-item : goal.invariant-loop-item
invariant-loop-item l = record {
  sizes : l.sizes ++ weights_of (drop l.item-index l.added) ≡ weights_of l.added;
  cells : All HasCells (take l.item-index l.added);
  refused : first_of large_fault (drop l.item-index l.added) ≡ first_of large_fault l.added;
}
