use Rattle.std.proofs.Common.{◌≡◌, take}
use Rattle.cs_ddl.proofs.run.RunCopyTree.copy.Given as goal

-- the copies so far are the trees so far
abbrev pub invariant-loop-tree : goal.invariant-loop-tree
invariant-loop-tree g l = l.run ≡ take l.tree-index l.tree-items
