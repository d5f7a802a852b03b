use Rattle.std.proofs.Common.{◌≡◌, drop}
use Rattle.cs_tree.specs.View.{items_view}
use Rattle.cs_script.specs.Members.{each_token, tokens_behind}
use Rattle.cs_script.proofs.members.each_token.Given as goal

abbrev pub invariant-loop-tree : goal.invariant-loop-tree
invariant-loop-tree l = tokens_behind l.tokens (each_token (items_view (drop l.tree-index l.trees))) ≡ each_token (items_view l.trees)
