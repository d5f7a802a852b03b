use Rattle.std.proofs.Common.{◌≡◌, ◌++◌, true, All, map, take, drop}
use Rattle.serde_json.specs.Data.{string}
use Rattle.serde_json.specs.View.{view}
use Rattle.cs_types.specs.Token.{is_token}
use Rattle.cs_json.proofs.writing.tokens_tree.Given as goal

abbrev pub invariant-loop-token : goal.invariant-loop-token
invariant-loop-token l = record {
  kept : All (λ t. is_token t ≡ true) (take l.token-index l.tokens);
  trees : map view l.trees.items ++ map string (drop l.token-index l.tokens) ≡ map string l.tokens;
}
