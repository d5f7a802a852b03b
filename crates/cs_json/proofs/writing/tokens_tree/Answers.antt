use Rattle.std.proofs.Common.{◌≡◌, ◌∙◌, true, ap}
use Rattle.std.proofs.lemmas.List.{take_all}
use Rattle.std.proofs.lemmas.List.Elements.{All-more}
use Rattle.serde_json.specs.Data.{array, string}
use Rattle.serde_json.specs.View.{items_of}
use Rattle.serde_json.proofs.Views.{view-Array}
use Rattle.cs_types.specs.Token.{is_token}
use Rattle.cs_json.proofs.Put.{tree_more, all_trees}
use Rattle.cs_json.proofs.writing.tokens_tree.Goals as goal

pub loop-token-preserved : goal.loop-token-preserved
loop-token-preserved c = record {
  kept = All-more (λ t. is_token t ≡ true) c.args.tokens.now c.loop-token.token-index c.token-item.result c.loop-token-test.true c.loop-token.invariant.kept (rw (← c.token-item.is) c.in_ok-token_tree.ensures.kept);
  trees = rw c.in_ok-push.ensures.items (tree_more (λ t. string t) c.args.tokens.now c.loop-token.token-index c.token-item.result c.loop-token.trees.items c.in_ok-token_tree.field-0 c.token-item.is c.loop-token-test.true c.in_ok-token_tree.ensures.value c.loop-token.invariant.trees);
}

pub returns-clause-kept : goal.returns-clause-kept
returns-clause-kept c = rw (take_all c.loop-token.token-index c.args.tokens.now c.loop-token-test.false) at c.loop-token.invariant.kept

pub returns-clause-value : goal.returns-clause-value
returns-clause-value c = view-Array c.loop-token.trees ∙ ap (λ ds. array (items_of ds)) (all_trees (λ t. string t) c.args.tokens.now c.loop-token.token-index c.loop-token.trees.items c.loop-token-test.false c.loop-token.invariant.trees)
