use Rattle.std.proofs.Common.{◌∙◌, sym, take}
use Rattle.cs_partitions.proofs.Indexes.{end_none, end_some, of_one_stream, ends_start}
use Rattle.cs_partitions.proofs.finding.end_all.Goals.{in-Some, in_default}
use Rattle.cs_partitions.proofs.finding.end_all.Goals as goal

pub loop-token-init : goal.loop-token-init
loop-token-init c = sym (ends_start c.args.at c.args.parts.now)

pub index_named-requires : goal.index_named-requires
index_named-requires c = of_one_stream (take c.loop-token.token-index c.args.tokens.now) c.args.at c.args.parts.now c.loop-token.parts c.requires c.loop-token.invariant

pub loop-token-preserved : goal.loop-token-preserved
loop-token-preserved c = elim c.match-index_named.branch [
  | in-Some w ↦ w.parts-is ∙ end_some c.args.parts.now c.loop-token.parts c.requires c.args.at c.args.tokens.now c.loop-token.token-index c.token-item.result c.loop-token-test.true c.token-item.is c.loop-token.invariant w.in-Some.index w.index-parts-index.result (sym w.in-Some.ensures.index)
  | in_default w ↦ w.parts-is ∙ end_none c.args.parts.now c.loop-token.parts c.requires c.args.at c.args.tokens.now c.loop-token.token-index c.token-item.result c.loop-token-test.true c.token-item.is c.loop-token.invariant (sym w.in_default.ensures.index)
]
