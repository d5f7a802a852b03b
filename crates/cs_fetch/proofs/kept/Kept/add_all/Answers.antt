use Rattle.std.proofs.Common.{rules}
use Rattle.cs_fetch.proofs.Keeping.{kept_step, some_step}
use Rattle.cs_fetch.proofs.kept.Kept.add_all.Goals as goal

pub loop-change-preserved : goal.loop-change-preserved
loop-change-preserved c = record {
  kept = kept_step c.args.known.now c.args.self.now c.args.changes.now c.loop-change.self _ c.loop-change.change-index c.change-item.result (search rules) (search rules) c.loop-change.invariant.kept c.in_ok-new.ensures.changes;
  some = some_step c.args.known.now c.args.self.now c.args.changes.now c.loop-change.self c.loop-change.change-index c.change-item.result c.loop-change.some c.in_ok-new.new _ (search rules) (search rules) c.loop-change.invariant.kept c.loop-change.invariant.some c.in_ok-new.ensures.new c.either-some.ensures;
}
