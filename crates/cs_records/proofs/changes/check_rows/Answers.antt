use Rattle.std.proofs.Common.{rules, ◌≡◌, ◌<◌, ap, sym, ◌∙◌, take, get_or, length, false}
use Rattle.cs_types.specs.Order.{cells_cmp, cells_total}
use Rattle.cs_records.specs.Told.{has_key, keys_of}
use Rattle.cs_records.proofs.Seen.{keys_next, pushed_seen, was_false, again_step}
use Rattle.cs_records.proofs.changes.check_rows.Goals as goal

pub loop-one-preserved : goal.loop-one-preserved
loop-one-preserved c =
    let is : c.one-item.result ≡ get_or c.args.item.now.mods c.loop-one.one-index c.one-item.result = search rules in
    let lt : c.loop-one.one-index < length c.args.item.now.mods = search rules in
    let had = was_false _ (sym c.in_ok-insert.ensures.added ∙ c.if-not-branch.false) in
    let none : has_key (keys_of (take c.loop-one.one-index c.args.item.now.mods)) c.one-item.result.keys ≡ false = sym (c.loop-one.invariant.seen c.one-item.result.keys) ∙ rw c.in_ok-copy.ensures at had in
    record {
      seen = λ q. pushed_seen cells_cmp cells_total _ c.one-item.result.keys q _ _ (rw c.in_ok-copy.ensures at (c.in_ok-insert.ensures.updates.0 q)) (c.loop-one.invariant.seen q)
          ∙ ap (λ keys. has_key keys q) (sym (keys_next c.args.item.now.mods c.loop-one.one-index c.one-item.result is lt));
      rest = again_step c.args.item.now.mods c.loop-one.one-index c.one-item.result is lt none ∙ c.loop-one.invariant.rest;
    }
