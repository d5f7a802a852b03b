use Rattle.std.proofs.Common.{◌≡◌, Option, ℕ, sym, subst}
use Rattle.std.specs.BTreeMap.{get}
use Rattle.cs_types.specs.Row.{row_cmp}
use Rattle.cs_audit.specs.Index.{IsLatest}
use Rattle.cs_audit.proofs.Indexing.{latest_more, previous_more}
use Rattle.cs_audit.proofs.index.previous_of.Goals as goal

pub loop-place-preserved : goal.loop-place-preserved
loop-place-preserved c =
    let w = c.args.wanted.now in
    let i = c.loop-place.place in
    let x = c.index-wanted-place.result in
    let updates = rw c.in_ok-row.ensures at c.in_ok-before.ensures.updates.0 in
    let old : c.in_ok-before.before ≡ get row_cmp c.loop-place.latest x.row = rw c.in_ok-row.ensures at c.in_ok-before.ensures.old in
    record {
      latest = latest_more c.loop-place.latest c.insert.new.self w i x c.loop-place-test.true c.index-wanted-place.is updates c.loop-place.invariant.latest;
      before = previous_more c.loop-place.previous.items c.push.new.self.items w i x c.in_ok-before.before c.loop-place-test.true c.index-wanted-place.is
          (subst (λ (o : Option ℕ). IsLatest w i x.row o) (sym old) (c.loop-place.invariant.latest x.row)) c.in_ok-push.ensures.items c.loop-place.invariant.before;
    }
