use Rattle.std.proofs.Common.{arith, ◌∙◌, ℕ, ◌+◌, ◌-◌, ◌/◌, ◌<◌, sym, length}
use Rattle.cs_txn.proofs.Searching.{none_before, none_behind, found_at, found_nowhere}
use Rattle.cs_txn.proofs.finding.search.Goals as goal

pub returns-in-Equal-clause-value : goal.returns-in-Equal-clause-value
returns-in-Equal-clause-value c =
    let middle : ℕ = c.loop-low.low + (c.loop-low.high - c.loop-low.low) / 2 in
    let within : c.loop-low.low + (c.loop-low.high - c.loop-low.low) / 2 < length c.args.cells.now = omega arith in
    sym (found_at c.args.cells.now c.args.column.now middle c.index-cells-middle.result c.requires.rising within c.index-cells-middle.is (sym c.cmp.ensures ∙ c.in-Equal.is))

pub loop-low-preserved-in-Less : goal.loop-low-preserved-in-Less
loop-low-preserved-in-Less c =
    let middle : ℕ = c.loop-low.low + (c.loop-low.high - c.loop-low.low) / 2 in
    let within : c.loop-low.low + (c.loop-low.high - c.loop-low.low) / 2 < length c.args.cells.now = omega arith in
    record {
      order = omega arith;
      within = c.loop-low.invariant.within;
      before = none_before c.args.cells.now c.args.column.now middle _ c.index-cells-middle.result (omega arith) c.requires.rising within c.index-cells-middle.is (sym c.cmp.ensures ∙ c.in-Less.is);
      behind = c.loop-low.invariant.behind;
    }

pub loop-low-preserved : goal.loop-low-preserved
loop-low-preserved c =
    let middle : ℕ = c.loop-low.low + (c.loop-low.high - c.loop-low.low) / 2 in
    let within : c.loop-low.low + (c.loop-low.high - c.loop-low.low) / 2 < length c.args.cells.now = omega arith in
    record {
      order = omega arith;
      within = omega arith;
      before = c.loop-low.invariant.before;
      behind = none_behind c.args.cells.now c.args.column.now middle c.index-cells-middle.result c.requires.rising within c.index-cells-middle.is (sym c.cmp.ensures ∙ c.in-Greater.is);
    }

pub returns : goal.returns
returns c = record {
  value = sym (found_nowhere c.args.cells.now c.args.column.now c.loop-low.low c.loop-low.high c.loop-low-test.false c.loop-low.invariant.order c.loop-low.invariant.before c.loop-low.invariant.behind);
  in_range = tt;
}
