use Rattle.std.specs.BTreeMap.{get}
use Rattle.cs_types.specs.Row.{row_cmp}
use Rattle.cs_types.specs.declared.change.RowName.{RowName}
use Rattle.cs_audit.specs.Index.{IsLatest, ArePrevious}
use Rattle.cs_audit.proofs.index.previous_of.Given as goal

abbrev pub invariant-loop-place : goal.invariant-loop-place
invariant-loop-place l =
    record {
      latest : (row : RowName) → IsLatest l.wanted l.place row (get row_cmp l.latest row);
      before : ArePrevious l.previous.items l.wanted l.place;
    }
