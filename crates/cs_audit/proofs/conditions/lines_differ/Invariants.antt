use Rattle.std.proofs.Common.{◌≢◌, ◌<◌, ℕ, slice_index_or}
use Rattle.cs_types.specs.declared.change.Change.{Change}
use Rattle.cs_output.specs.Line.{change_line}
use Rattle.cs_audit.specs.Index.{ArePlaces}
use Rattle.cs_audit.proofs.conditions.lines_differ.Given as goal

abbrev pub invariant-loop-place : goal.invariant-loop-place
invariant-loop-place l =
    record {
      places : ArePlaces l.places l.wanted l.place;
      differ : (i j : ℕ) (d : Change) → i < j → j < l.place → change_line (slice_index_or l.wanted i d) ≢ change_line (slice_index_or l.wanted j d);
    }
