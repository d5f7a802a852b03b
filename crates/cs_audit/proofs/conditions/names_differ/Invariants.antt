use Rattle.std.proofs.Common.{◌≢◌, ◌<◌, ℕ, slice_index_or}
use Rattle.cs_types.specs.declared.change.Change.{Change}
use Rattle.cs_audit.specs.Index.{ArePlacesBy, name_of, name_cmp}
use Rattle.cs_audit.proofs.conditions.names_differ.Given as goal

abbrev pub invariant-loop-place : goal.invariant-loop-place
invariant-loop-place l =
    record {
      places : ArePlacesBy name_cmp name_of l.places l.wanted l.place;
      differ : (i j : ℕ) (d : Change) → i < j → j < l.place → name_of (slice_index_or l.wanted i d) ≢ name_of (slice_index_or l.wanted j d);
    }
