use Rattle.std.proofs.Common.{◌≡◌, ◌≤◌, ◌<◌, ℕ, true, false, slice_index_or}
use Rattle.cs_types.specs.declared.change.Change.{Change}
use Rattle.cs_audit.proofs.seen.first_absent.Given as goal

abbrev pub invariant-loop-place : goal.invariant-loop-place
invariant-loop-place l = (q : ℕ) (d : Change) → q < l.place → (slice_index_or l.wanted q d).stamp ≤ l.at → slice_index_or l.stands q false ≡ true
