use Rattle.std.proofs.Common.{ℕ, ◌<◌, slice_index_or}
use Rattle.cs_partitions.specs.Layout.{StreamParts, IsLayout}
use Rattle.cs_read.proofs.kept.are_layouts.Given as goal

abbrev pub invariant-loop-layout : goal.invariant-loop-layout
invariant-loop-layout l = (k : ℕ) (d : StreamParts) → k < l.layout-index → IsLayout (slice_index_or l.layouts k d)
