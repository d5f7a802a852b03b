use Rattle.std.proofs.Common.{◌≡◌, ℕ, List, take, nat_cmp}
use Rattle.std.specs.Ordering.{is_eq}
use Rattle.std.specs.Cmp.Lexicographic.{slice_cmp}
use Rattle.std.specs.List.{list_any}
use Rattle.std.specs.BTreeSet.{contains}
use Rattle.cs_types.specs.declared.cells.Cell.{Cell}
use Rattle.cs_types.specs.Cells.{AreApart}
use Rattle.cs_types.proofs.cells.check_apart.Given as goal

abbrev pub invariant-loop-cell : goal.invariant-loop-cell
invariant-loop-cell l = AreApart (take l.cell-index l.cells) × ((q : List ℕ) → contains (slice_cmp nat_cmp) l.seen q ≡ list_any (λ (c : Cell). is_eq (slice_cmp nat_cmp q c.column)) (take l.cell-index l.cells))
