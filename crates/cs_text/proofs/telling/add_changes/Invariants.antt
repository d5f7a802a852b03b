use Rattle.std.proofs.Common.{◌≡◌, ◌++◌, length, map}
use Rattle.cs_output.specs.Output.{of_change, text_of_lines}
use Rattle.cs_text.proofs.telling.add_changes.Given as goal

abbrev pub invariant-changes : goal.invariant-changes
invariant-changes l = l.lines ++ text_of_lines (map of_change l.rest) ≡ l.fn.lines ++ text_of_lines (map of_change l.fn.changes)

abbrev pub decreases-changes : goal.decreases-changes
decreases-changes l = length l.rest
