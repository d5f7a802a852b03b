use Rattle.std.proofs.Common.{◌≡◌, replicate}
use Rattle.cs_steps.specs.Lines.{no_line}
use Rattle.cs_index.proofs.walk.no_lines.Given as goal

abbrev pub invariant-loop-made : goal.invariant-loop-made
invariant-loop-made l = l.lines.items ≡ replicate l.made no_line
