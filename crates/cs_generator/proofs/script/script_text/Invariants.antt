use Rattle.std.proofs.Common.{◌≡◌, ◌++◌, string_bytes, map}
use Rattle.std.specs.List.{concat, range_with_len}
use Rattle.cs_generator.specs.Generated.{statement_lines, commit_lines, stamp_before}
use Rattle.cs_generator.proofs.script.script_text.Given as goal

abbrev pub invariant-loop-i : goal.invariant-loop-i
invariant-loop-i l = record {
  text : string_bytes l.text ≡ statement_lines ++ concat (map (commit_lines l.commits) (range_with_len 0 l.i));
  last : l.last ≡ stamp_before l.commits l.i;
}
