use Rattle.std.proofs.Common.{◌≡◌, ℕ, List, ◌++◌, map, add-one, sym, ap, ◌∙◌, arith}
use Rattle.std.specs.List.{concat, range_with_len}
use Rattle.cs_generator.specs.Generated.{statement_lines, commit_lines, commit_line, due_lines, stamp_before, commit_stamp}
use Rattle.cs_generator.proofs.Blocks.{block_added}
use Rattle.cs_generator.proofs.script.script_text.Goals as goal

lines_are : (commits i above upto : ℕ) (line : List ℕ) → above ≡ stamp_before commits i → upto ≡ commit_stamp commits i → line ≡ commit_line commits i
    → commit_lines commits i ≡ due_lines above upto ++ line
lines_are commits i above upto line e1 e2 e3 =
    ap (λ a. due_lines a (commit_stamp commits i) ++ commit_line commits i) (sym e1) ∙ ap (λ u. due_lines above u ++ commit_line commits i) (sym e2)
    ∙ ap (λ l. due_lines above upto ++ l) (sym e3)

pub loop-i-preserved : goal.loop-i-preserved
loop-i-preserved c = record {
  text = block_added (commit_lines c.args.commits) c.loop-i.i statement_lines _ _ _ _ _ c.loop-i.invariant.text c.in_ok-push_due.ensures c.in_ok-push_str.ensures.bytes
      (lines_are c.args.commits c.loop-i.i _ _ _ c.loop-i.invariant.last (c.us.ensures.value ∙ c.commit_stamp-at.ensures) (c.deref.ensures ∙ c.in_ok-commit_line.ensures));
  last = c.us-last.ensures.value ∙ c.commit_stamp-at.ensures ∙ ap (stamp_before c.args.commits) (sym (add-one c.loop-i.i));
}

pub returns : goal.returns
returns c =
    let all : c.loop-i.i ≡ c.args.commits = omega (arith, c.loop-i.auto.i-end, c.loop-i-test.false) in
    record { text = c.loop-i.invariant.text ∙ ap (λ n. statement_lines ++ concat (map (commit_lines c.args.commits) (range_with_len 0 n))) all }
