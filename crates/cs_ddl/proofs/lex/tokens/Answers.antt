use Rattle.std.proofs.Common.{ℕ, ◌+◌, ◌++◌, ◌∙◌, sym, ap, arith}
use Rattle.std.proofs.lemmas.List.{append-nil, length-drop, length-take}
use Rattle.cs_ddl.proofs.Cutting.{step_blank, pushed, step_token, cut_end}
use Rattle.cs_ddl.proofs.lex.tokens.Goals as goal

pub loop-at-preserved-then-is_blank : goal.loop-at-preserved-then-is_blank
loop-at-preserved-then-is_blank c = record {
  within = omega arith;
  told = ap (λ ts. c.loop-at.tokens.items ++ ts) (sym (step_blank c.args.text.now c.loop-at.at c.loop-at-test.true (sym c.is_blank.ensures ∙ c.if-is_blank.true))) ∙ c.loop-at.invariant.told;
}

pub loop-at-preserved : goal.loop-at-preserved
loop-at-preserved c =
    let text = c.args.text.now in
    let at = c.loop-at.at in
    let r = c.kind_and_len-kind.result in
    let one = pushed text at r c.new.result c.loop-at-test.true c.kind_and_len-kind.ensures.is c.new.ensures in
    record {
      within = omega (arith, c.kind_and_len-kind.ensures.within, length-drop (at + 1) text, length-take {A = ℕ});
      told = rw c.in_ok-push.ensures.items (sym (step_token text at r c.new.result c.loop-at.tokens.items c.loop-at-test.true (sym c.is_blank.ensures ∙ c.if-is_blank.false) c.kind_and_len-kind.ensures.is one) ∙ c.loop-at.invariant.told);
    }

pub returns : goal.returns
returns c = sym (append-nil c.loop-at.tokens.items) ∙ (ap (λ ts. c.loop-at.tokens.items ++ ts) (sym (cut_end c.args.text.now c.loop-at.at c.loop-at-test.false)) ∙ c.loop-at.invariant.told)
