use Rattle.std.proofs.Common.{Result, Ok, Err, IfOk, sym, ◌∙◌, true≢false}
use Rattle.cs_audit.proofs.Lines.{differ_in_lines, own_lines, apart_from_names, names_from_apart}
use Rattle.cs_audit.proofs.conditions.can_be_audited.Goals as goal

IfOk-weaken : {T E : Type 0} (r : Result T E) (P Q : T → Type 0) → ((t : T) → P t → Q t) → IfOk r P → IfOk r Q
IfOk-weaken (Ok t) P Q f p = f t p
IfOk-weaken (Err e) P Q f p = tt

pub returns-then-not-branch : goal.returns-then-not-branch
returns-then-not-branch c = (
  (λ e. absurd (true≢false (sym e))),
  λ both. absurd (true≢false (sym (c.in_ok-lines_differ.ensures.1 (differ_in_lines c.lines_tell_changes.ensures.transaction c.args.wanted.now both.0 both.1)) ∙ c.if-not-branch.true)),
)

pub returns : goal.returns
returns c =
    IfOk-weaken c.names_differ.result _ _
    (λ b exactly. (
      (λ t. (own_lines c.args.wanted.now (c.in_ok-lines_differ.ensures.0 c.if-not-branch.false), apart_from_names c.args.wanted.now (exactly.0 t))),
      λ both. exactly.1 (names_from_apart c.args.wanted.now both.1),
    )) c.names_differ.ensures
