use Rattle.std.proofs.Common.{Result, Ok, Err, IfOk, subst}
use Rattle.cs_types.specs.Stamp.{IsStamp}
use Rattle.cs_audit.proofs.Agreement.{complete_exactly, prefix_exactly}
use Rattle.cs_audit.proofs.Lines.{differ_in_lines}
use Rattle.cs_audit.proofs.auditing.audit.Goals as goal

pub judge-requires : goal.judge-requires
judge-requires c = differ_in_lines c.lines_tell_changes.ensures.transaction c.args.wanted.now c.requires.own_lines c.requires.apart

IfOk-weaken : {T E : Type 0} (r : Result T E) (P Q : T → Type 0) → ((t : T) → P t → Q t) → IfOk r P → IfOk r Q
IfOk-weaken (Ok t) P Q f p = f t p
IfOk-weaken (Err e) P Q f p = tt

pub returns-clause-complete : goal.returns-clause-complete
returns-clause-complete c = λ bytes are.
    IfOk-weaken c.judge.result _ _
    (λ v is. complete_exactly c.lines_have_one_meaning.ensures.text c.lines_have_one_meaning.ensures.meaning v bytes c.args.lines.now c.args.wanted.now c.args.end (differ_in_lines c.lines_tell_changes.ensures.transaction c.args.wanted.now c.requires.own_lines c.requires.apart) (subst IsStamp c.us.ensures.value c.us.ensures.range) is are) c.judge.ensures

pub returns-clause-prefix : goal.returns-clause-prefix
returns-clause-prefix c = λ bytes are.
    IfOk-weaken c.judge.result _ _
    (λ v is. prefix_exactly c.lines_have_one_meaning.ensures.text c.lines_have_one_meaning.ensures.meaning v bytes c.args.lines.now c.args.wanted.now c.args.end (differ_in_lines c.lines_tell_changes.ensures.transaction c.args.wanted.now c.requires.own_lines c.requires.apart) (subst IsStamp c.us.ensures.value c.us.ensures.range) is are) c.judge.ensures
