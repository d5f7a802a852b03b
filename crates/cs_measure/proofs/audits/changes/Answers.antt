use Rattle.std.proofs.Common.{Result, Ok, Err, IfOk, sym, subst}
use Rattle.cs_types.specs.Stamp.{IsStamp}
use Rattle.cs_audit.specs.Audit.{HaveOwnLines, AreApart}
use Rattle.cs_measure.proofs.audits.changes.Goals as goal

IfOk-weaken : {T E : Type 0} (r : Result T E) (P Q : T → Type 0) → ((t : T) → P t → Q t) → IfOk r P → IfOk r Q
IfOk-weaken (Ok t) P Q f p = f t p
IfOk-weaken (Err e) P Q f p = tt

pub returns-clause-own_lines : goal.returns-clause-own_lines
returns-clause-own_lines c = IfOk-weaken c.wanted.result _ _
    (λ changes is. subst HaveOwnLines (sym is) (c.changes_of_one_database_have_own_lines.ensures _
    (c.changes_are_of_one_database.ensures.changes c.args.catalog.now.tables c.args.catalog.now.streams c.args.stream.now c.args.history.now c.args.start c.args.end
    c.tables-tables.ensures.sound c.requires.names c.requires.history (subst IsStamp c.us.ensures.value c.us.ensures.range) (subst IsStamp c.us-2.ensures.value c.us-2.ensures.range)))) c.wanted.ensures

pub returns-clause-apart : goal.returns-clause-apart
returns-clause-apart c = IfOk-weaken c.wanted.result _ _
    (λ changes is. subst AreApart (sym is) (c.changes_are_of_one_database.ensures.apart c.args.catalog.now.tables c.args.stream.now c.args.history.now c.args.start c.args.end c.modifications-items.ensures.rules)) c.wanted.ensures
