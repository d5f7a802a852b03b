use Rattle.std.proofs.Common.{◌<◌, ◌≤◌, ◌+◌, ◌≡◌, true, false, nat_le, sym, subst, ◌∙◌, arith}
use Rattle.std.proofs.lemmas.Bool.{leb-true}
use Rattle.cs_steps.specs.Cursor.{Gives}
use Rattle.cs_steps.proofs.CursorSteps.{gives_record, gives_beat, has_more}
use Rattle.cs_steps.proofs.cursor.Cursor.next_record.Goals as goal

pub returns-then-self-eq0-clause-gives : goal.returns-then-self-eq0-clause-gives
returns-then-self-eq0-clause-gives c = λ s d is there stamp. c.cut.ensures.gives s is c.if-self-eq0.true (has_more s c.args.self.now d c.requires.next there)

pub one_below-requires : goal.one_below-requires
one_below-requires c =
    let due : nat_le (c.args.self.now.last + c.args.self.now.gap) c.args.stamp ≡ true = sym c.is_late.ensures.test ∙ c.if-is_late.true in
    let h : c.args.self.now.last + c.args.self.now.gap ≤ c.args.stamp = leb-true _ _ due in
    omega (arith, h, c.is_late.ensures.last, c.requires.gap)

pub returns-then-is_late-clause-gives : goal.returns-then-is_late-clause-gives
returns-then-is_late-clause-gives c = λ s d is there stamp.
    let some : 0 < c.args.self.now.left = omega (arith, c.if-self-eq0.false) in
    let due : nat_le (c.args.self.now.last + c.args.self.now.gap) c.args.stamp ≡ true = sym c.is_late.ensures.test ∙ c.if-is_late.true in
    let gives = gives_beat s c.args.self.now d c.args.stamp c.one_below.result c.requires.goes is c.requires.next some there stamp c.one_below.ensures due in
    subst (λ place. Gives s c.args.self.now place c.beat.new.self) (sym c.beat.ensures.place) (subst (Gives s c.args.self.now _) (sym c.beat.ensures.cursor) gives)

pub returns-clause-gives : goal.returns-clause-gives
returns-clause-gives c = λ s d is there stamp.
    let some : 0 < c.args.self.now.left = omega (arith, c.if-self-eq0.false) in
    let early : nat_le (c.args.self.now.last + c.args.self.now.gap) c.args.stamp ≡ false = sym c.is_late.ensures.test ∙ c.if-is_late.false in
    let gives = gives_record s c.args.self.now d c.args.stamp c.requires.goes is c.requires.next some there stamp early in
    subst (λ place. Gives s c.args.self.now place c.pass.new.self) (sym c.pass.ensures.place) (subst (Gives s c.args.self.now _) (sym c.pass.ensures.cursor) gives)
