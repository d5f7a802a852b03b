use Rattle.std.proofs.Common.{◌≡◌, ◌∙◌, List, take, drop, ◌*◌, sym, ap, subst, arith}
use Rattle.cs_records.specs.declared.records.DataRecord.{DataRecord}
use Rattle.cs_records.specs.declared.records.Child.{Child}
use Rattle.cs_records.specs.declared.records.ChildRecord.{ChildRecord}
use Rattle.cs_records.specs.declared.records.Record.{Record}
use Rattle.cs_link.specs.declared.reading.Step.{Step}
use Rattle.cs_steps.specs.declared.cursor.StepPlace.{StepPlace}
use Rattle.cs_steps.specs.Cursor.{IsStep}
use Rattle.cs_steps.proofs.Chunks.{chunk}
use Rattle.cs_steps.proofs.CursorSteps.{some_at}
use Rattle.cs_steps.proofs.Taken.{same_count, is_record, in_children}
use Rattle.cs_steps.proofs.steps.step.Goals as goal

pub data_record-requires : goal.data_record-requires
data_record-requires c =
    let q : IsStep c.requires.0 (StepPlace.Record c.in-Record.place) c.requires.1 = subst (λ p. IsStep c.requires.0 p c.requires.1) c.in-Record.is c.requires.3 in
    record {
      inside = omega (arith, q.1.0, same_count c.requires.0 c.args.from.now.captured.now c.args.from.now.changes.now c.args.from.now.records.now c.args.from.now.start c.args.from.now.children.now c.requires.2);
      some = c.requires.2.some;
      within = c.requires.2.within;
      there = c.requires.2.there;
    }

pub child_record-requires : goal.child_record-requires
child_record-requires c =
    let q : IsStep c.requires.0 (StepPlace.Children c.in-Children.place) c.requires.1 = subst (λ p. IsStep c.requires.0 p c.requires.1) c.in-Children.is c.requires.3 in
    let r = in_children c.requires.0 c.args.from.now.captured.now c.args.from.now.changes.now c.args.from.now.records.now c.args.from.now.start c.args.from.now.children.now c.requires.2 c.in-Children.place q.0 q.1 in
    record { within = r.0; sequence = r.1 }

pub returns-in_ok-item-in-Record : goal.returns-in_ok-item-in-Record
returns-in_ok-item-in-Record c = λ s x h i.
    let q : IsStep s (StepPlace.Record c.in-Record.place) x = subst (λ p. IsStep s p x) c.in-Record.is i in
    let p = some_at c.args.from.now.records.now c.in-Record.place (omega (arith, q.1.0, same_count s c.args.from.now.captured.now c.args.from.now.changes.now c.args.from.now.records.now c.args.from.now.start c.args.from.now.children.now h)) in
    let d : c.in_ok-item-in-Record.item ≡ q.0 = is_record s c.args.from.now.captured.now c.args.from.now.changes.now c.args.from.now.records.now c.args.from.now.start c.args.from.now.children.now h c.in-Record.place p.0 c.in_ok-item-in-Record.item q.0 p.1 (c.in_ok-item-in-Record.ensures p.0 p.1) q.1 in
    ap (λ (y : DataRecord). Step.Record (Record.Change y)) d ∙ sym q.2

pub returns-in_ok-item-in-Children : goal.returns-in_ok-item-in-Children
returns-in_ok-item-in-Children c = λ s x h i.
    let q : IsStep s (StepPlace.Children c.in-Children.place) x = subst (λ p. IsStep s p x) c.in-Children.is i in
    let group : q.0 ≡ take 1024 (drop (1024 * c.in-Children.place) c.args.from.now.children.now) =
    chunk 1024 s.children (omega arith) c.in-Children.place q.0 q.1 ∙ ap (λ (l : List Child). take 1024 (drop (1024 * c.in-Children.place) l)) h.children_are in
    ap (λ (k : ChildRecord). Step.Record (Record.Children k)) c.in_ok-item-in-Children.ensures
    ∙ (λ j. Step.Record (Record.Children (record { start = sym h.start_is j; sequence = c.in-Children.place; children = sym group j })))
    ∙ sym q.2
