use Rattle.std.proofs.Common.{◌≤◌, List, length, refl, sym, subst}
use Rattle.cs_records.specs.declared.records.Child.{Child}
use Rattle.cs_read.specs.Content.{source_read}
use Rattle.cs_read.proofs.reading.Reading.step_at.Goals as goal

pub step-requires : goal.step-requires
step-requires c = (
  source_read c.args.of.now c.args.self.now,
  c.requires.there.0,
  record {
    records = c.lines.ensures.records;
    some = c.lines.ensures.some;
    within = c.lines.ensures.within;
    there = c.lines.ensures.there;
    start_is = refl;
    children_are = sym c.as_slice.ensures;
    few = subst (λ (l : List Child). length l ≤ 65536) (sym c.as_slice.ensures) c.requires.reading.children;
  },
  c.requires.there.1,
)

pub returns : goal.returns
returns c = λ x i. c.step.ensures (source_read c.args.of.now c.args.self.now) x (record {
  records = c.lines.ensures.records;
  some = c.lines.ensures.some;
  within = c.lines.ensures.within;
  there = c.lines.ensures.there;
  start_is = refl;
  children_are = sym c.as_slice.ensures;
  few = subst (λ (l : List Child). length l ≤ 65536) (sym c.as_slice.ensures) c.requires.reading.children;
}) i
