use Rattle.std.proofs.Common.{◌≡◌, ◌∙◌, ◌*◌, List, [], Option, Some, length, cond, slice_get, sym, ap, subst}
use Rattle.std.proofs.lemmas.Option.{slice_get-get_or}
use Rattle.cs_place.specs.declared.part.Part.{Part}
use Rattle.cs_records.specs.declared.records.Child.{Child}
use Rattle.cs_records.specs.declared.records.DataRecord.{DataRecord}
use Rattle.cs_link.specs.Reading.{end_of}
use Rattle.cs_steps.specs.Cursor.{Source, IsAt, closing_of, steps_from}
use Rattle.cs_steps.specs.Records.{data_records}
use Rattle.cs_steps.specs.Steps.{Asked, child_groups, children_of, has_ended, last_moment, top_of}
use Rattle.cs_read.specs.Asked.{asked_of}
use Rattle.cs_read.specs.Content.{records_in, part_at}
use Rattle.cs_read.proofs.Openings.{opened_as}
use Rattle.cs_read.proofs.reading.of_part.Goals as goal

pub returns-clause-reading : goal.returns-clause-reading
returns-clause-reading c =
    let lists : c.list_count-lists.result ≡ length (child_groups c.in_ok-children.children) = c.list_count-lists.ensures ∙ ap (λ (l : List Child). length (child_groups l)) c.as_slice.ensures in
    record {
      part = c.requires.at.0;
      children = c.in_ok-children.ensures.few;
      cursor = c.over-cursor.ensures.cursor (record { records = records_in c.args.of.now (part_at c.args.of.now.parts (Some c.args.place)); start = c.children_from.result; children = c.in_ok-children.children }) c.lines-lines.ensures.stamps lists;
    }

pub returns-clause-steps : goal.returns-clause-steps
returns-clause-steps c =
    let parts : List Part = c.args.of.now.parts in
    let asked : Asked = asked_of c.args.args.now c.args.moment c.args.part.now in
    let lists : c.list_count-lists.result ≡ length (child_groups c.in_ok-children.children) = c.list_count-lists.ensures ∙ ap (λ (l : List Child). length (child_groups l)) c.as_slice.ensures in
    let all : List DataRecord = records_in c.args.of.now (part_at parts (Some c.args.place)) in
    let source : Source = record { records = all; start = c.children_from.result; children = c.in_ok-children.children } in
    let found : slice_get parts c.args.place ≡ Some c.args.part.now = slice_get-get_or parts c.args.place c.args.part.now c.requires.at.0 ∙ ap (λ (p : Part). Some p) c.requires.at.1 in
    let records : all ≡ data_records parts c.args.part.now c.args.of.now.items = ap (λ (o : Option Part). records_in c.args.of.now o) found in
    let start : c.span_of-span.result.start ≡ c.args.args.now.start = c.span_of-span.ensures.start in
    let end : c.span_of-span.result.end ≡ end_of c.args.args.now = c.span_of-span.ensures.end in
    let moment : c.span_of-span.result.moment ≡ c.args.moment = c.span_of-span.ensures.moment in
    let gap : c.span_of-span.result.gap ≡ c.args.args.now.heartbeat_ms * 1000 = c.span_of-span.ensures.gap in
    let has : c.has_ended.result ≡ has_ended (end_of c.args.args.now) c.args.moment c.args.part.now.until = c.has_ended.ensures ∙ (λ i. has_ended (end i) (moment i) c.args.part.now.until) in
    let top : c.top_of-top.result ≡ top_of asked = c.top_of-top.ensures ∙ (λ i. last_moment (end i) (moment i) c.args.part.now.until) in
    let closing : c.closing_of-closing.result ≡ closing_of (end_of c.args.args.now) c.args.moment c.args.part.now.until = c.closing_of-closing.ensures ∙ (λ i. closing_of (end i) (moment i) c.args.part.now.until) in
    let layout : c.layout.result.now.parts ≡ parts = c.layout.ensures in
    let at : IsAt c.layout.result.now.parts c.args.place c.args.part.now = subst (λ (ps : List Part). IsAt ps c.args.place c.args.part.now) (sym layout) c.requires.at in
    let children : c.in_ok-children.children ≡ cond (has_ended (end_of c.args.args.now) c.args.moment c.args.part.now.until) (children_of parts c.args.part.now) [] =
    c.in_ok-children.ensures.children c.args.part.now at ∙ (λ i. cond (has i) (children_of (layout i) c.args.part.now) []) in
    c.over-cursor.ensures.steps source c.lines-lines.ensures.stamps lists
    ∙ (λ i. steps_from source (gap i) (top i) (start i) (closing i))
    ∙ opened_as parts c.args.of.now.items asked all c.children_from.result c.in_ok-children.children asked.gap (top_of asked) asked.start (closing_of asked.end asked.moment asked.part.until) c.span_of-span.result.start records c.children_from.ensures children
    ∙ c.steps_are_those_of_the_records-steps.ensures.steps parts c.args.of.now.items asked
