use Rattle.std.proofs.Common.{◌≡◌, ◌∙◌, List, [], length, refl, ap}
use Rattle.cs_records.specs.declared.records.Child.{Child}
use Rattle.cs_steps.specs.Steps.{child_groups}
use Rattle.cs_read.proofs.reading.of_start.Goals as goal

pub returns-clause-reading : goal.returns-clause-reading
returns-clause-reading c =
    let lists : c.list_count-lists.result ≡ length (child_groups c.in_ok-children.children) = c.list_count-lists.ensures ∙ ap (λ (l : List Child). length (child_groups l)) c.as_slice.ensures in
    record {
      part = tt;
      children = c.in_ok-children.ensures.few;
      cursor = c.over-cursor.ensures.cursor (record { records = []; start = c.args.start; children = c.in_ok-children.children }) refl lists;
    }
