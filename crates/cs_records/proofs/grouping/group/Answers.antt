use Rattle.std.proofs.Common.{◌∙◌, map, ap, sym}
use Rattle.cs_records.specs.declared.captured.Captured.{Captured}
use Rattle.cs_records.proofs.Groups.{of_one, records_of, all_changes}
use Rattle.cs_records.proofs.Sound.{sound}
use Rattle.cs_records.proofs.grouping.group.Goals as goal

pub returns : goal.returns
returns c =
    let ones = of_one c.args.captured.now c.requires.agree c.requires.columns in
    let records = records_of c.args.next_sequence c.args.captured.now c.in_ok-records.records ones c.in_ok-records.ensures in
    record {
      records = records;
      changes = sym (all_changes c.in_ok-records.records) ∙ ap (map (λ (x : Captured). x.change)) records.told;
      sound = sound c.args.next_sequence c.args.captured.now c.in_ok-records.records ones c.requires.columns c.requires.rows c.in_ok-records.ensures;
    }
