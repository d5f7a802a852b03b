use Rattle.cs_output.proofs.ChangeLines.{same_tx}
use Rattle.cs_output.proofs.Moments.{MomentTexts}
use Rattle.cs_output.proofs.Told.{same_kind, same_table, same_stamp, same_row, same_change}
use Rattle.cs_output.proofs.laws.lines_tell_changes.Goals as goal

pub returns : goal.returns
returns c =
    let texts : MomentTexts = record { plain = c.moment_texts_are_plain.ensures.plain; differ = c.moment_texts_are_plain.ensures.differ; stamps = c.moment_texts_are_plain.ensures.stamps } in
    let differ = c.written_values_differ.ensures in
    record {
      transaction = same_tx;
      kind = λ a b e. same_kind texts differ a b e;
      table = λ a b e. same_table texts differ a b e;
      stamp = λ a b is_a is_b e. same_stamp texts differ a b e is_a is_b;
      row = λ a b one e. same_row texts differ a b e one;
      change = λ a b one e. same_change texts differ a b e one;
    }
