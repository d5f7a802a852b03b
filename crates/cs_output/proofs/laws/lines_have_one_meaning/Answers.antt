use Rattle.cs_output.proofs.Meanings.{same_text, one_meaning}
use Rattle.cs_output.proofs.OneReading.{same_line}
use Rattle.cs_output.proofs.Moments.{MomentTexts}
use Rattle.cs_output.proofs.laws.lines_have_one_meaning.Goals as goal

pub returns : goal.returns
returns c =
    let texts : MomentTexts = record { plain = c.moment_texts_are_plain.ensures.plain; differ = c.moment_texts_are_plain.ensures.differ; stamps = c.moment_texts_are_plain.ensures.stamps } in
    record { line = same_line texts; text = same_text; meaning = one_meaning texts }
