use Rattle.std.proofs.Common.{pos}
use Rattle.cs_http.proofs.RecordLines.{record_line_step}
use Rattle.cs_http.proofs.WrittenTexts.{step_no_end, step_length, closing_step}
use Rattle.cs_http.proofs.texts.written_steps_are_lines.Goals as goal

pub returns : goal.returns
returns c =
    let plain = c.moment_texts_are_plain.ensures in
    record {
      no_end = step_no_end (λ us is. plain.no_end (pos us) (plain.stamps us is));
      room = step_length;
      closings = closing_step c.written_stamps_read_back.ensures.read;
      records = record_line_step;
    }
