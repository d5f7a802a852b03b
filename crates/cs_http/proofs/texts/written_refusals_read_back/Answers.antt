use Rattle.std.proofs.Common.{pos}
use Rattle.cs_http.proofs.WrittenTexts.{refusal_read, refusal_no_end, refusal_length}
use Rattle.cs_http.proofs.texts.written_refusals_read_back.Goals as goal

pub returns : goal.returns
returns c =
    let plain = c.moment_texts_are_plain.ensures in
    record {
      read = refusal_read c.written_stamps_read_back.ensures.read;
      no_end = refusal_no_end (λ us is. plain.no_end (pos us) (plain.stamps us is));
      room = refusal_length;
    }
