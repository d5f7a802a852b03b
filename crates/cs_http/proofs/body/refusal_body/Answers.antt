use Rattle.std.proofs.Common.{pos}
use Rattle.cs_http.proofs.BodyLines.{one_line, short_line}
use Rattle.cs_http.proofs.Bodies.{reads_back}
use Rattle.cs_http.proofs.body.refusal_body.Goals as goal

pub returns-clause-reads : goal.returns-clause-reads
returns-clause-reads c = reads_back c.written_stamps_read_back.ensures.read c.args.refusal.now c.in_ok-body.body c.in_ok-body.ensures.kept c.in_ok-body.ensures.text

pub returns-clause-no_end : goal.returns-clause-no_end
returns-clause-no_end c =
    λ h. one_line (λ us is. c.moment_texts_are_plain.ensures.no_end (pos us) (c.moment_texts_are_plain.ensures.stamps us is)) c.args.refusal.now c.in_ok-body.body c.in_ok-body.ensures.kept c.in_ok-body.ensures.text h

pub returns-clause-room : goal.returns-clause-room
returns-clause-room c = short_line c.args.refusal.now c.in_ok-body.body c.in_ok-body.ensures.text
