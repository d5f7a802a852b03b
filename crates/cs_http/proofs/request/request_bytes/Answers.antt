use Rattle.std.proofs.Common.{pos}
use Rattle.cs_http.proofs.Queries.{reads_of}
use Rattle.cs_http.proofs.request.request_bytes.Goals as goal

pub returns-clause-reads : goal.returns-clause-reads
returns-clause-reads c =
    reads_of c.request.result (λ us is. c.moment_texts_are_plain.ensures.plain (pos us) (c.moment_texts_are_plain.ensures.stamps us is)) c.args.args.now c.request.ensures.kept c.request.ensures.text
