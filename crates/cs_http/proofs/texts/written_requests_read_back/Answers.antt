use Rattle.std.proofs.Common.{pos}
use Rattle.cs_http.proofs.Queries.{query_reads}
use Rattle.cs_http.proofs.texts.written_requests_read_back.Goals as goal

pub returns : goal.returns
returns c =
    let plain = c.moment_texts_are_plain.ensures in
    query_reads (λ us is. plain.plain (pos us) (plain.stamps us is))
