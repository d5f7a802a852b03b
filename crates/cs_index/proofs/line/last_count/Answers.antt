use Rattle.std.proofs.Common.{sym, arith}
use Rattle.cs_index.proofs.Finishing.{last_count_at}
use Rattle.cs_index.proofs.line.last_count.Goals as goal

pub returns : goal.returns
returns c = sym (last_count_at c.args.records.now c.index-records-count.result (omega arith))
