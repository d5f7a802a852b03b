use Rattle.cs_ddl.proofs.Whole.{one}
use Rattle.cs_ddl.proofs.QueryWhole.{query_reader}
use Rattle.cs_ddl.proofs.query.one_query.Goals as goal

pub returns : goal.returns
returns c = λ bytes s r m n. one query_reader bytes s r m n
