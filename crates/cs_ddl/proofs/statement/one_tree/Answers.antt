use Rattle.cs_ddl.proofs.Whole.{one}
use Rattle.cs_ddl.proofs.Ends.{statement_reader}
use Rattle.cs_ddl.proofs.statement.one_tree.Goals as goal

pub returns : goal.returns
returns c = λ bytes s r m n. one statement_reader bytes s r m n
