use Rattle.cs_ddl.proofs.Loop.{no_front}
use Rattle.cs_ddl.proofs.list.list.Goals as goal

pub returns : goal.returns
returns g c = no_front c.list_behind.result (λ xs. (xs, c.list_behind.new.cursor)) _ (rw c.new.ensures at c.list_behind.ensures)
