use Rattle.cs_room.proofs.Carried.{low_of, entry_low}
use Rattle.cs_room.proofs.Lows.{low_below}
use Rattle.cs_room.proofs.theory.reads_start_at_low.Goals as goal

pub returns-clause-of : goal.returns-clause-of
returns-clause-of c = low_of

pub returns-clause-stays : goal.returns-clause-stays
returns-clause-stays c = λ f es b x e P. entry_low c.boards_stay_consistent.ensures.batch c.journals_stay_consistent.ensures.rows c.rows_stay_right.ensures.planned f es b x e P

pub returns-clause-due : goal.returns-clause-due
returns-clause-due c = low_below
