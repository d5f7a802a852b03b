use Rattle.cs_room.proofs.Carried.{entry_lowers, entry_carried}
use Rattle.cs_room.proofs.theory.entries_are_carried.Goals as goal

pub returns-clause-lowers : goal.returns-clause-lowers
returns-clause-lowers c = λ f es b x e P on. entry_lowers c.boards_stay_consistent.ensures.batch c.journals_stay_consistent.ensures.rows c.rows_stay_right.ensures.planned f es b x e P on

pub returns-clause-carried : goal.returns-clause-carried
returns-clause-carried c = λ f es b x e gate limit P on h. entry_carried c.boards_stay_consistent.ensures.batch c.journals_stay_consistent.ensures.rows c.rows_stay_right.ensures.planned f es b x e P gate limit on h
