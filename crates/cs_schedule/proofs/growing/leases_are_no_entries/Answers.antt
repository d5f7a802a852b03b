use Rattle.std.proofs.Common.{◌∙◌, ap, map}
use Rattle.cs_schedule.specs.Board.{fresh}
use Rattle.cs_schedule.proofs.Leases.{same_board, fresh_leased, fresh_given, fresh_again, leased_comes}
use Rattle.cs_schedule.proofs.growing.leases_are_no_entries.Goals as goal

pub returns-clause-lease : goal.returns-clause-lease
returns-clause-lease c = λ es b d place is B. same_board es b d is.0 (ap (map fresh) is.1 ∙ fresh_leased place b.rows) B

pub returns-clause-back : goal.returns-clause-back
returns-clause-back c = λ es b d caught_up place v q B. same_board es b d v (ap (map fresh) q ∙ fresh_given caught_up place b.rows) B

pub returns-clause-fresh : goal.returns-clause-fresh
returns-clause-fresh c = λ es b d v q B. same_board es b d v (ap (map fresh) q ∙ fresh_again b.rows) B

pub returns-clause-comes : goal.returns-clause-comes
returns-clause-comes c = λ f b d place r x O P is l at reads t F. leased_comes f b d place r x O P is.0 is.1 l at reads t F
