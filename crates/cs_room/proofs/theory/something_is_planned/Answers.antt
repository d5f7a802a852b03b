use Rattle.cs_room.proofs.Planned.{read_brings_on, first_brings_on, some_planned}
use Rattle.cs_room.proofs.theory.something_is_planned.Goals as goal

pub returns-clause-brings : goal.returns-clause-brings
returns-clause-brings c = read_brings_on

pub returns-clause-first : goal.returns-clause-first
returns-clause-first c = first_brings_on

pub returns-clause-some : goal.returns-clause-some
returns-clause-some c = some_planned
