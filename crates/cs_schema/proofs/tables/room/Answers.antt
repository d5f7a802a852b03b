use Rattle.std.proofs.Common.{rules}
use Rattle.cs_schema.proofs.Places.{room_same}
use Rattle.cs_schema.proofs.tables.room.Goals as goal

pub returns-in_ok-insert-clause-same : goal.returns-in_ok-insert-clause-same
returns-in_ok-insert-clause-same c = λ q. room_same c.args.places.now c.insert.new.self c.args.name.now q (search rules) (search rules)
