use Rattle.cs_server.proofs.Queries.{as_queries}
use Rattle.cs_server.proofs.laws.answers_are_those_of_queries.Goals as goal

pub returns : goal.returns
returns c = as_queries
