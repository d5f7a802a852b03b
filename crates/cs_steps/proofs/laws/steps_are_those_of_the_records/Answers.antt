use Rattle.std.proofs.Common.{arith}
use Rattle.cs_steps.proofs.Chunks.{chunk}
use Rattle.cs_steps.proofs.Sources.{source_steps}
use Rattle.cs_steps.proofs.laws.steps_are_those_of_the_records.Goals as goal

pub returns : goal.returns
returns c = record { steps = source_steps; children = λ children k group i. chunk 1024 children (omega arith) k group i }
