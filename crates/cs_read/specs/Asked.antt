-- The steps that answer a READ with typed arguments, which no refusal meets: those of the part that its token names, or, without a token, those of the start (Spanner's page on querying a change stream, 'Change stream query syntax').
use Rattle.std.specs.Prelude.{ℕ, ◌*◌, List, [], Option, None, Some}
use Rattle.cs_place.specs.declared.part.Part.{Part}
use Rattle.cs_records.specs.declared.captured.Captured.{Captured}
use Rattle.cs_partitions.specs.Reshape.{part_named}
use Rattle.cs_link.specs.declared.reading.ReadArgs.{ReadArgs}
use Rattle.cs_link.specs.declared.reading.Step.{Step}
use Rattle.cs_link.specs.Reading.{end_of}
use Rattle.cs_steps.specs.Steps.{Asked, steps_of_part, steps_of_start}

-- what the arguments ask of a part: up to the greatest stamp where they give no end, and with a gap of as many microseconds as the heartbeat has milliseconds, a thousandfold
abbrev pub asked_of : ReadArgs → ℕ → Part → Asked
asked_of args moment part = record { part = part; start = args.start; end = end_of args; moment = moment; gap = args.heartbeat_ms * 1000 }

abbrev pub steps_of_named : List Part → List Captured → ReadArgs → ℕ → Option Part → List Step
steps_of_named parts items args moment None = []
steps_of_named parts items args moment (Some part) = steps_of_part parts items (asked_of args moment part)

abbrev pub steps_by_token : List Part → List Captured → ReadArgs → ℕ → Option (List ℕ) → List Step
steps_by_token parts items args moment None = steps_of_start parts args.start
steps_by_token parts items args moment (Some token) = steps_of_named parts items args moment (part_named token parts)

-- the steps of a stream that has these parts, and that captured this
abbrev pub steps_asked : List Part → List Captured → ReadArgs → ℕ → List Step
steps_asked parts items args moment = steps_by_token parts items args moment args.token
