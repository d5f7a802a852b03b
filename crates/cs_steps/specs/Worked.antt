-- Worked answers, to see the definitions at work.
use Rattle.std.specs.Prelude.{◌≡◌, ℕ, true, false, pos, List, [], ◌∷◌, None, Some, codes}
use Rattle.cs_types.specs.declared.change.Kind.{Kind}
use Rattle.cs_types.specs.declared.names.CaptureType.{CaptureType}
use Rattle.cs_types.specs.declared.value.Value.{Value}
use Rattle.cs_types.specs.declared.cells.Cell.{Cell}
use Rattle.cs_types.specs.declared.column_type.ColumnType.{ColumnType}
use Rattle.cs_place.specs.declared.part.Part.{Part}
use Rattle.cs_records.specs.declared.captured.Captured.{Captured}
use Rattle.cs_records.specs.declared.records.Record.{Record}
use Rattle.cs_link.specs.declared.reading.Closing.{Closing}
use Rattle.cs_link.specs.declared.reading.Step.{Step}
use Rattle.cs_steps.specs.Records.{record_of}
use Rattle.cs_steps.specs.Steps.{Asked, steps_of_part, steps_of_start}

abbrev pub cell : List ℕ → ℕ → Cell
cell column n = record { column = column; value = Value.Int64 (pos n) }

-- an insert of a row of the table T, whose key is K and whose other column is A
abbrev pub insert : List ℕ → ℕ → ℕ → Captured
insert tx key stamp = record {
  change = record { stamp = stamp; tx = tx; row = record { table = codes "T"; key = cell (codes "K") key ∷ [] }; kind = Kind.Insert; new = cell (codes "A") 5 ∷ []; old = [] };
  columns = record { name = codes "K"; ty = ColumnType.Int64; is_key = true; ordinal = 1 } ∷ record { name = codes "A"; ty = ColumnType.Int64; is_key = false; ordinal = 2 } ∷ [];
  capture = CaptureType.NewValues;
  tag = [];
  system = false;
}

-- the whole of a stream
abbrev pub all_places : Part
all_places = record { token = codes "S-00000"; parents = []; range = record { low = record { bytes = [] }; high = None }; from = 1000000; until = None }

-- one insert at a second, read to the twentieth, with heartbeats every ten seconds
abbrev pub asked_at : ℕ → Asked
asked_at moment = record { part = all_places; start = 1000000; end = 20000000; moment = moment; gap = 10000000 }

abbrev pub the_record : Step
the_record = Step.Record (Record.Change (record_of (record { records = 1; parts = 1 }) 0 true (insert (codes "t1") 1 1000000) (insert (codes "t1") 1 1000000 ∷ [])))

-- at the first second the answer has caught up
abbrev pub CatchesUp : Type 0
CatchesUp = steps_of_part (all_places ∷ []) (insert (codes "t1") 1 1000000 ∷ []) (asked_at 1000000) ≡ the_record ∷ Step.Closing (Closing.CaughtUp 1000000) ∷ []

-- at the twentieth it has a heartbeat there, and ends
abbrev pub Finishes : Type 0
Finishes = steps_of_part (all_places ∷ []) (insert (codes "t1") 1 1000000 ∷ []) (asked_at 20000000) ≡ the_record ∷ Step.Record (Record.Heartbeat 20000000) ∷ Step.Closing Closing.Finished ∷ []

abbrev pub part_of : List ℕ → List (List ℕ) → List ℕ → ℕ → Part
part_of token parents low from = record { token = token; parents = parents; range = record { low = record { bytes = low }; high = None }; from = from; until = None }

-- a part that ends at six seconds, where two others follow on it, and another that ends there too
abbrev pub left : Part
left = record { token = codes "S-00001"; parents = []; range = record { low = record { bytes = [] }; high = Some (record { bytes = 84 ∷ 0 ∷ 2 ∷ [] }) }; from = 2000000; until = Some 6000000 }

abbrev pub right : Part
right = record { token = codes "S-00002"; parents = []; range = record { low = record { bytes = 84 ∷ 0 ∷ 2 ∷ [] }; high = None }; from = 2000000; until = Some 6000000 }

abbrev pub shifted : List Part
shifted = left ∷ right ∷ part_of (codes "S-00004") (codes "S-00001" ∷ codes "S-00002" ∷ []) (84 ∷ 0 ∷ 1 ∷ []) 6000000 ∷ part_of (codes "S-00003") (codes "S-00001" ∷ []) [] 6000000 ∷ []

-- its answer lists them in order of low
abbrev pub Shifts : Type 0
Shifts = steps_of_part shifted [] (record { part = left; start = 2000000; end = 10000000; moment = 10000000; gap = 10000000 })
    ≡ Step.Record (Record.Children (record { start = 6000000; sequence = 0; children = record { token = codes "S-00003"; parents = codes "S-00001" ∷ [] } ∷ record { token = codes "S-00004"; parents = codes "S-00001" ∷ codes "S-00002" ∷ [] } ∷ [] })) ∷ Step.Closing Closing.Finished ∷ []

-- without a part the live ones are listed, without parents
abbrev pub Begins : Type 0
Begins = steps_of_start shifted 6000000 ≡ Step.Record (Record.Children (record { start = 6000000; sequence = 0; children = record { token = codes "S-00003"; parents = [] } ∷ record { token = codes "S-00004"; parents = [] } ∷ [] })) ∷ Step.Closing Closing.Finished ∷ []
