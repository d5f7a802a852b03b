-- Which cells of a row a change tells, by the capture type of its stream and by what the write did, after the four value capture types of Spanner's page 'Change streams overview'; the twelve cases are this project's own.
use Rattle.cs_types.specs.declared.names.CaptureType.{CaptureType}
use Rattle.cs_types.specs.declared.names.CaptureType.TheVariants.{OldAndNewValues, NewValues, NewRow, NewRowAndOldValues}
use Rattle.cs_types.specs.declared.change.Kind.{Kind}
use Rattle.cs_types.specs.declared.change.Kind.TheVariants.{Insert, Update, Delete}
use Rattle.cs_capture.specs.declared.table.Told.TheVariants.{Nothing, Watched, Modified}
use Rattle.cs_capture.specs.declared.table.ToldCells.{ToldCells}

-- the capture table: new cells as the write left them, old cells as they were before it
abbrev pub told_by : CaptureType → Kind → ToldCells
told_by OldAndNewValues Insert = record { new = Watched; old = Nothing }
told_by OldAndNewValues Update = record { new = Modified; old = Modified }
told_by OldAndNewValues Delete = record { new = Nothing; old = Watched }
told_by NewValues Insert = record { new = Watched; old = Nothing }
told_by NewValues Update = record { new = Modified; old = Nothing }
told_by NewValues Delete = record { new = Nothing; old = Nothing }
told_by NewRow Insert = record { new = Watched; old = Nothing }
told_by NewRow Update = record { new = Watched; old = Nothing }
told_by NewRow Delete = record { new = Nothing; old = Nothing }
told_by NewRowAndOldValues Insert = record { new = Watched; old = Nothing }
told_by NewRowAndOldValues Update = record { new = Watched; old = Modified }
told_by NewRowAndOldValues Delete = record { new = Nothing; old = Watched }
