use Rattle.cs_records.proofs.Runs.{run_items, run_changes, run_sound}
use Rattle.cs_records.proofs.laws.runs_are_told.Goals as goal

pub returns : goal.returns
returns c = record { items = run_items; changes = run_changes; sound = run_sound }
