use Rattle.std.proofs.Common.{◌≤◌, take, drop}
use Rattle.cs_device.specs.Log.{HasNoSync}
use Rattle.cs_device.proofs.image.up_to_sync.Given as goal

abbrev pub invariant-calls : goal.invariant-calls
invariant-calls l = record { before : l.count ≤ l.at; no_sync : HasNoSync (drop l.count (take l.at l.log)) }
