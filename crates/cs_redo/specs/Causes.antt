-- When a file is not made to hold its text. This project's own.
use Rattle.std.specs.Prelude.{◌≡◌, ◌≤◌, ℕ, Result, OnOk, IsErrOf}
use Rattle.cs_device.specs.Causes.{Rose}
use Rattle.cs_redo.specs.declared.fault.RedoFault.{RedoFault}
use Rattle.cs_redo.specs.declared.fault.RedoFault.TheVariants as faults

-- the count of the disk does not fall, it rose where `DiskFault` is answered, and it stays where the call is done
pub record HasDiskCause {T : Type 0} (before now : ℕ) (result : Result T RedoFault) : Type 0 where
  pub later : before ≤ now
  pub failed : IsErrOf result faults.DiskFault → Rose before now
  pub kept : OnOk result (now ≡ before)
