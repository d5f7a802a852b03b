use Rattle.std.proofs.Common.{◌≡◌, ◌≤◌, ◌-◌, length, IfSome}
use Rattle.std.specs.Io.KnownBytes.{Keeps}
use Rattle.cs_device.specs.Crash.{CrashesLeave}
use Rattle.cs_device.specs.Disk.{ReadsAt}
use Rattle.cs_journal.specs.Rows.{place_behind}
use Rattle.cs_journal.proofs.Walk.{Walked}
use Rattle.cs_journal.proofs.read.read_entries.Given as goal

abbrev pub invariant-entries : goal.invariant-entries
invariant-entries g l = record {
  walked : Walked (g.J.Disk.seen l.fn.disk) l.gate l.stored;
  few : length l.stored ≤ l.gate;
  place : l.gate ≡ place_behind 0 l.stored;
  within : l.gate ≤ l.len;
  window : ReadsAt (g.J.Disk.seen l.disk) l.window.at l.window.held;
  told : IfSome (g.J.Disk.seen l.disk) (λ bytes. l.len ≡ length bytes);
  kept : Keeps (g.J.Disk.seen l.fn.disk) (g.J.Disk.seen l.disk);
  quiet : CrashesLeave (g.J.Disk.crash l.fn.disk).may_leave (g.J.Disk.crash l.fn.disk) (g.J.Disk.crash l.disk);
  object : g.J.Disk.same l.fn.disk l.disk;
  count : g.J.Disk.faults l.disk ≡ g.J.Disk.faults l.fn.disk;
}

abbrev pub decreases-entries : goal.decreases-entries
decreases-entries g l = l.len - l.gate
