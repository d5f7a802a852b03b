use Rattle.std.proofs.Common.{◌-◌, ◌+◌, ◌≡◌, ◌≤◌, length, drop, IfSome}
use Rattle.std.specs.Io.KnownBytes.{Keeps}
use Rattle.cs_device.specs.Crash.{CrashesLeave}
use Rattle.cs_redo.specs.Agreeing.{agreeing}
use Rattle.cs_redo.proofs.comparing.agree.Given as goal

abbrev pub invariant-pieces : goal.invariant-pieces
invariant-pieces g l = record {
  within : l.at ≤ l.most;
  most : (l.most ≤ length l.text) × (l.most ≤ l.len);
  so_far : IfSome (g.O.Disk.seen l.fn.disk) (λ bytes. agreeing bytes l.text ≡ l.at + agreeing (drop l.at bytes) (drop l.at l.text));
  told : IfSome (g.O.Disk.seen l.disk) (λ bytes. l.len ≡ length bytes);
  kept : Keeps (g.O.Disk.seen l.fn.disk) (g.O.Disk.seen l.disk);
  quiet : CrashesLeave (g.O.Disk.crash l.fn.disk).may_leave (g.O.Disk.crash l.fn.disk) (g.O.Disk.crash l.disk);
  room : length l.room ≡ length l.fn.room;
  object : g.O.Disk.same l.fn.disk l.disk;
  count : g.O.Disk.faults l.disk ≡ g.O.Disk.faults l.fn.disk;
}

abbrev pub decreases-pieces : goal.decreases-pieces
decreases-pieces g l = l.most - l.at
