use Rattle.std.proofs.Common.{length, arith, ap}
use Rattle.cs_tool.proofs.Told.{still_fits}
use Rattle.cs_tool.proofs.check.bytes_of.Goals as goal

pub read-requires : goal.read-requires
read-requires g c =
    still_fits (g.O.Disk.seen c.args.output.now) (g.O.Disk.seen c.len.new.self) c.in-Ok.count (length c.deref_mut.result.now) c.in-Ok.ensures.length c.in-Ok.ensures.kept
    (λ e. g.met.O.Disk.silent _ _ c.len.ensures.object e) (omega (arith, ap length c.deref_mut.ensures.value, c.in_ok-bytes.ensures, c.in-Ok-try_from.ensures))
