use Rattle.std.specs.Io.KnownBytes.{Keeps}
use Rattle.cs_device.proofs.file.write_retrying.Given as goal

abbrev pub invariant-turns : goal.invariant-turns
invariant-turns g l = record { kept : Keeps (g.W.Write.contents l.fn.inner) (g.W.Write.contents l.inner) }
