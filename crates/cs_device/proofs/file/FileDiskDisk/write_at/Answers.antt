use Rattle.std.proofs.Common.{length}
use Rattle.cs_device.specs.Images.{not_torn}
use Rattle.cs_device.proofs.Unknown.{anything_may}
use Rattle.cs_device.proofs.file.FileDiskDisk.write_at.Goals as goal

pub returns-clause-crash : goal.returns-clause-crash
returns-clause-crash g c = anything_may _ (not_torn c.args.at (length c.args.bytes.now))
