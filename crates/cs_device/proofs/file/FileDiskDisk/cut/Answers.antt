use Rattle.cs_device.specs.Images.{not_shortened}
use Rattle.cs_device.proofs.Unknown.{anything_may}
use Rattle.cs_device.proofs.file.FileDiskDisk.cut.Goals as goal

pub returns-clause-crash : goal.returns-clause-crash
returns-clause-crash g c = anything_may _ (not_shortened c.args.to)
