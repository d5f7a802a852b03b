use Rattle.std.proofs.Common.{◌+◌, ◌/◌, length, arith}
use Rattle.cs_read.proofs.Groups.{count_is}
use Rattle.cs_read.proofs.children.list_count.Goals as goal

pub returns : goal.returns
returns c = count_is c.args.children.now ((length c.args.children.now + 1023) / 1024) (omega arith) (omega arith)
