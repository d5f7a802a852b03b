use Rattle.std.proofs.Common.{refl}
use Rattle.cs_script.proofs.Advancing.{front_read}
use Rattle.cs_script.proofs.reader.Reader.take_front.Goals as goal

pub returns-clause-given : goal.returns-clause-given
returns-clause-given c = λ before read. front_read c.args.self.now _ before c.args.front.now read c.requires refl refl c.in_ok-extend_from_slice.ensures.items
