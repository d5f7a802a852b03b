use Rattle.cs_script.proofs.Places.{first_place}
use Rattle.cs_script.proofs.reader.place_of_end.Goals as goal

pub returns : goal.returns
returns c = first_place 10 c.args.bytes.now c.memchr.result c.memchr.ensures
