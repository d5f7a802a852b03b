use Rattle.std.proofs.Common.{ap, sym, ◌∙◌, Some, None}
use Rattle.cs_http.specs.RefusalLine.{number_reading}
use Rattle.cs_http.specs.Line.{and_then}
use Rattle.cs_http.proofs.Between.{between_is}
use Rattle.cs_http.proofs.refusal.place_of.Goals as goal

pub returns-in-None : goal.returns-in-None
returns-in-None c = sym (ap (and_then number_reading) (between_is c.args.front.now c.args.back.now c.args.line.now None c.in-None.ensures))

pub returns-in-Some : goal.returns-in-Some
returns-in-Some c = c.number_of.ensures ∙ sym (ap (and_then number_reading) (between_is c.args.front.now c.args.back.now c.args.line.now (Some c.in-Some.text.now) c.in-Some.ensures))
