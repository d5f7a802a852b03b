use Rattle.std.proofs.Common.{◌∙◌, List, length, ap}
use Rattle.cs_read.specs.declared.laying.LaidStep.{LaidStep}
use Rattle.cs_read.specs.Content.{source_read}
use Rattle.cs_read.specs.Whole.{content_of}
use Rattle.cs_read.proofs.Laid.{as_many}
use Rattle.cs_read.proofs.answer.Answer.steps.Goals as goal

pub returns : goal.returns
returns c = λ db all h. ap (λ (l : List LaidStep). length l) c.as_slice.ensures ∙ as_many (source_read (content_of db h.read h.layout) c.args.self.now.reading) c.args.self.now.laid all h.steps
