use Rattle.std.proofs.Common.{refl}
use Rattle.cs_text.proofs.Growing.{output_more, mark_more}
use Rattle.cs_text.proofs.laws.texts_are_by_entries.Goals as goal

pub returns-clause-text : goal.returns-clause-text
returns-clause-text c = output_more

pub returns-clause-mark : goal.returns-clause-mark
returns-clause-mark c = mark_more

pub returns-clause-first : goal.returns-clause-first
returns-clause-first c = λ w. (refl, refl)
