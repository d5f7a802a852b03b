use Rattle.std.proofs.Common.{refl}
use Rattle.cs_types.specs.Change.{wanted_changes}
use Rattle.cs_schedule.specs.Outline.{events_of}
use Rattle.cs_text.specs.Output.{lines_of}
use Rattle.cs_text.proofs.Good.{lines_good, lines_complete}
use Rattle.cs_text.proofs.laws.consistent_texts_are_good.Goals as goal

pub returns-clause-good : goal.returns-clause-good
returns-clause-good c = λ f w es F late in_window S.
    (lines_of w es, refl, lines_good (events_of w es) (wanted_changes w.start w.end f.wanted) w.end (c.consistent_journals_are_good.ensures.good f w es F late in_window S))

pub returns-clause-complete : goal.returns-clause-complete
returns-clause-complete c = λ f w es r F late in_window S i all.
    (lines_of w es, refl, lines_complete (events_of w es) (wanted_changes w.start w.end f.wanted) w.end (c.consistent_journals_are_good.ensures.complete f w es r F late in_window S i all))
