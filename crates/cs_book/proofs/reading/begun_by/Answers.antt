use Rattle.std.proofs.Common.{◌≡◌, Some, None, Option, subst, sym}
use Rattle.cs_schedule.specs.declared.entry.Entry.{Entry}
use Rattle.cs_schedule.specs.declared.entry.Entry.TheVariants.{Begin}
use Rattle.cs_schedule.specs.Spelling.{Spells}
use Rattle.cs_book.proofs.reading.begun_by.Goals as goal

pub returns-in-Some-Begin : goal.returns-in-Some-Begin
returns-in-Some-Begin c = subst (Spells c.args.payload.now) c.in-Some-Begin.field-0-is ((c.in_ok-window.ensures.exact c.in-Some-Begin.field-0).0 c.in-Some-Begin.is)

pub returns-in-Some-Opened : goal.returns-in-Some-Opened
returns-in-Some-Opened c = λ w spells.
    let at : c.in_ok-window.field-0 ≡ Some (Begin w) = (c.in_ok-window.ensures.exact (Begin w)).1 spells in
    let is = c.in-Some-Opened.is in
    let field = c.in-Some-Opened.field-0-is in
    absurd cc

pub returns-in-Some-Progress : goal.returns-in-Some-Progress
returns-in-Some-Progress c = λ w spells.
    let at : c.in_ok-window.field-0 ≡ Some (Begin w) = (c.in_ok-window.ensures.exact (Begin w)).1 spells in
    let is = c.in-Some-Progress.is in
    let field = c.in-Some-Progress.field-0-is in
    absurd cc

pub returns-in-Some-Finished : goal.returns-in-Some-Finished
returns-in-Some-Finished c = λ w spells.
    let at : c.in_ok-window.field-0 ≡ Some (Begin w) = (c.in_ok-window.ensures.exact (Begin w)).1 spells in
    let is = c.in-Some-Finished.is in
    let field = c.in-Some-Finished.field-0-is in
    absurd cc

pub returns : goal.returns
returns c = λ w spells.
    let at : c.in_ok-window.field-0 ≡ Some (Begin w) = (c.in_ok-window.ensures.exact (Begin w)).1 spells in
    let is = c.in-None.is in
    absurd cc
