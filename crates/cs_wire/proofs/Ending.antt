-- A connection that ends where no line ends has given all lines of its answer.
use Rattle.std.proofs.Common.{◌≡◌, ◌∙◌, sym, ap, ℕ, List, [], ◌++◌}
use Rattle.std.proofs.lemmas.List.{append-nil}
use Rattle.cs_link.specs.declared.feed.Feed.{Feed}
use Rattle.cs_link.specs.declared.reading.ReadArgs.{ReadArgs}
use Rattle.cs_wire.specs.Answers.{lines_text, GivesSteps}
use Rattle.cs_wire.specs.Steps.{last_behind, last_in, steps_of, steps_in}
use Rattle.cs_wire.specs.Taken.{IsCut}
use Rattle.cs_wire.specs.Told.{SoFarRead, known, body, IsOnItsWay}
use Rattle.cs_wire.proofs.Cutting.{last_none, last_whole, last_back, lines_back, steps_back}
use Rattle.cs_wire.proofs.Opening.{at_end}
use Rattle.cs_wire.proofs.Telling.{its_lines}

pub all_given : (f : Feed) (args : ReadArgs) (m : ℕ) (text : List ℕ) (a : SoFarRead) (g : GivesSteps f args m text) → IsOnItsWay text a → IsCut a.left a.held → steps_in (body a) ≡ g.steps
all_given f args m text a g way c =
    let left : known a.left ≡ [] = at_end a.left c.end in
    let lines : body a ++ (a.held ++ known a.left) ≡ lines_text g.lines = its_lines f args m text a g way in
    let last : last_in (a.held ++ known a.left) ≡ [] = sym (last_whole (body a) (a.held ++ known a.left) way.ended) ∙ ap last_in lines ∙ last_back g.lines g.steps g.stand in
    let none : a.held ≡ [] = ap (last_behind a.held) (sym left) ∙ sym (last_none [] a.held (known a.left) c.none) ∙ last in
    let all : body a ≡ lines_text g.lines =
    sym (append-nil (body a)) ∙ ap (λ ys. body a ++ ys) (sym (ap (λ ys. ys ++ known a.left) none ∙ left)) ∙ lines in
    ap steps_in all ∙ ap steps_of (lines_back g.lines g.steps g.stand) ∙ steps_back g.lines g.steps g.stand
