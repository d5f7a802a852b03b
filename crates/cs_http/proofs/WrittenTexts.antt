-- What is so of the texts that are written, as far as they are definitions.
use Rattle.std.proofs.Common.{◌≡◌, ℕ, ◌≤◌, List, length, Option, Some, Ok, IfSome, subst}
use Rattle.cs_types.specs.Texts.{HasNoEnd}
use Rattle.cs_link.specs.declared.reading.Closing.{Closing}
use Rattle.cs_link.specs.declared.reading.Step.{Step}
use Rattle.cs_link.specs.declared.refusal.ReadRefusal.{ReadRefusal}
use Rattle.cs_http.specs.Line.{closing_text, step_text, line_step, IsKeptStep}
use Rattle.cs_http.specs.RefusalLine.{body_text, body_room, IsKeptRefusal, IsOneLine, line_refusal}
use Rattle.cs_http.specs.Room.{step_room}
use Rattle.cs_http.proofs.Bodies.{StampsAreRead, body_back}
use Rattle.cs_http.proofs.BodyLines.{StampsHaveNoEnd, body_no_end, body_length}
use Rattle.cs_http.proofs.Closings.{finished_back, cut_back, caught_up_back, finished_no_end, cut_no_end, caught_up_no_end}
use Rattle.cs_http.proofs.RecordLines.{closing_line_step, record_no_end}
use Rattle.cs_http.proofs.Rooms.{record_length, closing_length}

pub step_no_end : StampsHaveNoEnd → (step : Step) → IsKeptStep step → HasNoEnd (step_text step)
step_no_end law (Step.Record item) kept = record_no_end item
step_no_end law (Step.Closing Closing.Finished) kept = finished_no_end
step_no_end law (Step.Closing (Closing.CaughtUp at)) kept = caught_up_no_end at (law at kept)
step_no_end law (Step.Closing Closing.Cut) kept = cut_no_end

pub step_length : (step : Step) → length (step_text step) ≤ step_room step
step_length (Step.Record item) = record_length item
step_length (Step.Closing closing) = closing_length closing

pub closing_step : StampsAreRead → (closing : Closing) → IsKeptStep (Step.Closing closing) → line_step (closing_text closing) ≡ Ok (Step.Closing closing)
closing_step law Closing.Finished kept = closing_line_step (closing_text Closing.Finished) Closing.Finished finished_back
closing_step law (Closing.CaughtUp at) kept = closing_line_step (closing_text (Closing.CaughtUp at)) (Closing.CaughtUp at) (caught_up_back at (law at kept))
closing_step law Closing.Cut kept = closing_line_step (closing_text Closing.Cut) Closing.Cut cut_back

pub refusal_read : StampsAreRead → (refusal : ReadRefusal) (line : List ℕ) → IsKeptRefusal refusal → body_text refusal ≡ Some line → line_refusal line ≡ Some refusal
refusal_read law refusal line kept is = subst (λ (o : Option (List ℕ)). IfSome o (λ l. line_refusal l ≡ Some refusal)) is (body_back law refusal kept)

pub refusal_no_end : StampsHaveNoEnd → (refusal : ReadRefusal) (line : List ℕ) → IsKeptRefusal refusal → IsOneLine refusal → body_text refusal ≡ Some line → HasNoEnd line
refusal_no_end law refusal line kept one is = subst (λ (o : Option (List ℕ)). IfSome o HasNoEnd) is (body_no_end law refusal kept one)

pub refusal_length : (refusal : ReadRefusal) (line : List ℕ) → body_text refusal ≡ Some line → length line ≤ body_room refusal
refusal_length refusal line is = subst (λ (o : Option (List ℕ)). IfSome o (λ l. length l ≤ body_room refusal)) is (body_length refusal)
