-- What the server answers to the bytes of a request: a refusal, or the lines of the steps of a READ (the heads are those of RFC 9112; the bodies are this project's own).
use Rattle.std.specs.Prelude.{◌≡◌, ℕ, List, [], ◌∷◌, ◌++◌, Option, None, Some, Ok, Err, codes}
use Rattle.std.specs.Option.{unwrap_or}
use Rattle.cs_ddl.specs.declared.tree.ReadQuery.{ReadQuery}
use Rattle.cs_ddl.specs.Grammars.{queries}
use Rattle.cs_ddl.specs.Text.{IsTextOf, IsFaultAt}
use Rattle.cs_link.specs.declared.reading.Step.{Step}
use Rattle.cs_link.specs.declared.refusal.ReadRefusal.{ReadRefusal}
use Rattle.cs_script.specs.Database.{Database}
use Rattle.cs_read.specs.Answers.{read_refusal, answer_steps}
use Rattle.cs_answer_lines.specs.StepLine.{step_text}
use Rattle.cs_http.specs.declared.fault.WireFault.{WireFault}
use Rattle.cs_http.specs.Reading.{IsReading}
use Rattle.cs_http.specs.Refusal.{answer_head_text, refusal_text}
use Rattle.cs_http.specs.RefusalLine.{body_text}
use Rattle.cs_serve.specs.Requests.{IsAnswerable}

-- ---- lines

-- the line of a step, with its end
abbrev pub line_text : Step → List ℕ
line_text step = step_text step ++ codes "\n"

-- the lines of steps, in their order
abbrev pub lines_text : List Step → List ℕ
lines_text [] = []
lines_text (step ∷ steps) = line_text step ++ lines_text steps

-- ---- what a request asks

-- bytes that are refused as they are, a text that is no query from this place on, or a query
pub data Asked : Type 0 where
  Refused : WireFault → Asked
  Misspelled : ℕ → Asked
  Queried : ReadQuery → Asked

-- what the text of a request's body asks
abbrev pub BodyAsks : List ℕ → Asked → Type 0
BodyAsks body (Refused fault) = ⊥
BodyAsks body (Misspelled place) = IsFaultAt queries body place
BodyAsks body (Queried query) = IsTextOf queries body query

-- what the bytes of a request ask
abbrev pub Asks : List ℕ → Asked → Type 0
Asks request (Refused fault) = IsReading request (Err fault) × IsAnswerable fault
Asks request (Misspelled place) = (body : List ℕ) × IsReading request (Ok body) × BodyAsks body (Misspelled place)
Asks request (Queried query) = (body : List ℕ) × IsReading request (Ok body) × BodyAsks body (Queried query)

-- ---- answers

-- the status of the answer to bytes that are refused, and its body
abbrev pub fault_status : WireFault → ℕ
fault_status WireFault.Head = 400
fault_status WireFault.Partial = 400
fault_status WireFault.Method = 405
fault_status WireFault.NotFound = 404
fault_status WireFault.Length = 400
fault_status WireFault.Coding = 400
fault_status WireFault.TooLong = 413
fault_status WireFault.BadText = 400
fault_status WireFault.Memory = 503

abbrev pub fault_body : WireFault → List ℕ
fault_body WireFault.Head = codes "{\"refusal\":\"Head\"}"
fault_body WireFault.Partial = codes "{\"refusal\":\"Partial\"}"
fault_body WireFault.Method = codes "{\"refusal\":\"Method\"}"
fault_body WireFault.NotFound = codes "{\"refusal\":\"NotFound\"}"
fault_body WireFault.Length = codes "{\"refusal\":\"Length\"}"
fault_body WireFault.Coding = codes "{\"refusal\":\"Coding\"}"
fault_body WireFault.TooLong = codes "{\"refusal\":\"TooLong\"}"
fault_body WireFault.BadText = codes "{\"refusal\":\"BadText\"}"
fault_body WireFault.Memory = codes "{\"refusal\":\"Memory\"}"

-- the answer to bytes that are refused
abbrev pub fault_answer : WireFault → List ℕ
fault_answer fault = refusal_text (fault_status fault) (fault_body fault)

-- the answer to a READ that is refused; a refusal that tells a status alone, which none of ours does, has no body
abbrev pub refusal_answer : ReadRefusal → List ℕ
refusal_answer refusal = refusal_text 400 (unwrap_or (body_text refusal) [])

-- the answer to a READ with these steps
abbrev pub steps_answer : List Step → List ℕ
steps_answer steps = answer_head_text ++ lines_text steps

-- the answer to a READ that is refused, or else has these steps
abbrev pub read_answer : Option ReadRefusal → List Step → List ℕ
read_answer None steps = steps_answer steps
read_answer (Some refusal) steps = refusal_answer refusal

-- the answer of the scripted database at a moment to what is asked
abbrev pub answer_of : Database → ℕ → Asked → List ℕ
answer_of db moment (Refused fault) = fault_answer fault
answer_of db moment (Misspelled place) = refusal_answer (ReadRefusal.Syntax place)
answer_of db moment (Queried query) = read_answer (read_refusal db query moment) (answer_steps db query moment)

-- these bytes are its answer to the bytes of a request
abbrev pub IsAnswerTo : Database → ℕ → List ℕ → List ℕ → Type 0
IsAnswerTo db moment request answer = (asked : Asked) × Asks request asked × (answer ≡ answer_of db moment asked)

-- and its answer to the text of a request's body
abbrev pub IsAnswerToBody : Database → ℕ → List ℕ → List ℕ → Type 0
IsAnswerToBody db moment body answer = (asked : Asked) × BodyAsks body asked × (answer ≡ answer_of db moment asked)
