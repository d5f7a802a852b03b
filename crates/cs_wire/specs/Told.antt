-- What a link tells of its present READ, by the bytes that were read for it.
use Rattle.std.specs.Prelude.{◌≡◌, ◌≤◌, ◌⊎◌, ◌-◌, ℕ, Bool, false, ⊤, List, [], ◌++◌, length, take, drop, cond, Option, Some, None, Result, Ok, Err}
use Rattle.cs_records.specs.declared.faults.LineFault.{LineFault}
use Rattle.cs_link.specs.declared.reading.ReadArgs.{ReadArgs}
use Rattle.cs_link.specs.declared.reading.Step.{Step}
use Rattle.cs_link.specs.declared.refusal.LinkAnswer.{LinkAnswer}
use Rattle.cs_link.specs.Reading.{Read}
use Rattle.cs_wire.specs.Held.{ReadsMore}
use Rattle.cs_wire.specs.Taken.{TakesLine, IsBadLine, IsLongLine, IsCut}
use Rattle.cs_device.specs.Causes.{Rose}
use Rattle.cs_wire.specs.Steps.{steps_in, last_in, has_closing}
use Rattle.cs_http.specs.Front.{IsHeadText}
use Rattle.cs_http.specs.Request.{request_text}

-- an answer, as far as it was read: the bytes read, those that are left and those held, how many the head has, and how often the connection has failed
pub record SoFarRead : Type 0 where
  pub gone : Option (List ℕ)
  pub left : Option (List ℕ)
  pub held : List ℕ
  pub head : ℕ
  pub faults : ℕ

-- the known bytes
abbrev pub known : Option (List ℕ) → List ℕ
known None = []
known (Some bytes) = bytes

-- the bytes read that are not held
abbrev pub used : Option (List ℕ) → List ℕ → List ℕ
used None held = []
used (Some gone) held = take (length gone - length held) gone

-- those behind the head
abbrev pub body : SoFarRead → List ℕ
body a = drop a.head (used a.gone a.held)

abbrev pub steps_read : Option SoFarRead → List Step
steps_read None = []
steps_read (Some a) = steps_in (body a)

-- the steps that were given: none where the READ was not taken
abbrev pub steps_given : Result (Unit {0}) LinkAnswer → Option SoFarRead → List Step
steps_given (Ok u) answer = steps_read answer
steps_given (Err e) answer = []

-- the bad line of which an answer speaks
abbrev pub bad_line_of : Option LinkAnswer → Option (ℕ × LineFault)
bad_line_of None = None
bad_line_of (Some LinkAnswer.Failed) = None
bad_line_of (Some (LinkAnswer.Refused refusal)) = None
bad_line_of (Some (LinkAnswer.BadLine number fault)) = Some (number, fault)
bad_line_of (Some LinkAnswer.Memory) = None

-- what was asked, and what `open` answered
pub record AskedSo : Type 0 where
  pub args : ReadArgs
  pub opened : Result (Unit {0}) LinkAnswer

abbrev pub read_told : ℕ → Option AskedSo → Option SoFarRead → Option LinkAnswer → Option Read
read_told moment None answer stopped = None
read_told moment (Some asked) answer stopped = Some (record { args = asked.args; moment = moment; opened = asked.opened; steps = steps_given asked.opened answer; bad_line = bad_line_of stopped })

-- the present READ, where it is told
abbrev pub present_told : Bool → ℕ → Option AskedSo → Option SoFarRead → Option LinkAnswer → Option (Option Read)
present_told tells moment asked answer stopped = cond tells (Some (read_told moment asked answer stopped)) None

-- the connection gives this text, of which the head and whole lines were used
pub record IsOnItsWay (text : List ℕ) (a : SoFarRead) : Type 0 where
  pub gone_is : a.gone ≡ Some (used a.gone a.held ++ a.held)
  pub left_is : a.left ≡ Some (known a.left)
  pub whole : text ≡ used a.gone a.held ++ a.held ++ known a.left
  pub fits : a.head ≤ length (used a.gone a.held)
  pub head_is : ∥ IsHeadText (take a.head (used a.gone a.held)) 200 ∥₁
  pub ended : last_in (body a) ≡ []

-- so many steps were given, and none of them is a closing
pub record IsUnclosed (text : List ℕ) (given : ℕ) (a : SoFarRead) : Type 0 where
  pub way : IsOnItsWay text a
  pub unclosed : has_closing (steps_in (body a)) ≡ false
  pub count : length (steps_in (body a)) ≡ given

-- the READ was taken, and is on its way
abbrev pub IsGoingOn : (List ℕ → List ℕ) → ReadArgs → Result (Unit {0}) LinkAnswer → ℕ → SoFarRead → Type 0
IsGoingOn answer args (Ok u) given a = IsUnclosed (answer (request_text args)) given a
IsGoingOn answer args (Err e) given a = ⊥

abbrev pub IsGoing : (List ℕ → List ℕ) → Option AskedSo → Option SoFarRead → Option LinkAnswer → ℕ → Type 0
IsGoing answer (Some asked) (Some a) None given = IsGoingOn answer asked.args asked.opened given a
IsGoing answer asked a stopped given = ⊥

-- why there is no next step
abbrev pub HasStopped : SoFarRead → SoFarRead → LinkAnswer → Type 0
HasStopped a b LinkAnswer.Failed = ReadsMore a.gone b.gone a.left b.left a.held b.held × (Rose a.faults b.faults ⊎ IsCut b.left b.held)
HasStopped a b (LinkAnswer.Refused refusal) = ⊥
HasStopped a b (LinkAnswer.BadLine number fault) = ReadsMore a.gone b.gone a.left b.left a.held b.held × (IsBadLine b.held fault ⊎ ((fault ≡ LineFault.TooLong) × IsLongLine b.held))
HasStopped a b LinkAnswer.Memory = ReadsMore a.gone b.gone a.left b.left a.held b.held

-- one step of an answer
abbrev pub StepsOn : SoFarRead → SoFarRead → Result Step LinkAnswer → Type 0
StepsOn a b (Ok step) = (b.head ≡ a.head) × TakesLine a.gone b.gone a.left b.left a.held b.held step
StepsOn a b (Err e) = (b.head ≡ a.head) × HasStopped a b e

abbrev pub HasStepped : Option SoFarRead → Option SoFarRead → Result Step LinkAnswer → Type 0
HasStepped (Some a) (Some b) result = StepsOn a b result
HasStepped a b result = ⊥

-- a bad line has this number
abbrev pub IsNumbered : ℕ → LinkAnswer → Type 0
IsNumbered number LinkAnswer.Failed = ⊤
IsNumbered number (LinkAnswer.Refused refusal) = ⊤
IsNumbered number (LinkAnswer.BadLine n fault) = n ≡ number
IsNumbered number LinkAnswer.Memory = ⊤

-- it does not tell what its READs asked for
abbrev pub no_reads : Option (List ReadArgs)
no_reads = None
