-- What contracts see of a link over the state of a server, and what its calls make of it. This project's own.
use Rattle.std.specs.Prelude.{◌≡◌, ◌+◌, ◌-◌, ◌∷◌, ◌++◌, [], ℕ, Bool, true, false, not, List, length, take, Option, Some, None, Result, Ok, Err, slice_get, ⊤}
use Rattle.std.specs.Option.{option_map}
use Rattle.cs_types.specs.Stamp.{IsStamp}
use Rattle.cs_link.specs.declared.reading.ReadArgs.{ReadArgs}
use Rattle.cs_link.specs.declared.reading.Step.{Step}
use Rattle.cs_link.specs.declared.refusal.LinkAnswer.{LinkAnswer}
use Rattle.cs_link.specs.declared.refusal.ReadRefusal.{ReadRefusal}
use Rattle.cs_link.specs.Causes.{counted}
use Rattle.cs_link.specs.Reading.{Read, is_closing}
use Rattle.cs_script.specs.Database.{Database}
use Rattle.cs_read.specs.Honest.{IsState, opened_as}
use Rattle.cs_server.specs.Typed.{refusal_of, steps_given}

-- a link over a state
pub record LinkState : Type 0 where
  -- the scripted database, and the moment at which it is read
  pub database : Database
  pub moment : ℕ
  -- how many ends that it gave caught up
  pub caught_up : ℕ
  -- what its READs asked for, in their order
  pub asked : List ReadArgs
  -- of the last READ: how many steps it gave, and whether it goes on
  pub given : ℕ
  pub reading : Bool

-- before its first call
abbrev pub new_link : Database → ℕ → LinkState
new_link db moment = record { database = db; moment = moment; caught_up = 0; asked = []; given = 0; reading = false }

-- what is true of the state and the moment of each link
pub record IsWell (m : LinkState) : Type 0 where
  pub state : IsState m.database
  pub stamp : IsStamp m.moment

-- what the last READ asked for
abbrev pub last_of : List ReadArgs → Option ReadArgs
last_of asked = slice_get asked (length asked - 1)

-- the steps that answer a READ, where there is one
abbrev pub answer_to : Database → ℕ → Option ReadArgs → List Step
answer_to db moment None = []
answer_to db moment (Some args) = steps_given db args moment

-- a READ as the link answered it so far: refused as it has to be, or else with the first of the steps of its answer
abbrev pub read_of : LinkState → ReadArgs → Read
read_of m args = record { args = args; moment = m.moment; opened = opened_as (refusal_of m.database args m.moment); steps = take m.given (steps_given m.database args m.moment); bad_line = None }

-- the last READ
abbrev pub present_of : LinkState → Option Read
present_of m = option_map (read_of m) (last_of m.asked)

-- the step that the next `next` gives
abbrev pub next_step : LinkState → Option Step
next_step m = slice_get (answer_to m.database m.moment (last_of m.asked)) m.given

abbrev pub is_taken : Option ReadRefusal → Bool
is_taken None = true
is_taken (Some refusal) = false

-- after an `open`
abbrev pub after_open : LinkState → ReadArgs → LinkState
after_open m args = record { database = m.database; moment = m.moment; caught_up = m.caught_up; asked = m.asked ++ args ∷ []; given = 0; reading = is_taken (refusal_of m.database args m.moment) }

-- after a `next` that gave this step
abbrev pub after_step : LinkState → Step → LinkState
after_step m step = record { database = m.database; moment = m.moment; caught_up = counted m.caught_up (Ok step); asked = m.asked; given = m.given + 1; reading = not (is_closing step) }

-- `open` refuses a READ exactly where it has to be, by its first refusal, or takes it; or it wants memory and changes nothing
abbrev pub IsServedOpen : LinkState → LinkState → ReadArgs → Result (Unit {0}) LinkAnswer → Type 0
IsServedOpen before now args (Ok u) = (refusal_of before.database args before.moment ≡ None) × (now ≡ after_open before args)
IsServedOpen before now args (Err LinkAnswer.Failed) = ⊥
IsServedOpen before now args (Err (LinkAnswer.Refused refusal)) = (refusal_of before.database args before.moment ≡ Some refusal) × (now ≡ after_open before args)
IsServedOpen before now args (Err (LinkAnswer.BadLine number fault)) = ⊥
IsServedOpen before now args (Err LinkAnswer.Memory) = now ≡ before

-- `next` gives the next step of the answer, or wants memory and changes nothing
abbrev pub IsServedNext : LinkState → LinkState → Result Step LinkAnswer → Type 0
IsServedNext before now (Ok step) = (next_step before ≡ Some step) × (now ≡ after_step before step)
IsServedNext before now (Err LinkAnswer.Failed) = ⊥
IsServedNext before now (Err (LinkAnswer.Refused refusal)) = ⊥
IsServedNext before now (Err (LinkAnswer.BadLine number fault)) = ⊥
IsServedNext before now (Err LinkAnswer.Memory) = now ≡ before

-- what `open` may answer: a refusal, or want of memory
abbrev pub IsRefusalOrMemory : LinkAnswer → Type 0
IsRefusalOrMemory LinkAnswer.Failed = ⊥
IsRefusalOrMemory (LinkAnswer.Refused refusal) = ⊤
IsRefusalOrMemory (LinkAnswer.BadLine number fault) = ⊥
IsRefusalOrMemory LinkAnswer.Memory = ⊤

-- what `next` may answer: want of memory
abbrev pub IsMemory : LinkAnswer → Type 0
IsMemory LinkAnswer.Failed = ⊥
IsMemory (LinkAnswer.Refused refusal) = ⊥
IsMemory (LinkAnswer.BadLine number fault) = ⊥
IsMemory LinkAnswer.Memory = ⊤
