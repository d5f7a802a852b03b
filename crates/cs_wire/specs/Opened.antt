-- How the answer to a READ begins, and what `open` answers for it.
use Rattle.std.specs.Prelude.{◌≡◌, ◌≢◌, ◌≤◌, ◌⊎◌, ℕ, List, [], ◌∷◌, ◌++◌, length, Option, Some, None, Result, Ok, Err, ⊤}
use Rattle.cs_link.specs.declared.refusal.LinkAnswer.{LinkAnswer}
use Rattle.cs_link.specs.declared.refusal.ReadRefusal.{ReadRefusal}
use Rattle.std.specs.Io.KnownBytes.{IsAtEnd}
use Rattle.httparse.specs.Grammar.{HasNoResponse}
use Rattle.cs_device.specs.Causes.{Rose}
use Rattle.cs_http.specs.Front.{IsOther, IsNone, head_limit}
use Rattle.cs_wire.specs.Held.{ReadsMore}
use Rattle.cs_types.specs.Texts.{HasNoEnd}
use Rattle.cs_http.specs.Front.{IsHeadText}
use Rattle.cs_http.specs.RefusalLine.{line_refusal}
use Rattle.cs_wire.specs.Taken.{IsLongLine, IsCut}
use Rattle.cs_wire.specs.Told.{SoFarRead}

-- a connection of which nothing was read gives this text
abbrev pub IsFresh : Option (List ℕ) → Option (List ℕ) → List ℕ → Type 0
IsFresh gone left text = (gone ≡ Some []) × (left ≡ Some text)

-- the refusal of a body: that of its line, or none but the status
abbrev pub refusal_or : Option ReadRefusal → ReadRefusal
refusal_or None = ReadRefusal.Wire 400
refusal_or (Some refusal) = refusal

-- the first line that is held tells the refusal
pub record TellsRefusal (held : List ℕ) (refusal : ReadRefusal) : Type 0 where
  pub line : List ℕ
  pub others : List ℕ
  pub whole : HasNoEnd line
  pub first : held ≡ line ++ 10 ∷ others
  pub is : refusal ≡ refusal_or (line_refusal line)

-- a connection gave nothing
abbrev pub IsBare : LinkAnswer → Type 0
IsBare LinkAnswer.Failed = ⊤
IsBare (LinkAnswer.Refused refusal) = ⊥
IsBare (LinkAnswer.BadLine number fault) = ⊥
IsBare LinkAnswer.Memory = ⊤

-- why an answer with the status 400 is this refusal
abbrev pub IsOfBody : Option (List ℕ) → List ℕ → ReadRefusal → Type 0
IsOfBody left held refusal = TellsRefusal held refusal ⊎ ((refusal ≡ ReadRefusal.Wire 400) × (IsLongLine held ⊎ IsCut left held))

abbrev pub IsOfRefused : ℕ → ℕ → Option (List ℕ) → List ℕ → LinkAnswer → Type 0
IsOfRefused before now left held LinkAnswer.Failed = Rose before now
IsOfRefused before now left held (LinkAnswer.Refused refusal) = IsOfBody left held refusal
IsOfRefused before now left held (LinkAnswer.BadLine number fault) = ⊥
IsOfRefused before now left held LinkAnswer.Memory = ⊤

-- why an answer with this status is this refusal
abbrev pub IsWhy : ℕ → Option (List ℕ) → List ℕ → ReadRefusal → Type 0
IsWhy status left held refusal = ((status ≡ 400) × IsOfBody left held refusal) ⊎ ((status ≢ 200) × (status ≢ 400) × (status ≢ 503) × (refusal ≡ ReadRefusal.Wire status))

-- why no head is taken: another stands there, or none can, or the connection ended inside of it, or it is too long
abbrev pub IsNoHead : Option (List ℕ) → List ℕ → Type 0
IsNoHead left held = IsOther held ⊎ (IsNone held ⊎ (HasNoResponse held × (IsAtEnd left ⊎ (head_limit ≤ length held))))

module _ (gone now_gone left now_left : Option (List ℕ)) (held now_held : List ℕ) (head : ℕ) where
  -- the head at the front of what was held and read is taken, and has this status
  pub record HasStatus (status : ℕ) : Type 0 where
    pub front : List ℕ
    pub read : ReadsMore gone now_gone left now_left held (front ++ now_held)
    pub size : head ≡ length front
    pub is : IsHeadText front status

  -- no head was taken of what was held and read
  pub record HasNoStatus : Type 0 where
    pub read : ReadsMore gone now_gone left now_left held now_held
    pub why : IsNoHead now_left now_held

  -- the status that was read, if it was
  abbrev pub HasRead : Option ℕ → Type 0
  HasRead None = HasNoStatus
  HasRead (Some status) = HasStatus status

  -- an answer is a refusal
  pub record IsRefusal (refusal : ReadRefusal) : Type 0 where
    pub status : ℕ
    pub has : HasStatus status
    pub why : IsWhy status now_left now_held refusal

  -- what `open` answers; before and now are the connection's faults
  abbrev pub IsOpened : ℕ → ℕ → Result (Unit {0}) LinkAnswer → Type 0
  IsOpened before now (Ok u) = HasStatus 200
  IsOpened before now (Err LinkAnswer.Failed) = Rose before now ⊎ (HasNoStatus ⊎ HasStatus 503)
  IsOpened before now (Err (LinkAnswer.Refused refusal)) = IsRefusal refusal
  IsOpened before now (Err (LinkAnswer.BadLine number fault)) = ⊥
  IsOpened before now (Err LinkAnswer.Memory) = ⊤

-- an answer that began with a connection of which nothing was read
pub record IsBegunWith (text : List ℕ) (a : SoFarRead) (result : Result (Unit {0}) LinkAnswer) : Type 0 where
  pub gone : Option (List ℕ)
  pub left : Option (List ℕ)
  pub fresh : IsFresh gone left text
  pub before : ℕ
  pub opened : IsOpened gone a.gone left a.left [] a.held a.head before a.faults result

-- where there was no connection, none was opened and none refused
abbrev pub IsUnbegun : Result (Unit {0}) LinkAnswer → Type 0
IsUnbegun (Ok u) = ⊥
IsUnbegun (Err LinkAnswer.Failed) = ⊤
IsUnbegun (Err (LinkAnswer.Refused refusal)) = ⊥
IsUnbegun (Err (LinkAnswer.BadLine number fault)) = ⊥
IsUnbegun (Err LinkAnswer.Memory) = ⊤

abbrev pub IsBegun : List ℕ → Option SoFarRead → Result (Unit {0}) LinkAnswer → Type 0
IsBegun text None result = IsUnbegun result
IsBegun text (Some a) result = IsBegunWith text a result
