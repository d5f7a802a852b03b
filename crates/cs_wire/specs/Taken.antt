-- What the next line of an answer is, among the bytes held and those still to be read, and why there is none.
use Rattle.std.specs.Prelude.{◌≡◌, ◌<◌, ◌⊎◌, ℕ, List, ◌∷◌, ◌++◌, length, Option, Result, Ok, Err}
use Rattle.std.specs.Io.KnownBytes.{IsAtEnd}
use Rattle.cs_device.specs.Causes.{Rose}
use Rattle.cs_records.specs.declared.faults.LineFault.{LineFault}
use Rattle.cs_link.specs.declared.reading.Step.{Step}
use Rattle.cs_link.specs.declared.refusal.LinkAnswer.{LinkAnswer}
use Rattle.cs_wire.specs.Held.{ReadsMore}
use Rattle.cs_types.specs.Texts.{HasNoEnd}
use Rattle.cs_http.specs.Line.{line_step}

-- a line stands for no step, for this reason
pub record IsBadLine (held : List ℕ) (fault : LineFault) : Type 0 where
  pub line : List ℕ
  pub others : List ℕ
  pub whole : HasNoEnd line
  pub first : held ≡ line ++ 10 ∷ others
  pub bad : line_step line ≡ Err fault

-- more bytes than a line has are held, and no line ends among them
pub record IsLongLine (held : List ℕ) : Type 0 where
  pub none : HasNoEnd held
  pub long : 8388608 < length held

-- the connection ended, and no line ends among the bytes held
pub record IsCut (left : Option (List ℕ)) (held : List ℕ) : Type 0 where
  pub none : HasNoEnd held
  pub end : IsAtEnd left

module _ (gone now_gone left now_left : Option (List ℕ)) (held now_held : List ℕ) where
  -- the first line of what was held and read is taken, with its end, and stands for this step
  pub record TakesLine (step : Step) : Type 0 where
    pub line : List ℕ
    pub whole : HasNoEnd line
    pub read : ReadsMore gone now_gone left now_left held (line ++ 10 ∷ now_held)
    pub stands : line_step line ≡ Ok step

  -- what the line of this number is answered as; before and now are the connection's faults
  abbrev pub IsStepAnswer : ℕ → ℕ → ℕ → Result Step LinkAnswer → Type 0
  IsStepAnswer number before now (Ok step) = TakesLine step
  IsStepAnswer number before now (Err LinkAnswer.Failed) = ReadsMore gone now_gone left now_left held now_held × (Rose before now ⊎ IsCut now_left now_held)
  IsStepAnswer number before now (Err (LinkAnswer.Refused refusal)) = ⊥
  IsStepAnswer number before now (Err (LinkAnswer.BadLine n fault)) = ReadsMore gone now_gone left now_left held now_held × (n ≡ number) × (IsBadLine now_held fault ⊎ ((fault ≡ LineFault.TooLong) × IsLongLine now_held))
  IsStepAnswer number before now (Err LinkAnswer.Memory) = ReadsMore gone now_gone left now_left held now_held
