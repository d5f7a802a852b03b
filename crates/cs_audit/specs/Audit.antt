-- What the lines of an output are found to be, against the changes that are wanted and the end, as this project defines it: the first offence, or none.
use Rattle.std.specs.Prelude.{◌≡◌, ◌≢◌, ◌⊎◌, ◌≤◌, ◌<◌, ℕ, ◌+◌, List, [], ◌∷◌, ◌++◌, length, Contains, Option, None, Some, ⊤}
use Rattle.std.specs.List.{AllPairs}
use Rattle.cs_types.specs.declared.change.Change.{Change}
use Rattle.cs_output.specs.Line.{change_line}
use Rattle.cs_output.specs.declared.reading.Line.{Line}
use Rattle.cs_output.specs.declared.reading.Line.TheVariants.{Watermark, Change as Told}
use Rattle.cs_audit.specs.declared.verdict.Verdict.{Verdict}
use Rattle.cs_audit.specs.declared.verdict.Verdict.TheVariants.{Complete, Prefix, Extra, OutOfOrder, WatermarkEarly, WatermarkBack}

-- equal lines are those of one row
abbrev pub HaveOwnLines : List Change → Type 0
HaveOwnLines wanted = (c d : Change) → Contains wanted c → Contains wanted d → change_line c ≡ change_line d → c.row ≡ d.row

-- no two changes agree in both transaction and row
abbrev pub AreApart : List Change → Type 0
AreApart wanted = AllPairs (λ c d. c.row ≡ d.row → c.tx ≢ d.tx) wanted

-- the line of the change is one of the lines
abbrev pub Stands : List Line → Change → Type 0
Stands lines c = Contains lines (Told (change_line c))

-- the lines have each wanted change up to a moment
abbrev pub HasUpTo : List Line → List Change → ℕ → Type 0
HasUpTo lines wanted at = (c : Change) → Contains wanted c → c.stamp ≤ at → Stands lines c

-- the moment, where no later one is known
abbrev pub or_later : ℕ → Option ℕ → Option ℕ
or_later at None = Some at
or_later at (Some later) = Some later

-- the last watermark
abbrev pub last_watermark : List Line → Option ℕ
last_watermark [] = None
last_watermark (Watermark at ∷ lines) = or_later at (last_watermark lines)
last_watermark (Told text ∷ lines) = last_watermark lines

-- the moment is above the one that may be there
abbrev pub IsAbove : ℕ → Option ℕ → Type 0
IsAbove at None = ⊤
IsAbove at (Some last) = last < at

-- behind these lines the change's line is the next of its row: those that are wanted before it stand there, and it does not
pub record IsNext (before : List Line) (wanted : List Change) (c : Change) : Type 0 where
  pub front : List Change
  pub back : List Change
  pub split : wanted ≡ front ++ c ∷ back
  pub earlier : (d : Change) → Contains front d → d.row ≡ c.row → Stands before d
  pub absent : ¬ Stands before c

-- behind these lines the watermark may stand: each wanted change up to it stands there, and it is above the last one and not above the end
pub record MayStand (before : List Line) (wanted : List Change) (end at : ℕ) : Type 0 where
  pub has : HasUpTo before wanted at
  pub above : IsAbove at (last_watermark before)
  pub up_to_end : at ≤ end

-- behind these lines the line is no offence
abbrev pub IsRight : List Line → List Change → ℕ → Line → Type 0
IsRight before wanted end (Told text) = (c : Change) × (text ≡ change_line c) × IsNext before wanted c
IsRight before wanted end (Watermark at) = MayStand before wanted end at

-- no line is an offence
abbrev pub HasNoOffence : List Line → List Change → ℕ → Type 0
HasNoOffence lines wanted end = (before after : List Line) (line : Line) → lines ≡ before ++ line ∷ after → IsRight before wanted end line

-- the line of a change that is not wanted
abbrev pub IsExtra : List Line → List Change → ℕ → Line → Type 0
IsExtra before wanted end (Told text) = (c : Change) → Contains wanted c → text ≢ change_line c
IsExtra before wanted end (Watermark at) = ⊥

-- the line of a wanted change that is not the next of its row
abbrev pub IsOutOfOrder : List Line → List Change → ℕ → Line → Type 0
IsOutOfOrder before wanted end (Told text) = (c : Change) × Contains wanted c × (text ≡ change_line c) × (IsNext before wanted c → ⊥)
IsOutOfOrder before wanted end (Watermark at) = ⊥

-- the change is the first wanted one up to a moment that does not stand there
pub record IsMissing (before : List Line) (wanted : List Change) (at : ℕ) (c : Change) : Type 0 where
  pub front : List Change
  pub back : List Change
  pub split : wanted ≡ front ++ c ∷ back
  pub up_to : c.stamp ≤ at
  pub absent : ¬ Stands before c
  pub first : HasUpTo before front at

-- a watermark before which that change is missing
abbrev pub IsEarly : Change → List Line → List Change → ℕ → Line → Type 0
IsEarly c before wanted end (Told text) = ⊥
IsEarly c before wanted end (Watermark at) = IsMissing before wanted at c

-- a watermark that is not above the last one, or is above the end, where no change is missing
abbrev pub IsBack : List Line → List Change → ℕ → Line → Type 0
IsBack before wanted end (Told text) = ⊥
IsBack before wanted end (Watermark at) = HasUpTo before wanted at × ((IsAbove at (last_watermark before) → ⊥) ⊎ (end < at))

-- the line with this number, from 1, is the first offence, and one of this kind
pub record IsFirst (Kind : List Line → List Change → ℕ → Line → Type 0) (number : ℕ) (lines : List Line) (wanted : List Change) (end : ℕ) : Type 0 where
  pub before : List Line
  pub line : Line
  pub after : List Line
  pub split : lines ≡ before ++ line ∷ after
  pub number_is : number ≡ length before + 1
  pub right : HasNoOffence before wanted end
  pub kind : Kind before wanted end line

-- all wanted changes stand there, and the last line is the end's watermark
pub record IsDone (lines : List Line) (wanted : List Change) (end : ℕ) : Type 0 where
  pub has : (c : Change) → Contains wanted c → Stands lines c
  pub ended : (before : List Line) × (lines ≡ before ++ Watermark end ∷ [])

-- the verdict on lines
abbrev pub IsVerdict : Verdict → List Line → List Change → ℕ → Type 0
IsVerdict Complete lines wanted end = HasNoOffence lines wanted end × IsDone lines wanted end
IsVerdict (Prefix last) lines wanted end = HasNoOffence lines wanted end × (IsDone lines wanted end → ⊥) × (last ≡ last_watermark lines)
IsVerdict (Extra number) lines wanted end = IsFirst IsExtra number lines wanted end
IsVerdict (OutOfOrder number) lines wanted end = IsFirst IsOutOfOrder number lines wanted end
IsVerdict (WatermarkEarly number c) lines wanted end = IsFirst (IsEarly c) number lines wanted end
IsVerdict (WatermarkBack number) lines wanted end = IsFirst IsBack number lines wanted end

-- the verdict is that something is still to come
abbrev pub SaysPrefix : Verdict → Type 0
SaysPrefix Complete = ⊥
SaysPrefix (Prefix last) = ⊤
SaysPrefix (Extra number) = ⊥
SaysPrefix (OutOfOrder number) = ⊥
SaysPrefix (WatermarkEarly number c) = ⊥
SaysPrefix (WatermarkBack number) = ⊥
