-- What a script makes, line by line, or its first bad line (the form of a script is this project's own).
use Rattle.std.specs.Prelude.{◌≡◌, ◌<◌, ◌≤◌, ◌-◌, ◌&&◌, ℕ, suc, ◌==◌, Bool, nat_lt, slice_index, List, [], ◌∷◌, ◌++◌, length, take, if◌then◌else◌, Result, Ok, Err, ◌⊎◌}
use Rattle.cs_script.specs.declared.fault.LineCause.{LineCause}
use Rattle.cs_script.specs.declared.fault.ScriptFault.{ScriptFault}
use Rattle.cs_script.specs.declared.fault.ScriptFault.TheVariants.{SourceFault, Line, TooLong, Memory}
use Rattle.cs_script.specs.Database.{Database, no_database}
use Rattle.cs_script.specs.Readings.{is_memory}
use Rattle.cs_script.specs.Takes.{Takes}

-- no script has more bytes
abbrev pub most_bytes : ℕ
most_bytes = 67108864

-- whether a line ends with a carriage return
abbrev pub ends_with_return : List ℕ → Bool
ends_with_return line = nat_lt 0 (length line) && slice_index line (length line - 1) == 13

-- a line without the carriage return at its end
abbrev pub without_return : List ℕ → List ℕ
without_return line = if ends_with_return line then take (length line - 1) line else line

-- the lines of bytes behind the front of a line: a line ends with a line feed, and the last one with the bytes
unfoldable pub lines_behind : List ℕ → List ℕ → List (List ℕ)
lines_behind front [] = front ∷ []
lines_behind front (b ∷ bs) = if b == 10 then without_return front ∷ lines_behind [] bs else lines_behind (front ++ b ∷ []) bs

-- those of them that end with a line feed
unfoldable pub ended_behind : List ℕ → List ℕ → List (List ℕ)
ended_behind front [] = []
ended_behind front (b ∷ bs) = if b == 10 then without_return front ∷ ended_behind [] bs else ended_behind (front ++ b ∷ []) bs

-- the lines of a script
abbrev pub lines_of : List ℕ → List (List ℕ)
lines_of bytes = lines_behind [] bytes

-- the lines that end within bytes
abbrev pub ended_lines : List ℕ → List (List ℕ)
ended_lines bytes = ended_behind [] bytes

-- lines, of which the first has this number, lead from a database to another, or the first that is refused is told
abbrev pub Runs : Database → ℕ → List (List ℕ) → Result Database ScriptFault → Type 0
Runs db number [] out = out ≡ Ok db
Runs db number (line ∷ more) out =
    ((cause : LineCause) × Takes db line (Err cause) × (out ≡ Err (Line number cause)))
    ⊎ ((next : Database) × Takes db line (Ok next) × Runs next (suc number) more out)

-- what the lines make that end within the most bytes of a script, where there are more
abbrev pub cut_short : Result Database ScriptFault → Result Database ScriptFault
cut_short (Ok db) = Err TooLong
cut_short (Err fault) = Err fault

-- what the bytes of a script make
pub record Makes (bytes : List ℕ) (out : Result Database ScriptFault) : Type 0 where
  pub whole : length bytes ≤ most_bytes → Runs no_database 1 (lines_of bytes) out
  pub long : most_bytes < length bytes → (front : Result Database ScriptFault) × Runs no_database 1 (ended_lines (take most_bytes bytes)) front × (out ≡ cut_short front)

-- a fault of the script itself
abbrev pub of_script : ScriptFault → Type 0
of_script SourceFault = ⊥
of_script (Line number cause) = Unit {0}
of_script TooLong = Unit {0}
of_script Memory = ⊥

-- the bytes that were read of a script: one more than it may have, at most
abbrev pub IsReadOf : List ℕ → List ℕ → Type 0
IsReadOf before left = (given : List ℕ) × (before ≡ given ++ left) × (length given ≤ 67108865)

-- the fault of a bad line of this number
abbrev pub fault_of : ℕ → LineCause → ScriptFault
fault_of number cause = if is_memory cause then Memory else Line number cause
