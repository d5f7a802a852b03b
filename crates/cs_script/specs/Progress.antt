-- How far the reading of a script has come (this project's own).
use Rattle.std.specs.Prelude.{◌≡◌, ◌≤◌, ℕ, suc, List, [], ◌++◌, length, take, Option, Result, Err}
use Rattle.std.specs.Io.KnownBytes.{Consumes}
use Rattle.cs_script.specs.declared.fault.ScriptFault.{ScriptFault}
use Rattle.cs_script.specs.declared.reader.Reader.{Reader}
use Rattle.cs_script.specs.Database.{Database, no_database}
use Rattle.cs_script.specs.Script.{most_bytes, lines_behind, ended_behind, lines_of, ended_lines, Runs, of_script}

-- of a script that begins with these bytes the reader has taken the lines that end in them: what the rest makes of its state, the whole makes
pub record HasRead (r : Reader) (before : List ℕ) : Type 0 where
  pub whole : (rest : List ℕ) (out : Result Database ScriptFault) → Runs r.state (suc r.lines) (lines_behind r.line.items rest) out → Runs no_database 1 (lines_behind [] (before ++ rest)) out
  pub ended : (rest : List ℕ) (out : Result Database ScriptFault) → Runs r.state (suc r.lines) (ended_behind r.line.items rest) out → Runs no_database 1 (ended_behind [] (before ++ rest)) out
  pub count : r.lines ≤ length before

-- the script is refused so, by a line that ends within these bytes
abbrev pub IsRefusedIn : List ℕ → ScriptFault → Type 0
IsRefusedIn bytes e = of_script e → Runs no_database 1 (lines_of bytes) (Err e) × Runs no_database 1 (ended_lines bytes) (Err e)

-- the script is refused so
abbrev pub IsRefused : List ℕ → ScriptFault → Type 0
IsRefused bytes e = of_script e → Runs no_database 1 (lines_of bytes) (Err e)

-- so many bytes were taken of the source, and the reader has read them, as far as a script may go
pub record IsGiven (first now : Option (List ℕ)) (reader : Reader) (total : ℕ) (bytes : List ℕ) : Type 0 where
  pub taken : Consumes first now bytes
  pub given : HasRead reader (take most_bytes bytes)
  pub count : length bytes ≡ total
