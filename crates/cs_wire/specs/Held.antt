-- Bytes that were read from a connection and not yet used, and the first line among them.
use Rattle.std.specs.Prelude.{◌≡◌, ◌+◌, ◌<◌, ℕ, List, ◌∷◌, ◌++◌, length, take, drop, Option}
use Rattle.std.specs.Io.KnownBytes.{Appends, Consumes}
use Rattle.cs_types.specs.Texts.{HasNoEnd}
use Rattle.cs_wire.specs.declared.lines.Reached.{Reached}

-- the same bytes were added to those read and to those held, and taken from those left
pub record ReadsMore (gone now_gone left now_left : Option (List ℕ)) (held now_held : List ℕ) : Type 0 where
  pub bytes : List ℕ
  pub read : Appends gone now_gone bytes
  pub taken : Consumes left now_left bytes
  pub kept : now_held ≡ held ++ bytes

-- the first line end stands at this place
pub record EndsAt (bytes : List ℕ) (n : ℕ) : Type 0 where
  pub there : n < length bytes
  pub first : HasNoEnd (take n bytes)
  pub parts : bytes ≡ take n bytes ++ 10 ∷ drop (n + 1) bytes

-- what was reached by reading: the end of a line, more bytes than a line has, or the end of all
abbrev pub IsReached : List ℕ → Reached → Type 0
IsReached held (Reached.Line n) = EndsAt held n
IsReached held Reached.TooLong = HasNoEnd held × (8388608 < length held)
IsReached held Reached.Ended = HasNoEnd held
