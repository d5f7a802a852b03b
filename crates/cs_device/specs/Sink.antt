-- What a write to a sink that failed may leave. This project's own, after the partial writes of POSIX.
use Rattle.std.specs.Prelude.{ℕ, List, take, Option}
use Rattle.std.specs.Io.KnownBytes.{Appends}

-- what was told stands, and behind it a front of the bytes: none of them, some or all
abbrev pub TakesFront : Option (List ℕ) → Option (List ℕ) → List ℕ → Type 0
TakesFront old new bytes = (n : ℕ) × Appends old new (take n bytes)
