-- What the calls of a connection promise. This project's own.
use Rattle.std.specs.Prelude.{◌≡◌, ◌≢◌, ◌≤◌, ℕ, List, take, Option, Some, None, Result, Err, MatchResult, ⊤}
use Rattle.std.specs.Io.KnownBytes.{Appends, Keeps}
use Rattle.cs_device.specs.Causes.{Rose}
use Rattle.cs_connection.specs.declared.conn.ConnFault.{ConnFault}

-- the count rises where the call failed and at no other time: want of memory raises none
pub record HasConnCause {T : Type 0} (before now : ℕ) (result : Result T ConnFault) : Type 0 where
  pub later : before ≤ now
  pub failed : result ≡ Err ConnFault.Failed → Rose before now
  pub kept : result ≢ Err ConnFault.Failed → now ≡ before

-- the bytes read grow by those that a read gave, and stay where it gave none
abbrev pub ReadGrows : Option (List ℕ) → Option (List ℕ) → Result ℕ ConnFault → List ℕ → Type 0
ReadGrows old new result into = MatchResult result (λ n. Appends old new (take n into)) (λ _. Keeps old new)

-- what is told stays told, be it another
abbrev pub StaysTold : Option (List ℕ) → Option (List ℕ) → Type 0
StaysTold None new = ⊤
StaysTold (Some xs) None = ⊥
StaysTold (Some xs) (Some ys) = ⊤
