-- What contracts see of a journal. This project's own.
use Rattle.std.specs.Prelude.{◌≡◌, ℕ, List, Bool, Option, None, Some, IfSome, slice_get, ⊤, ◌+◌, ◌-◌, ◌^◌, min, length, refl}
use Rattle.std.specs.Coded.{Coded, code_by, coded×, coded_ℕ, coded_bool}
use Rattle.cs_device.specs.Crash.{Crash, LeavesOnly}
use Rattle.cs_journal.specs.Rows.{gate_of}

-- a journal: its disk, the place of the closed gate, and whether a call of the disk has failed
pub record JournalState (J : Type 0) : Type 0 where
  pub disk : J
  pub gate : ℕ
  pub failed : Bool

-- it is stored as the tuple of its fields
abbrev pub journal_code : {J : Type 0} → Coded J → Coded (JournalState J)
journal_code {J} code =
    code_by (J × (ℕ × Bool)) (coded× code (coded× coded_ℕ coded_bool)) (λ j. (j.disk, (j.gate, j.failed))) (λ p. record { disk = p.0; gate = p.1.0; failed = p.1.1 }) (λ _. refl)

-- the closed gate stands at this place, and its byte is 0
pub record IsAtRest (gate : ℕ) (bytes : List ℕ) : Type 0 where
  pub place : gate_of bytes ≡ Some gate
  pub shut : slice_get bytes gate ≡ Some 0

-- where the disk tells its bytes: they are at rest, and a crash leaves them
pub record IsSettled (seen : Option (List ℕ)) (crash : Crash) (gate : ℕ) : Type 0 where
  pub rest : IfSome seen (IsAtRest gate)
  pub durable : IfSome seen (LeavesOnly crash)

-- where the bytes were told they are told still, and go with the old ones so
abbrev pub WhereTold : (List ℕ → List ℕ → Type 0) → Option (List ℕ) → Option (List ℕ) → Type 0
WhereTold P None new = ⊤
WhereTold P (Some old) None = ⊥
WhereTold P (Some old) (Some new) = P old new

-- how long the bytes are behind a `put`; a sum past the greatest u64 stands still there
abbrev pub length_after : ℕ → List ℕ → ℕ
length_after gate payload = min (gate + 6 + length payload) (2 ^ 64 - 1)
