-- The entries that a journal's bytes hold. This project's own.
use Rattle.std.specs.Prelude.{◌≡◌, ◌⊎◌, ℕ, List, [], ◌∷◌, ◌++◌, ◌+◌, length, map, Contains, Option, None, Some}
use Rattle.cs_journal.specs.Rows.{payloads_of}
use Rattle.cs_schedule.specs.declared.entry.Entry.{Entry}
use Rattle.cs_schedule.specs.Spelling.{payload, IsInFormat}

-- the payloads of the bytes are those of the entries, each of which is within the grammar
pub record HoldsEntries (bytes : List ℕ) (es : List Entry) : Type 0 where
  pub payloads : payloads_of bytes ≡ Some (map payload es)
  pub in_format : (e : Entry) → Contains es e → IsInFormat e

-- entries, and one more behind them where there is one
abbrev pub with_entry : List Entry → Option Entry → List Entry
with_entry es None = es
with_entry es (Some e) = es ++ e ∷ []

-- the entries from before, or these with the one more
abbrev pub HoldsBeforeOrAfter : List Entry → Option Entry → List ℕ → Type 0
HoldsBeforeOrAfter es o image = HoldsEntries image es ⊎ HoldsEntries image (with_entry es o)

-- entries of which this holds
abbrev pub HoldsSuch : (List Entry → Type 0) → List ℕ → Type 0
HoldsSuch P bytes = (es : List Entry) × HoldsEntries bytes es × P es

-- the place of the closed gate with an entry more, where there is one
abbrev pub gate_after : ℕ → Option Entry → ℕ
gate_after gate None = gate
gate_after gate (Some e) = gate + 5 + length (payload e)
