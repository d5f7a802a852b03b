-- The bytes of requests that are answered, that end too early, and that do not end.
use Rattle.std.specs.Prelude.{◌≡◌, ◌⊎◌, ℕ, List, [], length, Err, ⊤}
use Rattle.cs_http.specs.declared.fault.WireFault.{WireFault}
use Rattle.cs_http.specs.Reading.{IsReading}

-- a refusal of bytes that is answered: another says that they do not end, or that memory was wanting
abbrev pub IsAnswerable : WireFault → Type 0
IsAnswerable WireFault.Head = ⊤
IsAnswerable WireFault.Partial = ⊥
IsAnswerable WireFault.Method = ⊤
IsAnswerable WireFault.NotFound = ⊤
IsAnswerable WireFault.Length = ⊤
IsAnswerable WireFault.Coding = ⊤
IsAnswerable WireFault.TooLong = ⊥
IsAnswerable WireFault.BadText = ⊤
IsAnswerable WireFault.Memory = ⊥

-- no byte of a request, or its beginning
abbrev pub IsCut : List ℕ → Type 0
IsCut request = (request ≡ []) ⊎ IsReading request (Err WireFault.Partial)

-- as many bytes as a request may have, in which it does not end
abbrev pub IsTooLong : List ℕ → Type 0
IsTooLong request = (length request ≡ 65536) × IsReading request (Err WireFault.TooLong)
