-- What was read of a request from a connection, and why no request was read.
use Rattle.std.specs.Prelude.{◌≡◌, ◌<◌, ◌≤◌, ℕ, List, ◌++◌, length, Option, None, Some, Result, Ok, Err, ⊤}
use Rattle.std.specs.Io.KnownBytes.{Appends, IsAtEnd}
use Rattle.cs_device.specs.Causes.{Rose}
use Rattle.cs_http.specs.declared.fault.WireFault.{WireFault}
use Rattle.cs_http.specs.declared.reading.Request.{Request}
use Rattle.cs_http.specs.Reading.{IsReading}
use Rattle.cs_serve.specs.declared.unasked.Unasked.{Unasked}
use Rattle.cs_serve.specs.Requests.{IsAnswerable, IsTooLong}

-- the same bytes were added to those read and to those held
pub record ReadsMore (gone now : Option (List ℕ)) (held now_held : List ℕ) : Type 0 where
  pub bytes : List ℕ
  pub read : Appends gone now bytes
  pub kept : now_held ≡ held ++ bytes

-- what bytes ask: a request, none as yet, or why there is none
abbrev pub IsParsed : List ℕ → Result (Option Request) Unasked → Type 0
IsParsed bytes (Ok (Some q)) = IsReading bytes (Ok q.body)
IsParsed bytes (Ok None) = IsReading bytes (Err WireFault.Partial)
IsParsed bytes (Err (Unasked.Refused fault)) = IsReading bytes (Err fault) × IsAnswerable fault
IsParsed bytes (Err Unasked.Cut) = ⊥
IsParsed bytes (Err Unasked.TooLong) = IsTooLong bytes
IsParsed bytes (Err Unasked.Failed) = ⊥
IsParsed bytes (Err Unasked.Memory) = ⊤

-- why the bytes that were read are no request, with those that are left
abbrev pub IsUnasked : List ℕ → Option (List ℕ) → Unasked → Type 0
IsUnasked bytes left (Unasked.Refused fault) = IsReading bytes (Err fault) × IsAnswerable fault
IsUnasked bytes left Unasked.Cut = IsAtEnd left × IsReading bytes (Err WireFault.Partial)
IsUnasked bytes left Unasked.TooLong = IsTooLong bytes
IsUnasked bytes left Unasked.Failed = ⊤
IsUnasked bytes left Unasked.Memory = ⊤

-- what was found of the bytes read: a request, or none
abbrev pub IsFound : List ℕ → Option (List ℕ) → Result Request Unasked → Type 0
IsFound bytes left (Ok q) = IsReading bytes (Ok q.body)
IsFound bytes left (Err e) = IsUnasked bytes left e

-- the same behind one piece more, of which more may be needed
abbrev pub IsTurn : List ℕ → List ℕ → Option (List ℕ) → Result (Option Request) Unasked → Type 0
IsTurn before bytes left (Ok (Some q)) = IsReading bytes (Ok q.body)
IsTurn before bytes left (Ok None) = length before < length bytes
IsTurn before bytes left (Err e) = IsUnasked bytes left e

-- the count of faults rises where a read failed, and at no other time
abbrev pub UnaskedCause : ℕ → ℕ → Unasked → Type 0
UnaskedCause before now (Unasked.Refused fault) = now ≡ before
UnaskedCause before now Unasked.Cut = now ≡ before
UnaskedCause before now Unasked.TooLong = now ≡ before
UnaskedCause before now Unasked.Failed = (before ≤ now) × Rose before now
UnaskedCause before now Unasked.Memory = now ≡ before

abbrev pub HasReadCause : {T : Type 0} → ℕ → ℕ → Result T Unasked → Type 0
HasReadCause before now (Ok x) = now ≡ before
HasReadCause before now (Err e) = UnaskedCause before now e
