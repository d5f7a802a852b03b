-- When a connection that was given back was served rightly.
use Rattle.std.specs.Prelude.{◌≡◌, ◌<◌, ℕ, List, Option, None, IfSome, ⊤}
use Rattle.std.specs.Io.KnownBytes.{IsAtEnd}
use Rattle.cs_script.specs.Database.{Database}
use Rattle.cs_http.specs.declared.fault.WireFault.{WireFault}
use Rattle.cs_connection.specs.declared.conn.Served.{Served}
use Rattle.cs_connection.specs.Given.{GivenBack, IsNothing}
use Rattle.cs_serve.specs.Answer.{IsAnswerTo, fault_answer}
use Rattle.cs_serve.specs.Requests.{IsCut, IsTooLong}

-- what holds of two texts, where both are told
abbrev pub IfBoth : (List ℕ → List ℕ → Type 0) → Option (List ℕ) → Option (List ℕ) → Type 0
IfBoth P first second = IfSome first (λ x. IfSome second (P x))

-- what was not told is not told later
abbrev pub StaysSilent : Option (List ℕ) → Option (List ℕ) → Type 0
StaysSilent old new = old ≡ None → new ≡ None

-- a connection from which nothing had been read, with the bytes read from it, those left and those written to it where it tells them, and how often it failed
abbrev pub IsServedRightly : Database → ℕ → Option (List ℕ) → Option (List ℕ) → Option (List ℕ) → ℕ → Served → Type 0
-- the answer to the bytes read was written, and nothing else
IsServedRightly db moment got left written faults Served.Answered = IfBoth (IsAnswerTo db moment) got written
-- it failed
IsServedRightly db moment got left written faults Served.ReadFault = 0 < faults
IsServedRightly db moment got left written faults Served.WriteFault = 0 < faults
-- nothing was written, no byte is left, and those read are no whole request
IsServedRightly db moment got left written faults Served.RequestCut = IsNothing written × IsAtEnd left × IfSome got IsCut
-- as many bytes as a request may have were read without its end, and that it is too long was written
IsServedRightly db moment got left written faults Served.RequestTooLong = IfSome got IsTooLong × IfSome written (λ bytes. bytes ≡ fault_answer WireFault.TooLong)
-- nothing is said
IsServedRightly db moment got left written faults Served.Memory = ⊤

-- the same of a connection that was given back
abbrev pub IsGivenRightly : Database → ℕ → GivenBack → Type 0
IsGivenRightly db moment given = IsServedRightly db moment given.gone given.left given.written given.faults given.served
