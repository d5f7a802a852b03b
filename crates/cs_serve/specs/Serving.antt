-- What the serving of a connection read and wrote, and when its count of faults rose.
use Rattle.std.specs.Prelude.{◌≡◌, ◌≤◌, ℕ, List, Option, ⊤}
use Rattle.std.specs.Io.KnownBytes.{Appends, Keeps, IsAtEnd}
use Rattle.cs_device.specs.Causes.{Rose}
use Rattle.cs_script.specs.Database.{Database}
use Rattle.cs_http.specs.declared.fault.WireFault.{WireFault}
use Rattle.cs_connection.specs.declared.conn.ConnFault.{ConnFault}
use Rattle.cs_connection.specs.declared.conn.Served.{Served}
use Rattle.cs_serve.specs.Answer.{IsAnswerTo, fault_answer}
use Rattle.cs_serve.specs.Requests.{IsCut, IsTooLong}

-- a request was read, and its answer was written behind what had been
pub record IsAnswered (db : Database) (moment : ℕ) (gone now_gone written now_written : Option (List ℕ)) : Type 0 where
  pub request : List ℕ
  pub answer : List ℕ
  pub read : Appends gone now_gone request
  pub put : Appends written now_written answer
  pub answers : IsAnswerTo db moment request answer

-- bytes were read that are no whole request, none is left, and nothing was written
pub record IsCutOff (gone now_gone left written now_written : Option (List ℕ)) : Type 0 where
  pub request : List ℕ
  pub read : Appends gone now_gone request
  pub cut : IsCut request
  pub end : IsAtEnd left
  pub kept : Keeps written now_written

-- as many bytes were read as a request may have, without its end, and that it is too long was written
pub record IsOverlong (gone now_gone written now_written : Option (List ℕ)) : Type 0 where
  pub request : List ℕ
  pub read : Appends gone now_gone request
  pub long : IsTooLong request
  pub put : Appends written now_written (fault_answer WireFault.TooLong)

-- what was read and written, by how the serving ended, with the bytes that are left
abbrev pub IsServing : Database → ℕ → Option (List ℕ) → Option (List ℕ) → Option (List ℕ) → Option (List ℕ) → Option (List ℕ) → Served → Type 0
IsServing db moment got now_got left written now_written Served.Answered = IsAnswered db moment got now_got written now_written
IsServing db moment got now_got left written now_written Served.ReadFault = ⊤
IsServing db moment got now_got left written now_written Served.WriteFault = ⊤
IsServing db moment got now_got left written now_written Served.RequestCut = IsCutOff got now_got left written now_written
IsServing db moment got now_got left written now_written Served.RequestTooLong = IsOverlong got now_got written now_written
IsServing db moment got now_got left written now_written Served.Memory = ⊤

-- the count of faults rose where a read or a write failed, and at no other time
abbrev pub HasServedCause : ℕ → ℕ → Served → Type 0
HasServedCause before now Served.Answered = now ≡ before
HasServedCause before now Served.ReadFault = (before ≤ now) × Rose before now
HasServedCause before now Served.WriteFault = (before ≤ now) × Rose before now
HasServedCause before now Served.RequestCut = now ≡ before
HasServedCause before now Served.RequestTooLong = now ≡ before
HasServedCause before now Served.Memory = now ≡ before

-- the same for a call of the connection
abbrev pub HasFaultCause : ℕ → ℕ → ConnFault → Type 0
HasFaultCause before now ConnFault.Failed = (before ≤ now) × Rose before now
HasFaultCause before now ConnFault.Memory = now ≡ before

-- how a serving ends in which a call of the connection answered this
abbrev pub unserved : ConnFault → Served
unserved ConnFault.Failed = Served.WriteFault
unserved ConnFault.Memory = Served.Memory
