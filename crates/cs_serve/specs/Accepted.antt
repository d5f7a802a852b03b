-- What the serving of connections that an acceptor gives adds to those that were given back to it.
use Rattle.std.specs.Prelude.{◌≡◌, ◌+◌, ◌*◌, ◌<◌, ◌≤◌, ℕ, suc, List, [], ◌∷◌, ◌++◌, length, min, Option, None, Some, IfSome, ⊤}
use Rattle.cs_device.specs.Causes.{Rose}
use Rattle.cs_script.specs.Database.{Database}
use Rattle.cs_connection.specs.Given.{GivenBack, GrowsByOne}
use Rattle.cs_serve.specs.declared.accepting.ServeEnd.{ServeEnd}
use Rattle.cs_serve.specs.Served.{IsGivenRightly}

-- the moment of the connection of this number, counted from 0: so many steps behind the first moment, and at most the greatest stamp
abbrev pub moment_at : ℕ → ℕ → ℕ → ℕ
moment_at moment step_us number = min (moment + number * step_us) 253402300799999999

-- one connection was given back, which was served rightly
pub record GivesOne (db : Database) (moment : ℕ) (old new : Option (List GivenBack)) : Type 0 where
  pub given : GivenBack
  pub grows : GrowsByOne old new given
  pub right : IsGivenRightly db moment given

-- each of the connections from this number on was served rightly for its moment
abbrev pub AreGivenRightly : Database → ℕ → ℕ → ℕ → List GivenBack → Type 0
AreGivenRightly db moment step_us number [] = ⊤
AreGivenRightly db moment step_us number (given ∷ rest) = IsGivenRightly db (moment_at moment step_us number) given × AreGivenRightly db moment step_us (suc number) rest

-- what is told has these connections more, in their order
abbrev pub GrowsByAll : Option (List GivenBack) → Option (List GivenBack) → List GivenBack → Type 0
GrowsByAll None new given = ⊤
GrowsByAll (Some xs) None given = ⊥
GrowsByAll (Some xs) (Some ys) given = ys ≡ xs ++ given

-- so many connections were given back, one behind the other, each served rightly for its moment
pub record GivesAll (db : Database) (moment step_us count : ℕ) (old new : Option (List GivenBack)) : Type 0 where
  pub given : List GivenBack
  pub grows : GrowsByAll old new given
  pub right : AreGivenRightly db moment step_us 0 given
  pub counted : length given ≡ count

-- how the serving ends behind so many connections: with the stated number, or where no next one is taken
abbrev pub EndsBehind : Option ℕ → ℕ → ServeEnd → Type 0
EndsBehind connections count ServeEnd.Done = connections ≡ Some count
EndsBehind connections count ServeEnd.AcceptFault = IfSome connections (λ n. count < n)

-- the acceptor's count of faults rose where no next connection was taken, and at no other time
abbrev pub HasEndCause : ℕ → ℕ → ServeEnd → Type 0
HasEndCause before now ServeEnd.Done = now ≡ before
HasEndCause before now ServeEnd.AcceptFault = (before ≤ now) × Rose before now
