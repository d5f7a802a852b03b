-- What a dialer and an acceptor promise of the connections that they give and take back. This project's own.
use Rattle.std.specs.Prelude.{◌≡◌, ℕ, List, [], ◌∷◌, ◌++◌, Option, Some, None, ⊤}
use Rattle.cs_connection.specs.declared.conn.Served.{Served}

-- no byte, where it is told
abbrev pub IsNothing : Option (List ℕ) → Type 0
IsNothing None = ⊤
IsNothing (Some bytes) = bytes ≡ []

-- nothing was read from a connection or written to it
pub record IsUntouched (gone written : Option (List ℕ)) : Type 0 where
  pub unread : IsNothing gone
  pub unwritten : IsNothing written

-- a connection that was given back: the bytes read from it, those left and those written to it,
-- where it tells them, how often it failed, and how its serving ended
pub record GivenBack : Type 0 where
  pub gone : Option (List ℕ)
  pub left : Option (List ℕ)
  pub written : Option (List ℕ)
  pub faults : ℕ
  pub served : Served

-- what is told is told again, unchanged
abbrev pub KeepsBack : Option (List GivenBack) → Option (List GivenBack) → Type 0
KeepsBack None new = ⊤
KeepsBack (Some xs) None = ⊥
KeepsBack (Some xs) (Some ys) = ys ≡ xs

-- what is told has this connection more, as its last
abbrev pub GrowsByOne : Option (List GivenBack) → Option (List GivenBack) → GivenBack → Type 0
GrowsByOne None new given = ⊤
GrowsByOne (Some xs) None given = ⊥
GrowsByOne (Some xs) (Some ys) given = ys ≡ xs ++ given ∷ []
