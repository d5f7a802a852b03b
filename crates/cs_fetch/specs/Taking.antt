-- What becomes of one record that a READ gives. This project's own.
use Rattle.std.specs.Prelude.{ℕ, Bool, true, false, List, Option, Some, None, cond}
use Rattle.cs_link.specs.declared.breach.Breach.{Breach}
use Rattle.cs_fetch.specs.declared.listing.Listed.{Listed}
use Rattle.cs_fetch.specs.declared.taken.Taken.{Taken}
use Rattle.cs_fetch.specs.Breach.{are_same}

-- a record breaks a rule, or adds something, or not
abbrev pub taken_of : Option Breach → Bool → Taken
taken_of None adds = Taken.Took adds
taken_of (Some breach) adds = Taken.Breaks breach

-- a child is new, or is listed with the parents that it was listed with before, or with others
abbrev pub listed_of : Option (List (List ℕ)) → List (List ℕ) → Listed
listed_of None parents = Listed.New
listed_of (Some earlier) parents = cond (are_same earlier parents) Listed.Same Listed.Differs

abbrev pub is_new : Listed → Bool
is_new Listed.New = true
is_new Listed.Same = false
is_new Listed.Differs = false

abbrev pub is_differing : Listed → Bool
is_differing Listed.New = false
is_differing Listed.Same = false
is_differing Listed.Differs = true
