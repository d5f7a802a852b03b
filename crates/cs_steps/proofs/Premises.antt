-- What the laws of the crates below say, as premises of the lemmas here.
use Rattle.std.proofs.Common.{◌≡◌, ℕ, List, ◌∷◌, map, None, Contains}
use Rattle.cs_place.specs.declared.part.Part.{Part}
use Rattle.cs_place.specs.Layout.{IsSoundLayout}
use Rattle.cs_records.specs.declared.captured.Captured.{Captured}
use Rattle.cs_records.specs.Group.{IsRun, record_of}
use Rattle.cs_records.specs.Told.{changes_told, record_fault}

-- the record of a run of captured changes tells just them, and its mods are changes
pub record RunsTell : Type 0 where
  pub changes : (sequence : ℕ) (first : Captured) (more after : List Captured) → IsRun first more → changes_told (record_of sequence first (first ∷ more) after) ≡ map (λ c. c.change) (first ∷ more)
  pub sound : (sequence : ℕ) (first : Captured) (more after : List Captured) → IsRun first more → record_fault (record_of sequence first (first ∷ more) after) ≡ None

-- the parts of a sound layout are told apart by their tokens
abbrev pub TokensNameParts : Type 0
TokensNameParts = (created : ℕ) (parts : List Part) → IsSoundLayout created parts → (a b : Part) → Contains parts a → Contains parts b → a.token ≡ b.token → a ≡ b
