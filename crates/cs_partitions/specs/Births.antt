-- Where the children of each part stand, which a layout keeps so that they are found without a walk (this project's own).
use Rattle.std.specs.Prelude.{◌≡◌, ℕ, ◌-◌, ◌<◌, ◌≤◌, List, length, take, drop, slice_index_or}
use Rattle.cs_place.specs.declared.part.Part.{Part}
use Rattle.cs_partitions.specs.Views.{children_of}

-- the children of the part of a token are among those from one index to below another
pub record IsNear (parts : List Part) (span : ℕ × ℕ) (token : List ℕ) : Type 0 where
  pub rising : span.0 ≤ span.1
  pub inside : span.1 ≤ length parts
  pub all : children_of token parts ≡ children_of token (take (span.1 - span.0) (drop span.0 parts))

-- for each part, where its children are
pub record AreBirths (parts : List Part) (births : List (ℕ × ℕ)) : Type 0 where
  pub count : length births ≡ length parts
  pub near : (i : ℕ) (d : Part) → i < length parts → IsNear parts (slice_index_or births i (0, 0)) (slice_index_or parts i d).token
