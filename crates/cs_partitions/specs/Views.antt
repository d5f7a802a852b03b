-- What is asked of a layout: who has a place at a moment, which parts follow one, which are live (the partitions that Spanner's documentation has a query return; the forms are this project's own).
use Rattle.std.specs.Prelude.{ℕ, ◌<◌, ◌≤◌, List, length, filter, slice_index_or, AllPairs, Contains}
use Rattle.cs_types.specs.Names.{is_among}
use Rattle.cs_place.specs.declared.place.Place.{Place}
use Rattle.cs_place.specs.declared.part.Part.{Part}
use Rattle.cs_place.specs.Part.{Holds, IsLive}
use Rattle.cs_partitions.specs.Layout.{IsLower}

-- at this index stands the part that has a place at a moment; of a sound layout there is no other
pub record IsHolder (parts : List Part) (place : Place) (moment index : ℕ) : Type 0 where
  pub inside : index < length parts
  pub holds : (d : Part) → Holds (slice_index_or parts index d) place moment

-- these are the parts that are live at a moment, each once, in order of low
pub record AreLiveByLow (parts : List Part) (moment : ℕ) (live : List Part) : Type 0 where
  pub all : (part : Part) → Contains parts part → IsLive part moment → Contains live part
  pub only : (part : Part) → Contains live part → Contains parts part × IsLive part moment
  pub rising : AllPairs IsLower live
  pub few : length live ≤ length parts

-- the parts that name a token as a parent's, in their order
abbrev pub children_of : List ℕ → List Part → List Part
children_of token parts = filter (λ p. is_among token p.parents) parts
