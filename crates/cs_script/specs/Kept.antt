-- What holds of every scripted database.
use Rattle.std.specs.Prelude.{◌≡◌, ℕ, ◌≤◌, List, [], ◌∷◌, Option, Some, None, All, ⊤, true}
use Rattle.cs_place.specs.declared.part.Part.{Part}
use Rattle.cs_schema.specs.declared.types.Stream.{Stream}
use Rattle.cs_schema.specs.declared.types.Table.{Table}
use Rattle.cs_txn.specs.declared.txn.Modification.{Modification}
use Rattle.cs_txn.specs.Fits.{HaveNames, IsHistoryOf}
use Rattle.cs_partitions.specs.Layout.{StreamParts}
use Rattle.cs_script.specs.Database.{Database, writes_at}
use Rattle.cs_script.specs.Members.{is_id}
use Rattle.cs_script.specs.Named.{IsTableName}

-- a stamp is not above the last moment
abbrev pub IsBy : Option ℕ → ℕ → Type 0
IsBy None at = ⊥
IsBy (Some last) at = at ≤ last

abbrev pub IsEndBy : Option ℕ → Option ℕ → Type 0
IsEndBy last None = ⊤
IsEndBy last (Some until) = IsBy last until

-- a part begins and ends by the last moment
pub record IsPartBy (last : Option ℕ) (p : Part) : Type 0 where
  pub from : IsBy last p.from
  pub until : IsEndBy last p.until

-- the layout is that of the stream
pub record IsLayoutOf (s : Stream) (l : StreamParts) : Type 0 where
  pub name : l.stream ≡ s.name
  pub created : l.created ≡ s.created

-- each stream has one layout, in the order of the streams
abbrev pub AreLayoutsOf : List Stream → List StreamParts → Type 0
AreLayoutsOf [] [] = Unit {0}
AreLayoutsOf [] (l ∷ ls) = ⊥
AreLayoutsOf (s ∷ ss) [] = ⊥
AreLayoutsOf (s ∷ ss) (l ∷ ls) = IsLayoutOf s l × AreLayoutsOf ss ls

-- what a state keeps beside what its catalog, its history and its layouts keep
pub record IsKept (db : Database) : Type 0 where
  -- no table has a name with a byte 00
  pub names : HaveNames db.tables
  -- each has one that the grammar has
  pub table_names : All (λ (t : Table). IsTableName t.name) db.tables
  -- the modifications are of rows of the catalog
  pub fits : IsHistoryOf db.tables db.modifications
  -- each transaction has an id
  pub ids : All (λ (m : Modification). is_id m.tx ≡ true) db.modifications
  -- each stream has one layout, which has its name and begins at its creation
  pub layouts : AreLayoutsOf db.streams db.layouts
  -- a stamp has at most 1,024 writes
  pub few : (stamp : ℕ) → writes_at stamp db.modifications ≤ 1024
  -- no stamp is above that of the last line
  pub commits : All (λ (m : Modification). IsBy db.last m.stamp) db.modifications
  pub creations : All (λ (s : Stream). IsBy db.last s.created) db.streams
  pub parts : All (λ (l : StreamParts). All (IsPartBy db.last) l.parts) db.layouts

-- how many writes the commits of the last moment have
abbrev pub writes_by : Option ℕ → List Modification → ℕ
writes_by None ms = 0
writes_by (Some last) ms = writes_at last ms
