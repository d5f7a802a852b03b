-- What is said of a script's database, where the script is told.
use Rattle.std.proofs.Common.{◌≡◌, ℕ, List, Option, None, Some, IfSome, Ok, subst}
use Rattle.cs_script.specs.Database.{Database}
use Rattle.cs_script.specs.Script.{Makes}
use Rattle.cs_tool.specs.Database.{OnScript}

pub on_script : (source : Option (List ℕ)) (db : Database) (P : Database → Type 0) → IfSome source (λ bytes. Makes bytes (Ok db)) → P db → OnScript source P
on_script None db P made p = tt
on_script (Some bytes) db P made p = (db, made, p)

-- what is said of the bytes that an output told, where these were read
pub of_told : (old : Option (List ℕ)) (items : List ℕ) (P : List ℕ → Type 0) → IfSome old (λ bytes. items ≡ bytes) → P items → IfSome old P
of_told None items P e p = tt
of_told (Some bytes) items P e p = subst P e p
