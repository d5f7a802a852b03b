-- The names that the grammar of statements gives tables (the naming rules of Spanner's schema pages), and the ids of transactions.
use Rattle.std.specs.Prelude.{◌≡◌, ◌≤◌, ℕ, List, [], ◌∷◌, Bool, true, false, length, All}
use Rattle.std.specs.Char.{is_ascii_alphabetic}
use Rattle.cs_ddl.specs.Lex.{is_word_byte}
use Rattle.cs_script.specs.declared.action.Action.{Action}
use Rattle.cs_script.specs.declared.action.Action.TheVariants.{Ddl, Commit, Reshape}
use Rattle.cs_script.specs.Members.{is_id}

abbrev pub begins_with_letter : List ℕ → Bool
begins_with_letter [] = false
begins_with_letter (b ∷ bs) = is_ascii_alphabetic b

-- a letter, then letters, digits and `_`, at most 128 of all
pub record IsTableName (name : List ℕ) : Type 0 where
  pub letter : begins_with_letter name ≡ true
  pub word : All (λ b. is_word_byte b ≡ true) name
  pub most : length name ≤ 128

-- the transaction of a commit has an id
abbrev pub HasId : Action → Type 0
HasId (Ddl text) = Unit {0}
HasId (Commit c) = is_id c.id ≡ true
HasId (Reshape r) = Unit {0}
