-- How each production is read.
use Rattle.std.specs.Prelude.{ℕ, suc, Bool, true, false, List, [], ◌∷◌, length, Option, Result, Ok, Err, if◌then◌else◌, codes}
use Rattle.cs_ddl.specs.declared.token.Kind.TheVariants.{Open, Close, Semicolon, Equals}
use Rattle.cs_ddl.specs.declared.tree.Size.{Size}
use Rattle.cs_ddl.specs.declared.tree.Size.TheVariants.{Max, Number}
use Rattle.cs_ddl.specs.declared.tree.TypeTree.{TypeTree}
use Rattle.cs_ddl.specs.declared.tree.TypeTree.TheVariants as types
use Rattle.cs_ddl.specs.declared.tree.ColumnTree.{ColumnTree}
use Rattle.cs_ddl.specs.declared.tree.OptionValue.{OptionValue}
use Rattle.cs_ddl.specs.declared.tree.OptionValue.TheVariants as values
use Rattle.cs_ddl.specs.declared.tree.OptionTree.{OptionTree}
use Rattle.cs_ddl.specs.declared.grammar.Change.{Change}
use Rattle.cs_ddl.specs.declared.grammar.Change.TheVariants as changes
use Rattle.cs_ddl.specs.declared.tree.WatchItem.{WatchItem}
use Rattle.cs_ddl.specs.declared.tree.WatchTree.{WatchTree}
use Rattle.cs_ddl.specs.declared.tree.WatchTree.TheVariants.{All, Tables}
use Rattle.cs_ddl.specs.declared.tree.Statement.{Statement}
use Rattle.cs_ddl.specs.declared.tree.Statement.TheVariants.{CreateTable, AddColumn, CreateStream, SetWatch, DropWatch, SetOptions, DropStream}
use Rattle.cs_ddl.specs.Token.{Lexeme, is_word, is_kind}
use Rattle.cs_ddl.specs.Reading.{Read, behind, starts_with_sign, pure, both, mapped, after, before, choose, maybe_at, word_at, sign_at, name_at, number_at, text_at, may_word_at, whole}
use Rattle.cs_ddl.specs.Lists.{list_at}

-- "(" [name {"," name}] ")", or nothing
unfoldable pub columns_at : List Lexeme → Read (Option (List (List ℕ)))
columns_at = maybe_at (is_kind Open) (choose (is_kind Close) (pure []) (before (list_at name_at false) (sign_at Close)))

unfoldable pub item_at : List Lexeme → Read WatchItem
item_at = mapped (λ z. record { table = z.0; columns = z.1 }) (both name_at columns_at)

unfoldable pub watch_at : List Lexeme → Read WatchTree
watch_at = choose (is_word (codes "all")) (pure All) (mapped Tables (list_at item_at false))

unfoldable pub for_at : List Lexeme → Read (Option WatchTree)
for_at = maybe_at (is_word (codes "for")) watch_at

-- MAX or a number
unfoldable pub size_at : List Lexeme → Read Size
size_at = choose (is_word (codes "max")) (pure Max) (mapped Number number_at)

unfoldable pub sized_at : List Lexeme → Read Size
sized_at = after (sign_at Open) (before size_at (sign_at Close))

unfoldable pub type_at : List Lexeme → Read TypeTree
type_at =
    choose (is_word (codes "bool")) (pure types.Bool)
    (choose (is_word (codes "int64")) (pure types.Int64)
    (choose (is_word (codes "numeric")) (pure types.Numeric)
    (choose (is_word (codes "date")) (pure types.Date)
    (choose (is_word (codes "timestamp")) (pure types.Timestamp)
    (choose (is_word (codes "string")) (mapped types.Text sized_at)
    (after (word_at (codes "bytes")) (mapped types.Bytes sized_at)))))))

unfoldable pub not_null_at : List Lexeme → Read Bool
not_null_at = choose (is_word (codes "not")) (mapped (λ _. true) (word_at (codes "null"))) (pure false)

unfoldable pub column_at : List Lexeme → Read ColumnTree
column_at = mapped (λ z. record { name = z.0; ty = z.1.0; not_null = z.1.1 }) (both name_at (both type_at not_null_at))

unfoldable pub key_at : List Lexeme → Read (List ℕ)
key_at = mapped (λ z. z.0) (both name_at (may_word_at (codes "asc")))

unfoldable pub column_list_at : List Lexeme → Read (List ColumnTree)
column_list_at = after (sign_at Open) (before (list_at column_at true) (sign_at Close))

unfoldable pub key_list_at : List Lexeme → Read (List (List ℕ))
key_list_at = after (word_at (codes "primary")) (after (word_at (codes "key")) (after (sign_at Open) (before (list_at key_at false) (sign_at Close))))

-- behind CREATE TABLE
unfoldable pub table_at : List Lexeme → Read Statement
table_at = mapped (λ z. CreateTable z.0 z.1.0 z.1.1) (both name_at (both column_list_at key_list_at))

unfoldable pub value_at : List Lexeme → Read OptionValue
value_at = choose (is_word (codes "true")) (pure values.True) (choose (is_word (codes "false")) (pure values.False) (choose (is_word (codes "null")) (pure values.Null) (mapped values.Text text_at)))

unfoldable pub option_at : List Lexeme → Read OptionTree
option_at = mapped (λ z. record { name = z.0; value = z.1 }) (both name_at (after (sign_at Equals) value_at))

unfoldable pub option_list_at : List Lexeme → Read (List OptionTree)
option_list_at = after (sign_at Open) (before (list_at option_at false) (sign_at Close))

unfoldable pub options_at : List Lexeme → Read (List OptionTree)
options_at = choose (is_word (codes "options")) option_list_at (pure [])

-- behind CREATE CHANGE
unfoldable pub stream_at : List Lexeme → Read Statement
stream_at = after (word_at (codes "stream")) (mapped (λ z. CreateStream z.0 z.1.0 z.1.1) (both name_at (both for_at options_at)))

-- behind SET
unfoldable pub set_at : List Lexeme → Read Change
set_at = choose (is_word (codes "for")) (mapped changes.Watch watch_at) (after (word_at (codes "options")) (mapped changes.Options option_list_at))

unfoldable pub change_at : List Lexeme → Read Change
change_at = choose (is_word (codes "set")) set_at (after (word_at (codes "drop")) (after (word_at (codes "for")) (mapped (λ _. changes.Nothing) (word_at (codes "all")))))

abbrev pub changed : List ℕ → Change → Statement
changed n (changes.Watch w) = SetWatch n w
changed n (changes.Options os) = SetOptions n os
changed n changes.Nothing = DropWatch n

-- behind ALTER CHANGE
unfoldable pub alter_stream_at : List Lexeme → Read Statement
alter_stream_at = after (word_at (codes "stream")) (mapped (λ z. changed z.0 z.1) (both name_at change_at))

-- behind ALTER TABLE
unfoldable pub add_column_at : List Lexeme → Read Statement
add_column_at = mapped (λ z. AddColumn z.0 z.1.0 z.1.1) (both name_at (after (word_at (codes "add")) (after (word_at (codes "column")) (both name_at type_at))))

-- behind ALTER
unfoldable pub alter_at : List Lexeme → Read Statement
alter_at = choose (is_word (codes "table")) add_column_at (after (word_at (codes "change")) alter_stream_at)

-- behind CREATE
unfoldable pub create_at : List Lexeme → Read Statement
create_at = choose (is_word (codes "table")) table_at (after (word_at (codes "change")) stream_at)

-- behind DROP
unfoldable pub drop_at : List Lexeme → Read Statement
drop_at = after (word_at (codes "change")) (after (word_at (codes "stream")) (mapped DropStream name_at))

unfoldable pub statement_at : List Lexeme → Read Statement
statement_at = choose (is_word (codes "create")) create_at (choose (is_word (codes "alter")) alter_at (after (word_at (codes "drop")) drop_at))

-- behind a statement: one sign may stand there, and nothing else
abbrev pub behind_end : List Lexeme → List Lexeme
behind_end ts = if starts_with_sign Semicolon ts then behind ts else ts

abbrev pub finished : {B : Type 0} → B → List Lexeme → Result B ℕ
finished b [] = Ok b
finished b (t ∷ ts) = Err (suc (length ts))

unfoldable pub end_at : {B : Type 0} → B → List Lexeme → Result B ℕ
end_at b ts = finished b (behind_end ts)

unfoldable pub all_at : List Lexeme → Result Statement ℕ
all_at ts = whole statement_at (λ s us. end_at s us) ts
