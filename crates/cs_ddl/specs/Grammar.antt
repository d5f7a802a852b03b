-- The grammar of the statements: the parts that a statement's text has, in order. This project's own, after the data definition statements of GoogleSQL for Spanner.
use Rattle.std.specs.Prelude.{◌≡◌, ℕ, Bool, true, false, List, [], ◌∷◌, ◌++◌, Option, Some, None, ◌⊎◌, codes}
use Rattle.cs_ddl.specs.declared.token.Kind.{Kind}
use Rattle.cs_ddl.specs.declared.token.Kind.TheVariants.{Open, Close, Comma, Semicolon, Equals, Text}
use Rattle.cs_ddl.specs.declared.tree.Size.{Size}
use Rattle.cs_ddl.specs.declared.tree.Size.TheVariants.{Max, Number}
use Rattle.cs_ddl.specs.declared.tree.TypeTree.{TypeTree}
use Rattle.cs_ddl.specs.declared.tree.TypeTree.TheVariants as types
use Rattle.cs_ddl.specs.declared.tree.ColumnTree.{ColumnTree}
use Rattle.cs_ddl.specs.declared.tree.OptionValue.{OptionValue}
use Rattle.cs_ddl.specs.declared.tree.OptionValue.TheVariants as values
use Rattle.cs_ddl.specs.declared.tree.OptionTree.{OptionTree}
use Rattle.cs_ddl.specs.declared.tree.WatchItem.{WatchItem}
use Rattle.cs_ddl.specs.declared.tree.WatchTree.{WatchTree}
use Rattle.cs_ddl.specs.declared.tree.WatchTree.TheVariants.{All, Tables}
use Rattle.cs_ddl.specs.declared.tree.Statement.{Statement}
use Rattle.cs_ddl.specs.declared.tree.Statement.TheVariants.{CreateTable, AddColumn, CreateStream, SetWatch, DropWatch, SetOptions, DropStream}
use Rattle.cs_ddl.specs.Token.{Lexeme, is_word, is_kind, is_name, is_function, name_in, is_number, inner}

-- what one token can be: a word of the grammar in any case, a sign, a name, the name behind FROM, a number, a text between quotes
pub data Item : Type 0 where
  Keyword : List ℕ → Item
  Sign : Kind → Item
  Name : List ℕ → Item
  Function : List ℕ → Item
  Digits : List ℕ → Item
  Quoted : List ℕ → Item

abbrev pub Stands : Item → Lexeme → Type 0
Stands (Keyword w) t = is_word w t ≡ true
Stands (Sign k) t = is_kind k t ≡ true
Stands (Name n) t = (is_name t ≡ true) × (name_in t ≡ n)
Stands (Function n) t = (is_function t ≡ true) × (name_in t ≡ n)
Stands (Digits n) t = (is_number t ≡ true) × (t.text ≡ n)
Stands (Quoted bytes) t = (is_kind Text t ≡ true) × (inner t.text ≡ bytes)

-- what must stand, what may stand, and what no text has
pub data Part : Type 0 where
  Must : Item → Part
  May : Item → Part
  Never : Part

-- the tokens are these parts, in order
abbrev pub Matches : List Part → List Lexeme → Type 0
Matches [] [] = Unit {0}
Matches [] (t ∷ ts) = ⊥
Matches (Must i ∷ ps) [] = ⊥
Matches (Must i ∷ ps) (t ∷ ts) = Stands i t × Matches ps ts
Matches (May i ∷ ps) [] = Matches ps []
Matches (May i ∷ ps) (t ∷ ts) = Matches ps (t ∷ ts) ⊎ (Stands i t × Matches ps ts)
Matches (Never ∷ ps) ts = ⊥

abbrev pub keyword : List ℕ → List Part
keyword w = Must (Keyword w) ∷ []

abbrev pub sign : Kind → List Part
sign k = Must (Sign k) ∷ []

abbrev pub name : List ℕ → List Part
name n = Must (Name n) ∷ []

-- each behind a comma
abbrev pub others : {A : Type 0} → (A → List Part) → List A → List Part
others spell [] = []
others spell (x ∷ xs) = Must (Sign Comma) ∷ (spell x ++ others spell xs)

-- one or more, with commas between them
abbrev pub separated : {A : Type 0} → (A → List Part) → List A → List Part
separated spell [] = Never ∷ []
separated spell (x ∷ xs) = spell x ++ others spell xs

-- what may be left out
abbrev pub spelled_maybe : {A : Type 0} → Item → (A → List Part) → Option A → List Part
spelled_maybe i spell None = []
spelled_maybe i spell (Some a) = Must i ∷ spell a

-- none, or some with commas between them
abbrev pub listed : {A : Type 0} → (A → List Part) → List A → List Part
listed spell [] = []
listed spell (x ∷ xs) = separated spell (x ∷ xs)

-- a comma that may stand behind a list
abbrev pub trail : Bool → List Part
trail false = []
trail true = May (Sign Comma) ∷ []

-- ---- the productions

abbrev pub columns : Option (List (List ℕ)) → List Part
columns c = spelled_maybe (Sign Open) (λ ns. listed name ns ++ sign Close) c

abbrev pub item : WatchItem → List Part
item w = name w.table ++ columns w.columns

abbrev pub watch : WatchTree → List Part
watch All = keyword (codes "all")
watch (Tables items) = separated item items

abbrev pub for_watch : Option WatchTree → List Part
for_watch w = spelled_maybe (Keyword (codes "for")) watch w

abbrev pub size : Size → List Part
size Max = keyword (codes "max")
size (Number n) = Must (Digits n) ∷ []

abbrev pub sized : Size → List Part
sized s = sign Open ++ (size s ++ sign Close)

abbrev pub ty : TypeTree → List Part
ty types.Bool = keyword (codes "bool")
ty types.Int64 = keyword (codes "int64")
ty types.Numeric = keyword (codes "numeric")
ty types.Date = keyword (codes "date")
ty types.Timestamp = keyword (codes "timestamp")
ty (types.Text s) = keyword (codes "string") ++ sized s
ty (types.Bytes s) = keyword (codes "bytes") ++ sized s

abbrev pub not_null : Bool → List Part
not_null true = keyword (codes "not") ++ keyword (codes "null")
not_null false = []

abbrev pub column : ColumnTree → List Part
column c = name c.name ++ (ty c.ty ++ not_null c.not_null)

abbrev pub key : List ℕ → List Part
key n = name n ++ May (Keyword (codes "asc")) ∷ []

abbrev pub column_list : List ColumnTree → List Part
column_list cs = sign Open ++ ((separated column cs ++ trail true) ++ sign Close)

abbrev pub key_list : List (List ℕ) → List Part
key_list ks = keyword (codes "primary") ++ (keyword (codes "key") ++ (sign Open ++ (separated key ks ++ sign Close)))

abbrev pub value : OptionValue → List Part
value values.True = keyword (codes "true")
value values.False = keyword (codes "false")
value values.Null = keyword (codes "null")
value (values.Text bytes) = Must (Quoted bytes) ∷ []

abbrev pub option : OptionTree → List Part
option o = name o.name ++ (sign Equals ++ value o.value)

abbrev pub option_list : List OptionTree → List Part
option_list os = sign Open ++ (separated option os ++ sign Close)

abbrev pub options : List OptionTree → List Part
options [] = []
options (o ∷ os) = keyword (codes "options") ++ option_list (o ∷ os)

-- behind CHANGE STREAM
abbrev pub stream : List Part → List Part
stream rest = keyword (codes "change") ++ (keyword (codes "stream") ++ rest)

abbrev pub statement : Statement → List Part
statement (CreateTable n cs ks) = keyword (codes "create") ++ (keyword (codes "table") ++ (name n ++ (column_list cs ++ key_list ks)))
statement (AddColumn table n t) = keyword (codes "alter") ++ (keyword (codes "table") ++ (name table ++ (keyword (codes "add") ++ (keyword (codes "column") ++ (name n ++ ty t)))))
statement (CreateStream n w os) = keyword (codes "create") ++ stream (name n ++ (for_watch w ++ options os))
statement (SetWatch n w) = keyword (codes "alter") ++ stream (name n ++ (keyword (codes "set") ++ (keyword (codes "for") ++ watch w)))
statement (DropWatch n) = keyword (codes "alter") ++ stream (name n ++ (keyword (codes "drop") ++ (keyword (codes "for") ++ keyword (codes "all"))))
statement (SetOptions n os) = keyword (codes "alter") ++ stream (name n ++ (keyword (codes "set") ++ (keyword (codes "options") ++ option_list os)))
statement (DropStream n) = keyword (codes "drop") ++ stream (name n)

-- a whole text
abbrev pub text : Statement → List Part
text s = statement s ++ May (Sign Semicolon) ∷ []
