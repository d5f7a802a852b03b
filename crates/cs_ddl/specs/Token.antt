-- A token is some bytes of a text that stand together, and what they are: a word, a name between backquotes, a text between quotes, a number or a sign. This project's own, after the lexical structure of GoogleSQL.
use Rattle.std.specs.Prelude.{ℕ, ◌-◌, Bool, false, ◌||◌, ◌&&◌, not, List, length, take, drop, Option, Some, None, nat_eq, nat_le, slice_index, ◌==◌, if◌then◌else◌, codes}
use Rattle.std.specs.Str.{str_eq_ignore_ascii_case}
use Rattle.cs_ddl.specs.declared.token.Kind.{Kind}
use Rattle.cs_ddl.specs.declared.token.Kind.TheVariants.{Word, Quoted, Text, Number, Open, Close, Comma, Semicolon, Equals, Arrow}

-- a token: its kind, which a byte with which no token begins has not, its bytes, and where they begin
pub record Lexeme : Type 0 where
  pub kind : Option Kind
  pub text : List ℕ
  pub at : ℕ

abbrev pub number_of : Kind → ℕ
number_of Word = 0
number_of Quoted = 1
number_of Text = 2
number_of Number = 3
number_of Open = 4
number_of Close = 5
number_of Comma = 6
number_of Semicolon = 7
number_of Equals = 8
number_of Arrow = 9

abbrev pub same_kind : Kind → Option Kind → Bool
same_kind k None = false
same_kind k (Some j) = nat_eq (number_of j) (number_of k)

abbrev pub is_kind : Kind → Lexeme → Bool
is_kind k t = same_kind k t.kind

-- a word of the grammar, in any case
abbrev pub is_word : List ℕ → Lexeme → Bool
is_word w t = is_kind Word t && str_eq_ignore_ascii_case t.text w

-- the words that are names only between backquotes
abbrev pub is_reserved : List ℕ → Bool
is_reserved w =
    str_eq_ignore_ascii_case w (codes "all") || (str_eq_ignore_ascii_case w (codes "asc") || (str_eq_ignore_ascii_case w (codes "false")
    || (str_eq_ignore_ascii_case w (codes "for") || (str_eq_ignore_ascii_case w (codes "not") || (str_eq_ignore_ascii_case w (codes "null")
    || str_eq_ignore_ascii_case w (codes "true"))))))

-- without its first and its last byte
abbrev pub inner : List ℕ → List ℕ
inner bytes = take (length bytes - 2) (drop 1 bytes)

-- the bytes of a name, without backquotes
abbrev pub name_text : Option Kind → List ℕ → List ℕ
name_text (Some Quoted) bytes = inner bytes
name_text _ bytes = bytes

abbrev pub name_in : Lexeme → List ℕ
name_in t = name_text t.kind t.text

-- a name of so many bytes at most: between backquotes, or a word that is not reserved
abbrev pub is_name_within : ℕ → Lexeme → Bool
is_name_within limit t = nat_le (length (name_in t)) limit && (is_kind Quoted t || (is_kind Word t && not (is_reserved t.text)))

abbrev pub is_name : Lexeme → Bool
is_name t = is_name_within 128 t

-- the name behind FROM in a query
abbrev pub is_function : Lexeme → Bool
is_function t = is_name_within 133 t

-- a number of 19 digits at most
abbrev pub is_number : Lexeme → Bool
is_number t = is_kind Number t && nat_le (length t.text) (if slice_index t.text 0 == 45 then 20 else 19)
