-- The values of members, as trees.
use Rattle.std.specs.Prelude.{ℕ, ◌^◌, List, [], ◌∷◌, ◌++◌, is_some, nat_lt, if◌then◌else◌, Option, Some, None, option_and_then}
use Rattle.serde_json.specs.Data.{Data, Num, Items, no_items, item}
use Rattle.serde_json.specs.Find.{as_null, as_str, as_number, as_array, as_u64}
use Rattle.serde_json.specs.Read.{read}
use Rattle.cs_types.specs.declared.change.Kind.{Kind}
use Rattle.cs_types.specs.declared.names.CaptureType.{CaptureType}
use Rattle.cs_types.specs.Stamp.{stamp_reading}
use Rattle.cs_types.specs.Token.{token_reading}
use Rattle.cs_json_reading.specs.Texts.{sequence_reading, in_63_bits, digits_reading, is_transaction, is_name, where_it_is, kind_reading, capture_reading}

-- what a text stands for, where the tree is one
abbrev pub of_text : {A : Type 0} → (List ℕ → Option A) → Data → Option A
of_text f d = option_and_then f (as_str d)

-- a text that spells a stamp
abbrev pub stamp_value : Data → Option ℕ
stamp_value d = of_text stamp_reading d

-- a text of 1 to 8 digits
abbrev pub sequence_value : Data → Option ℕ
sequence_value d = of_text sequence_reading d

-- a text that can be the id of a transaction
abbrev pub transaction_value : Data → Option (List ℕ)
transaction_value d = of_text (where_it_is is_transaction) d

-- a text that can be the name of a table
abbrev pub name_value : Data → Option (List ℕ)
name_value d = of_text (where_it_is is_name) d

-- the word for a kind of write
abbrev pub kind_value : Data → Option Kind
kind_value d = of_text kind_reading d

-- the words for a capture type
abbrev pub capture_value : Data → Option CaptureType
capture_value d = of_text capture_reading d

-- a text that is a token
abbrev pub token_value : Data → Option (List ℕ)
token_value d = of_text token_reading d

-- a whole number of JSON, where it is one of 63 bits
abbrev pub number_value : Num → Option ℕ
number_value n = option_and_then in_63_bits (as_u64 n)

-- a whole number, or a text of digits
abbrev pub number_first : Option Num → Option (List ℕ) → Option ℕ
number_first None text = option_and_then digits_reading text
number_first (Some n) text = number_value n

-- a whole number from 0 to 2^63 - 1, as a number or as a text
abbrev pub whole_value : Data → Option ℕ
whole_value d = number_first (as_number d) (as_str d)

-- the number, where it is one of 32 bits
abbrev pub in_32_bits : ℕ → Option ℕ
in_32_bits n = if nat_lt n (2 ^ 32) then Some n else None

-- a whole number of 32 bits
abbrev pub ordinal_value : Data → Option ℕ
ordinal_value d = option_and_then in_32_bits (whole_value d)

-- a token before others, where all are tokens
abbrev pub next_token : Option (List ℕ) → Option (List (List ℕ)) → Option (List (List ℕ))
next_token None rest = None
next_token (Some t) None = None
next_token (Some t) (Some ts) = Some (t ∷ ts)

-- tokens, where each element is one
abbrev pub each_token : Items → Option (List (List ℕ))
each_token no_items = Some []
each_token (item d ds) = next_token (token_value d) (each_token ds)

-- tokens, behind those that were read before them
abbrev pub tokens_behind : List (List ℕ) → Option (List (List ℕ)) → Option (List (List ℕ))
tokens_behind before None = None
tokens_behind before (Some ts) = Some (before ++ ts)

-- an array of tokens; null is none
abbrev pub tokens_value : Data → Option (List (List ℕ))
tokens_value d = if is_some (as_null d) then Some [] else option_and_then each_token (as_array d)

-- the tree that a text holds, where the tree is one
abbrev pub held_tree : Data → Option (List ℕ) → Option Data
held_tree d None = Some d
held_tree d (Some text) = read text

-- a tree that is no text is itself, and a text is the tree that it holds
abbrev pub tree_or_text : Data → Option Data
tree_or_text d = held_tree d (as_str d)
