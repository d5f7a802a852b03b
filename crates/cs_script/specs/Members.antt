-- Members of the objects of a line: those that must or may stand, and those that are unknown (the script's form is this project's own; the tree is that of RFC 8259).
use Rattle.std.specs.Prelude.{ℕ, List, [], ◌∷◌, ◌++◌, codes, is_some, nat_le, length, Bool, true, false, if◌then◌else◌, Option, Some, None, Ok, Err, bytes_eq, ◌&&◌, nat_lt}
use Rattle.serde_json.specs.Data.{Data, Items, no_items, item, Members, no_members, member}
use Rattle.serde_json.specs.Find.{get, as_str, as_object, as_array}
use Rattle.cs_types.specs.Token.{token_reading, are_token_bytes}
use Rattle.cs_script.specs.Readings.{Reading}
use Rattle.cs_script.specs.declared.fault.LineCause.TheVariants.{Member}

-- the value, where there is one; else the member of the name is not as it should be
abbrev pub or_bad : {A : Type 0} → List ℕ → Option A → Reading A
or_bad name None = Err (Member name)
or_bad name (Some a) = Ok a

-- what a member is read as, where it must be there
abbrev pub of_member : {A : Type 0} → (Data → Option A) → List ℕ → Option Data → Reading A
of_member f name None = Err (Member name)
of_member f name (Some d) = or_bad name (f d)

-- the member of an object that must have it
abbrev pub required : {A : Type 0} → (Data → Option A) → List ℕ → Data → Reading A
required f name d = of_member f name (get name d)

-- a text of a kind
abbrev pub where_it_is : (List ℕ → Bool) → Option (List ℕ) → Option (List ℕ)
where_it_is test None = None
where_it_is test (Some text) = if test text then Some text else None

-- the id of a transaction: 1 to 64 visible bytes of ASCII, without quotes and backslash
unfoldable pub is_id : List ℕ → Bool
is_id text = nat_lt 0 (length text) && nat_le (length text) 64 && are_token_bytes text

abbrev pub id_value : Data → Option (List ℕ)
id_value d = where_it_is is_id (as_str d)

-- the tag of a transaction: 64 bytes at most
unfoldable pub is_tag : List ℕ → Bool
is_tag text = nat_le (length text) 64

abbrev pub tag_value : Data → Option (List ℕ)
tag_value d = where_it_is is_tag (as_str d)

-- an absent tag is empty
abbrev pub tag_of : Option Data → Reading (List ℕ)
tag_of None = Ok []
tag_of (Some d) = or_bad (codes "tag") (tag_value d)

-- a token
abbrev pub token_of : Option (List ℕ) → Option (List ℕ)
token_of None = None
token_of (Some text) = token_reading text

abbrev pub token_value : Data → Option (List ℕ)
token_value d = token_of (as_str d)

-- tokens, where each element is one
abbrev pub next_token : Option (List ℕ) → Option (List (List ℕ)) → Option (List (List ℕ))
next_token None rest = None
next_token (Some t) None = None
next_token (Some t) (Some ts) = Some (t ∷ ts)

abbrev pub each_token : Items → Option (List (List ℕ))
each_token no_items = Some []
each_token (item d ds) = next_token (token_value d) (each_token ds)

-- tokens, behind those that were read before them
abbrev pub tokens_behind : List (List ℕ) → Option (List (List ℕ)) → Option (List (List ℕ))
tokens_behind before None = None
tokens_behind before (Some ts) = Some (before ++ ts)

abbrev pub tokens_of : Option Items → Option (List (List ℕ))
tokens_of None = None
tokens_of (Some ds) = each_token ds

-- an array of tokens
abbrev pub tokens_value : Data → Option (List (List ℕ))
tokens_value d = tokens_of (as_array d)

-- whether a name stands in a list
abbrev pub is_listed : List ℕ → List (List ℕ) → Bool
is_listed name [] = false
is_listed name (n ∷ ns) = if bytes_eq name n then true else is_listed name ns

-- the first member that is not listed
abbrev pub first_other : List (List ℕ) → Members → Reading (Unit {0})
first_other known no_members = Ok tt
first_other known (member name d ms) = if is_listed name known then first_other known ms else Err (Member name)

abbrev pub others_of : List (List ℕ) → Option Members → Reading (Unit {0})
others_of known None = Ok tt
others_of known (Some ms) = first_other known ms

-- an object has no members but those listed
abbrev pub no_others : List (List ℕ) → Data → Reading (Unit {0})
no_others known d = others_of known (as_object d)

-- whether a member stands
abbrev pub has : List ℕ → Data → Bool
has name d = is_some (get name d)
