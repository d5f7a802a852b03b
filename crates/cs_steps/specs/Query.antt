-- A READ as a text of SQL asks for it, with typed arguments, and why one is refused before its times are looked at (Spanner's page on querying a change stream, 'Change stream query syntax'; the order of the refusals is this project's own).
use Rattle.std.specs.Prelude.{ℕ, suc, ◌==◌, Bool, true, false, ◌||◌, cond, nat_le, is_some, List, [], ◌∷◌, ◌++◌, Option, None, Some, codes, ◌≡◌, ⊤}
use Rattle.std.specs.Option.{option_or, option_map, unwrap_or}
use Rattle.std.specs.Cmp.Lexicographic.{pointwise}
use Rattle.std.specs.Str.Lossy.{utf8_lossy}
use Rattle.std.specs.Str.Parse.{digits_value}
use Rattle.cs_types.specs.Digits.{all_digits}
use Rattle.cs_types.specs.Stamp.{stamp_reading}
use Rattle.cs_types.specs.Token.{token_reading}
use Rattle.cs_ddl.specs.declared.tree.Argument.{Argument}
use Rattle.cs_ddl.specs.declared.tree.Literal.{Literal}
use Rattle.cs_ddl.specs.declared.tree.Literal.TheVariants.{Null, Text, Timestamp, Number}
use Rattle.cs_ddl.specs.declared.tree.ReadQuery.{ReadQuery}
use Rattle.cs_schema.specs.declared.types.Stream.{Stream}
use Rattle.cs_link.specs.declared.reading.ReadArgs.{ReadArgs}
use Rattle.cs_link.specs.declared.refusal.ReadRefusal.{ReadRefusal}
use Rattle.cs_link.specs.declared.refusal.ReadRefusal.TheVariants.{UnknownFunction, ArgumentType, ArgumentMissing, ReadOptions}
use Rattle.cs_steps.specs.declared.fault.ReadFault.{ReadFault}

-- the same bytes
abbrev pub is_text : List ℕ → List ℕ → Bool
is_text word text = pointwise ◌==◌ word text

-- ---- the function

-- the place of the stream that a function reads, by READ_ and its name; the first stream has this place
abbrev pub stream_from : ℕ → List ℕ → List Stream → Option ℕ
stream_from place word [] = None
stream_from place word (s ∷ ss) = cond (is_text word (codes "READ_" ++ s.name)) (Some place) (stream_from (suc place) word ss)

abbrev pub stream_read : List ℕ → List Stream → Option ℕ
stream_read word streams = stream_from 0 word streams

-- ---- what literals say; NULL and what is not of the type say nothing

abbrev pub moment_of : Literal → Option ℕ
moment_of Null = None
moment_of (Text bytes) = stamp_reading bytes
moment_of (Timestamp bytes) = stamp_reading bytes
moment_of (Number digits) = None

abbrev pub token_of : Literal → Option (List ℕ)
token_of Null = None
token_of (Text bytes) = token_reading bytes
token_of (Timestamp bytes) = None
token_of (Number digits) = None

-- a number of milliseconds that a heartbeat may have; 0 stands for each that it may not
abbrev pub up_to_most : ℕ → ℕ
up_to_most n = cond (nat_le n 300000) n 0

abbrev pub milliseconds : List ℕ → ℕ
milliseconds digits = cond (all_digits digits) (up_to_most (digits_value 10 digits)) 0

abbrev pub heartbeat_of : Literal → Option ℕ
heartbeat_of Null = None
heartbeat_of (Text bytes) = None
heartbeat_of (Timestamp bytes) = None
heartbeat_of (Number digits) = Some (milliseconds digits)

abbrev pub is_null : Literal → Bool
is_null Null = true
is_null (Text bytes) = false
is_null (Timestamp bytes) = false
is_null (Number digits) = false

-- ---- the arguments

-- whether the argument of a name takes a literal: NULL, or one of its type; an unknown argument takes none
abbrev pub takes : List ℕ → Literal → Bool
takes name value =
    cond (is_text name (codes "start_timestamp")) (is_null value || is_some (moment_of value))
    (cond (is_text name (codes "end_timestamp")) (is_null value || is_some (moment_of value))
    (cond (is_text name (codes "partition_token")) (is_null value || is_some (token_of value))
    (cond (is_text name (codes "heartbeat_milliseconds")) (is_null value || is_some (heartbeat_of value))
    (is_text name (codes "read_options")))))

-- whether one of the arguments has the name
abbrev pub stands_among : List ℕ → List Argument → Bool
stands_among name [] = false
stands_among name (a ∷ rest) = cond (is_text a.name name) true (stands_among name rest)

-- the first argument that stands among those before it, or that does not take its value
abbrev pub wrong_argument : List Argument → List Argument → Option (List ℕ)
wrong_argument earlier [] = None
wrong_argument earlier (a ∷ rest) = cond (stands_among a.name earlier) (Some (utf8_lossy a.name)) (cond (takes a.name a.value) (wrong_argument (earlier ++ a ∷ []) rest) (Some (utf8_lossy a.name)))

-- the value of the argument of a name
abbrev pub argument_named : List ℕ → List Argument → Option Literal
argument_named name [] = None
argument_named name (a ∷ rest) = cond (is_text a.name name) (Some a.value) (argument_named name rest)

-- the same; NULL where there is none
abbrev pub value_of : List ℕ → List Argument → Literal
value_of name arguments = unwrap_or (argument_named name arguments) Null

abbrev pub start_in : List Argument → Option ℕ
start_in arguments = moment_of (value_of (codes "start_timestamp") arguments)

abbrev pub end_in : List Argument → Option ℕ
end_in arguments = moment_of (value_of (codes "end_timestamp") arguments)

abbrev pub token_in : List Argument → Option (List ℕ)
token_in arguments = token_of (value_of (codes "partition_token") arguments)

abbrev pub heartbeat_in : List Argument → Option ℕ
heartbeat_in arguments = heartbeat_of (value_of (codes "heartbeat_milliseconds") arguments)

-- ---- refusals and typed arguments

abbrev pub function_refusal : Option ℕ → Option ReadRefusal
function_refusal None = Some UnknownFunction
function_refusal (Some place) = None

abbrev pub missing : List ℕ → Option ℕ → Option ReadRefusal
missing name None = Some (ArgumentMissing name)
missing name (Some value) = None

abbrev pub options_refusal : List Argument → Option ReadRefusal
options_refusal arguments = cond (is_null (value_of (codes "read_options") arguments)) None (Some ReadOptions)

-- what the arguments refuse by themselves: one that is wrong, then one that is missing, then options
abbrev pub arguments_refusal : List Argument → Option ReadRefusal
arguments_refusal arguments =
    option_or (option_map ArgumentType (wrong_argument [] arguments))
    (option_or (missing (codes "start_timestamp") (start_in arguments))
    (option_or (missing (codes "heartbeat_milliseconds") (heartbeat_in arguments))
    (options_refusal arguments)))

-- why a query is refused whatever its times are, and the streams that are there
abbrev pub query_refusal : List Stream → ReadQuery → Option ReadRefusal
query_refusal streams query = option_or (function_refusal (stream_read query.function streams)) (arguments_refusal query.arguments)

-- the typed arguments of a READ of a stream
abbrev pub args_of : List ℕ → List Argument → ReadArgs
args_of stream arguments = record {
  stream = stream;
  start = unwrap_or (start_in arguments) 0;
  end = end_in arguments;
  token = token_in arguments;
  heartbeat_ms = unwrap_or (heartbeat_in arguments) 0;
}

-- a fault tells the refusal; want of memory may come before any
abbrev pub Tells : Option ReadRefusal → ReadFault → Type 0
Tells refusal (ReadFault.Refused e) = refusal ≡ Some e
Tells refusal ReadFault.Memory = ⊤
