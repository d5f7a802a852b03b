-- The text of a READ as a request of HTTP/1.1 (RFC 9112; the target, the fields and the body are this project's own).
use Rattle.std.specs.Prelude.{ℕ, List, ◌++◌, length, Option, Some, None, codes, decimal, ◌≡◌, ◌<◌, ◌^◌, true, IsUtf8, ⊤}
use Rattle.cs_types.specs.Stamp.{IsStamp, stamp_text}
use Rattle.cs_types.specs.Token.{is_token}
use Rattle.cs_link.specs.declared.reading.ReadArgs.{ReadArgs}

-- a text between quotes
abbrev pub quoted : List ℕ → List ℕ
quoted text = codes "'" ++ text ++ codes "'"

-- the last moment, or none
abbrev pub end_text : Option ℕ → List ℕ
end_text None = codes "NULL"
end_text (Some at) = quoted (stamp_text at)

-- the part's token, or none
abbrev pub token_text : Option (List ℕ) → List ℕ
token_text None = codes "NULL"
token_text (Some token) = quoted token

-- the query of a READ, as Spanner's change streams are read
unfoldable pub query_text : ReadArgs → List ℕ
query_text args =
    codes "SELECT ChangeRecord FROM READ_" ++ args.stream
    ++ codes "(start_timestamp => " ++ quoted (stamp_text args.start)
    ++ codes ", end_timestamp => " ++ end_text args.end
    ++ codes ", partition_token => " ++ token_text args.token
    ++ codes ", heartbeat_milliseconds => " ++ decimal args.heartbeat_ms ++ codes ")"

-- a request with this body
unfoldable pub request_with : List ℕ → List ℕ
request_with body =
    codes "POST /v1/read HTTP/1.1\r\nhost: spanstream\r\ncontent-type: application/sql\r\ncontent-length: "
    ++ decimal (length body) ++ codes "\r\n\r\n" ++ body

-- the request of a READ
abbrev pub request_text : ReadArgs → List ℕ
request_text args = request_with (query_text args)

-- what is so of the end and of the token of each READ, by their types
abbrev pub IsKeptEnd : Option ℕ → Type 0
IsKeptEnd None = ⊤
IsKeptEnd (Some at) = IsStamp at

abbrev pub IsKeptToken : Option (List ℕ) → Type 0
IsKeptToken None = ⊤
IsKeptToken (Some token) = is_token token ≡ true

-- and of a READ
pub record IsKeptArgs (args : ReadArgs) : Type 0 where
  pub stream : IsUtf8 args.stream
  pub start : IsStamp args.start
  pub end : IsKeptEnd args.end
  pub token : IsKeptToken args.token
  pub heartbeat : args.heartbeat_ms < 2 ^ 32
