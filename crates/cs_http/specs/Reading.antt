-- What bytes ask: the head of a request of HTTP/1.0 or 1.1 (RFC 9112, sections 2 to 6, with lines that may end in LF alone), its body, and why it is refused. The one route, the limit and the order of refusals are this project's own.
use Rattle.std.specs.Prelude.{◌≡◌, ◌⊎◌, ℕ, ◌+◌, List, length, map, take, nat_lt, if◌then◌else◌, Option, Some, None, Result, Ok, Err, codes, ⊤}
use Rattle.std.specs.Option.{unwrap_or}
use Rattle.std.specs.Str.{is_utf8, bytes_eq}
use Rattle.httparse.specs.Grammar.{RequestHead, print_request, ReadsRequest, HasNoRequest, NeverHasRequest, MayBecomeRequest, EndsInTarget}
use Rattle.httparse.specs.Spans.{name_and_value}
use Rattle.cs_http.specs.declared.fault.WireFault.{WireFault}
use Rattle.cs_http.specs.Fields.{content_length, is_coded}

-- the most bytes that a request may have
abbrev pub request_limit : ℕ
request_limit = 65536

-- the names and the values of the fields of a head
abbrev pub fields_of : RequestHead → List (List ℕ × List ℕ)
fields_of h = map name_and_value h.fields

-- how many bytes of a body belong to a request: none where no length is said
abbrev pub body_length : List (List ℕ × List ℕ) → ℕ
body_length fields = unwrap_or (content_length fields) 0

-- the text of a body
abbrev pub text_reading : List ℕ → Result (List ℕ) WireFault
text_reading body = if is_utf8 body then Ok body else Err WireFault.BadText

-- the body of so many bytes
abbrev pub body_reading : List (List ℕ × List ℕ) → Option ℕ → List ℕ → Result (List ℕ) WireFault
body_reading fields None rest = Err WireFault.Length
body_reading fields (Some size) rest = if is_coded fields then Err WireFault.Coding else text_reading (take size rest)

-- what is asked of the one route, by the one method
abbrev pub route_reading : List ℕ → List ℕ → List (List ℕ × List ℕ) → List ℕ → Result (List ℕ) WireFault
route_reading method target fields rest =
    if bytes_eq (codes "/v1/read") target
    then (if bytes_eq method (codes "POST") then body_reading fields (content_length fields) rest else Err WireFault.Method)
    else Err WireFault.NotFound

-- a request that does not end within so many bytes wants more, or is too long
abbrev pub unfinished : ℕ → WireFault
unfinished size = if nat_lt size request_limit then WireFault.Partial else WireFault.TooLong

-- what a head of `head` bytes and the bytes behind it ask
abbrev pub head_reading : List ℕ → List ℕ → List (List ℕ × List ℕ) → ℕ → List ℕ → Result (List ℕ) WireFault
head_reading method target fields head rest =
    if nat_lt (length rest) (body_length fields) then Err (unfinished (head + length rest))
    else (if nat_lt request_limit (head + body_length fields) then Err WireFault.TooLong else route_reading method target fields rest)

-- what a request asks
unfoldable pub request_reading : RequestHead → List ℕ → Result (List ℕ) WireFault
request_reading h rest = head_reading h.method h.target (fields_of h) (length (print_request h)) rest

-- a head stands at the front, and the request is read so
pub record IsHeadReading (bytes : List ℕ) (r : Result (List ℕ) WireFault) : Type 0 where
  pub head : RequestHead
  pub rest : List ℕ
  pub reads : ReadsRequest bytes head rest
  pub is : r ≡ request_reading head rest

-- no head stands at the front, and one may yet: more bytes can make it one, or the target is still being read
pub record IsUnfinished (bytes : List ℕ) (r : Result (List ℕ) WireFault) : Type 0 where
  pub none : HasNoRequest bytes
  pub may : MayBecomeRequest bytes
  pub is : r ≡ Err (unfinished (length bytes))

-- whatever follows, no head stands at the front, and the bytes do not end inside of the target
pub record IsNoHead (bytes : List ℕ) (r : Result (List ℕ) WireFault) : Type 0 where
  pub never : NeverHasRequest bytes
  pub outside : ¬ (EndsInTarget bytes)
  pub is : r ≡ Err WireFault.Head

-- what bytes ask, or why they are refused
abbrev pub IsReading : List ℕ → Result (List ℕ) WireFault → Type 0
IsReading bytes r = IsHeadReading bytes r ⊎ (IsUnfinished bytes r ⊎ IsNoHead bytes r)

-- what is read of a request that is there to its end, other than that it is too long
abbrev pub IsWhole : Result (List ℕ) WireFault → Type 0
IsWhole (Ok body) = ⊤
IsWhole (Err WireFault.Head) = ⊥
IsWhole (Err WireFault.Partial) = ⊥
IsWhole (Err WireFault.Method) = ⊤
IsWhole (Err WireFault.NotFound) = ⊤
IsWhole (Err WireFault.Length) = ⊤
IsWhole (Err WireFault.Coding) = ⊤
IsWhole (Err WireFault.TooLong) = ⊥
IsWhole (Err WireFault.BadText) = ⊤
IsWhole (Err WireFault.Memory) = ⊥
