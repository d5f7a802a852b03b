-- The bodies of refused READs: one JSON object each (this project's own).
use Rattle.std.specs.Prelude.{ℕ, ◌^◌, ◌<◌, List, ◌++◌, Option, Some, None, nat_lt, ◌&&◌, if◌then◌else◌, codes, decimal, ⊤, IsUtf8, ◌+◌, length}
use Rattle.std.specs.Option.{option_map}
use Rattle.std.specs.Str.{bytes_eq, is_utf8}
use Rattle.std.specs.Str.Parse.{digits_value}
use Rattle.cs_types.specs.Digits.{is_digits}
use Rattle.cs_types.specs.Stamp.{IsStamp, stamp_text, stamp_reading}
use Rattle.cs_types.specs.Texts.{HasNoEnd}
use Rattle.cs_link.specs.declared.refusal.ReadRefusal.{ReadRefusal}
use Rattle.cs_http.specs.Line.{and_then, text_between}

-- ---- what is written

-- the body of a refusal, without its end; one that tells nothing but a status has none
abbrev pub body_text : ReadRefusal → Option (List ℕ)
body_text ReadRefusal.UnknownFunction = Some (codes "{\"refusal\":\"UnknownFunction\"}")
body_text (ReadRefusal.ArgumentType name) = Some (codes "{\"name\":\"" ++ name ++ codes "\",\"refusal\":\"ArgumentType\"}")
body_text (ReadRefusal.ArgumentMissing name) = Some (codes "{\"name\":\"" ++ name ++ codes "\",\"refusal\":\"ArgumentMissing\"}")
body_text ReadRefusal.ReadOptions = Some (codes "{\"refusal\":\"ReadOptions\"}")
body_text ReadRefusal.Heartbeat = Some (codes "{\"refusal\":\"Heartbeat\"}")
body_text ReadRefusal.EndBeforeStart = Some (codes "{\"refusal\":\"EndBeforeStart\"}")
body_text ReadRefusal.StartBeforeCreation = Some (codes "{\"refusal\":\"StartBeforeCreation\"}")
body_text (ReadRefusal.StartTooOld at) = Some (codes "{\"earliest\":\"" ++ stamp_text at ++ codes "\",\"refusal\":\"StartTooOld\"}")
body_text (ReadRefusal.StartInFuture at) = Some (codes "{\"moment\":\"" ++ stamp_text at ++ codes "\",\"refusal\":\"StartInFuture\"}")
body_text ReadRefusal.UnknownToken = Some (codes "{\"refusal\":\"UnknownToken\"}")
body_text (ReadRefusal.StartBeforePartition at) = Some (codes "{\"from\":\"" ++ stamp_text at ++ codes "\",\"refusal\":\"StartBeforePartition\"}")
body_text (ReadRefusal.StartPastPartition at) = Some (codes "{\"refusal\":\"StartPastPartition\",\"until\":\"" ++ stamp_text at ++ codes "\"}")
body_text (ReadRefusal.Syntax place) = Some (codes "{\"place\":" ++ decimal place ++ codes ",\"refusal\":\"Syntax\"}")
body_text (ReadRefusal.Wire status) = None

-- what is so of each refusal, by the types of its parts
abbrev pub IsKeptRefusal : ReadRefusal → Type 0
IsKeptRefusal ReadRefusal.UnknownFunction = ⊤
IsKeptRefusal (ReadRefusal.ArgumentType name) = IsUtf8 name
IsKeptRefusal (ReadRefusal.ArgumentMissing name) = IsUtf8 name
IsKeptRefusal ReadRefusal.ReadOptions = ⊤
IsKeptRefusal ReadRefusal.Heartbeat = ⊤
IsKeptRefusal ReadRefusal.EndBeforeStart = ⊤
IsKeptRefusal ReadRefusal.StartBeforeCreation = ⊤
IsKeptRefusal (ReadRefusal.StartTooOld at) = IsStamp at
IsKeptRefusal (ReadRefusal.StartInFuture at) = IsStamp at
IsKeptRefusal ReadRefusal.UnknownToken = ⊤
IsKeptRefusal (ReadRefusal.StartBeforePartition at) = IsStamp at
IsKeptRefusal (ReadRefusal.StartPastPartition at) = IsStamp at
IsKeptRefusal (ReadRefusal.Syntax place) = place < 2 ^ 64
IsKeptRefusal (ReadRefusal.Wire status) = ⊤

-- a name that a refusal tells has no line end in it
abbrev pub IsOneLine : ReadRefusal → Type 0
IsOneLine ReadRefusal.UnknownFunction = ⊤
IsOneLine (ReadRefusal.ArgumentType name) = HasNoEnd name
IsOneLine (ReadRefusal.ArgumentMissing name) = HasNoEnd name
IsOneLine ReadRefusal.ReadOptions = ⊤
IsOneLine ReadRefusal.Heartbeat = ⊤
IsOneLine ReadRefusal.EndBeforeStart = ⊤
IsOneLine ReadRefusal.StartBeforeCreation = ⊤
IsOneLine (ReadRefusal.StartTooOld at) = ⊤
IsOneLine (ReadRefusal.StartInFuture at) = ⊤
IsOneLine ReadRefusal.UnknownToken = ⊤
IsOneLine (ReadRefusal.StartBeforePartition at) = ⊤
IsOneLine (ReadRefusal.StartPastPartition at) = ⊤
IsOneLine (ReadRefusal.Syntax place) = ⊤
IsOneLine (ReadRefusal.Wire status) = ⊤

-- how many bytes the body of a refusal has at most
abbrev pub body_room : ReadRefusal → ℕ
body_room ReadRefusal.UnknownFunction = 128
body_room (ReadRefusal.ArgumentType name) = 128 + length name
body_room (ReadRefusal.ArgumentMissing name) = 128 + length name
body_room ReadRefusal.ReadOptions = 128
body_room ReadRefusal.Heartbeat = 128
body_room ReadRefusal.EndBeforeStart = 128
body_room ReadRefusal.StartBeforeCreation = 128
body_room (ReadRefusal.StartTooOld at) = 128
body_room (ReadRefusal.StartInFuture at) = 128
body_room ReadRefusal.UnknownToken = 128
body_room (ReadRefusal.StartBeforePartition at) = 128
body_room (ReadRefusal.StartPastPartition at) = 128
body_room (ReadRefusal.Syntax place) = 128
body_room (ReadRefusal.Wire status) = 128

-- ---- what is read

-- the moment that a line tells between these
abbrev pub moment_told : List ℕ → List ℕ → List ℕ → Option ℕ
moment_told front back line = and_then stamp_reading (text_between front back line)

-- the number of one digit or more, where it is one of 64 bits
unfoldable pub number_reading : List ℕ → Option ℕ
number_reading text = if is_digits text && nat_lt (digits_value 10 text) (2 ^ 64) then Some (digits_value 10 text) else None

-- the number that a line tells between these
abbrev pub place_told : List ℕ → List ℕ → List ℕ → Option ℕ
place_told front back line = and_then number_reading (text_between front back line)

-- a text, where the bytes are one
abbrev pub text_of : List ℕ → Option (List ℕ)
text_of bytes = if is_utf8 bytes then Some bytes else None

-- the name that a line tells before these
abbrev pub name_told : List ℕ → List ℕ → Option (List ℕ)
name_told back line = and_then text_of (text_between (codes "{\"name\":\"") back line)

-- the first of two that there is
abbrev pub first_of : Option ReadRefusal → Option ReadRefusal → Option ReadRefusal
first_of None other = other
first_of (Some refusal) other = Some refusal

-- the refusal of a body that tells nothing more
abbrev pub bare_refusal : List ℕ → Option ReadRefusal
bare_refusal line =
    if bytes_eq line (codes "{\"refusal\":\"UnknownFunction\"}") then Some ReadRefusal.UnknownFunction
    else (if bytes_eq line (codes "{\"refusal\":\"ReadOptions\"}") then Some ReadRefusal.ReadOptions
    else (if bytes_eq line (codes "{\"refusal\":\"Heartbeat\"}") then Some ReadRefusal.Heartbeat
    else (if bytes_eq line (codes "{\"refusal\":\"EndBeforeStart\"}") then Some ReadRefusal.EndBeforeStart
    else (if bytes_eq line (codes "{\"refusal\":\"StartBeforeCreation\"}") then Some ReadRefusal.StartBeforeCreation
    else (if bytes_eq line (codes "{\"refusal\":\"UnknownToken\"}") then Some ReadRefusal.UnknownToken else None)))))

-- the refusal of a body that tells a moment or a place
abbrev pub dated_refusal : List ℕ → Option ReadRefusal
dated_refusal line =
    first_of (option_map (λ at. ReadRefusal.StartTooOld at) (moment_told (codes "{\"earliest\":\"") (codes "\",\"refusal\":\"StartTooOld\"}") line))
    (first_of (option_map (λ at. ReadRefusal.StartInFuture at) (moment_told (codes "{\"moment\":\"") (codes "\",\"refusal\":\"StartInFuture\"}") line))
    (first_of (option_map (λ at. ReadRefusal.StartBeforePartition at) (moment_told (codes "{\"from\":\"") (codes "\",\"refusal\":\"StartBeforePartition\"}") line))
    (first_of (option_map (λ at. ReadRefusal.StartPastPartition at) (moment_told (codes "{\"refusal\":\"StartPastPartition\",\"until\":\"") (codes "\"}") line))
    (option_map (λ place. ReadRefusal.Syntax place) (place_told (codes "{\"place\":") (codes ",\"refusal\":\"Syntax\"}") line)))))

-- the refusal of a body that tells a name
abbrev pub named_refusal : List ℕ → Option ReadRefusal
named_refusal line =
    first_of (option_map (λ name. ReadRefusal.ArgumentType name) (name_told (codes "\",\"refusal\":\"ArgumentType\"}") line))
    (option_map (λ name. ReadRefusal.ArgumentMissing name) (name_told (codes "\",\"refusal\":\"ArgumentMissing\"}") line))

-- the refusal of which a line is the body; a moment may be any text of a stamp
unfoldable pub line_refusal : List ℕ → Option ReadRefusal
line_refusal line = first_of (bare_refusal line) (first_of (dated_refusal line) (named_refusal line))
