-- What the fields of a head are, by the places that `httparse` gives for them.
use Rattle.std.specs.Prelude.{◌≡◌, ◌≢◌, ◌≤◌, ◌<◌, ◌+◌, All, ℕ, List, [], ◌∷◌, ◌++◌, length, map, take, drop, Result}
use Rattle.httparse.specs.declared.spans.HeaderSpan.{HeaderSpan}
use Rattle.httparse.specs.declared.spans.RequestSpans.{RequestSpans}
use Rattle.httparse.specs.Spans.{span_bytes, header_bytes, IsWithin}
use Rattle.httparse.specs.Grammar.{IsToken, AllPass, is_uri_byte}
use Rattle.cs_http.specs.declared.fault.WireFault.{WireFault}
use Rattle.cs_http.specs.declared.fields.Found.{Found}
use Rattle.cs_http.specs.Reading.{head_reading}

-- how many values of a name were found, and where the one is
abbrev pub IsFound : List ℕ → List (List ℕ) → Found → Type 0
IsFound bytes vs Found.Nothing = vs ≡ []
IsFound bytes vs (Found.One span) = (vs ≡ span_bytes bytes span ∷ []) × IsWithin (length bytes) span
IsFound bytes vs Found.More = 2 ≤ length vs

-- what is asked by a head whose parts stand at these places
abbrev pub spans_reading : List ℕ → List HeaderSpan → RequestSpans → Result (List ℕ) WireFault
spans_reading bytes headers r =
    head_reading (span_bytes bytes r.method) (span_bytes bytes r.path) (map (header_bytes bytes) (take r.headers headers)) r.len (drop r.len bytes)

-- no byte is a space
abbrev pub HasNoSpace : List ℕ → Type 0
HasNoSpace bytes = All (λ b. b ≢ 32) bytes

-- the first space stands at this place
pub record IsFirstSpace (bytes : List ℕ) (n : ℕ) : Type 0 where
  pub there : n < length bytes
  pub first : HasNoSpace (take n bytes)
  pub parts : bytes ≡ take n bytes ++ 32 ∷ drop (n + 1) bytes

-- bytes are a method, a space and bytes of a target
abbrev pub IsOpenTarget : List ℕ → Type 0
IsOpenTarget bytes = (method : List ℕ) × (target : List ℕ) × IsToken method × AllPass is_uri_byte target × (bytes ≡ method ++ 32 ∷ target)
