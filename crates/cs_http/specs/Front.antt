-- What stands at the front of an answer: a head of HTTP/1.0 or 1.1 (RFC 9112, section 4) that is taken, or another. The limit and the refusal of coded bodies are this project's own.
use Rattle.std.specs.Prelude.{◌≡◌, ◌<◌, ◌≤◌, ◌⊎◌, ℕ, List, [], ◌++◌, length, map, drop, true, false}
use Rattle.httparse.specs.Grammar.{ResponseHead, print_response, status_code, ReadsResponse, HasNoResponse, MayBecomeResponse}
use Rattle.httparse.specs.Spans.{name_and_value}
use Rattle.cs_http.specs.declared.head.Front.{Front}
use Rattle.cs_http.specs.Fields.{is_coded}

-- the most bytes that the head of an answer may have
abbrev pub head_limit : ℕ
head_limit = 8192

-- a head that is too long, or whose body is coded
abbrev pub IsNotTaken : ResponseHead → Type 0
IsNotTaken h = (head_limit < length (print_response h)) ⊎ (is_coded (map name_and_value h.fields) ≡ true)

-- the head at the front is taken, has this status, and ends at this place
pub record IsHead (bytes : List ℕ) (status len : ℕ) : Type 0 where
  pub head : ResponseHead
  pub reads : ReadsResponse bytes head (drop len bytes)
  pub len_is : len ≡ length (print_response head)
  pub within : len ≤ length bytes
  pub fits : len ≤ head_limit
  pub plain : is_coded (map name_and_value head.fields) ≡ false
  pub status_is : status ≡ status_code head

-- the text of a head that is taken, with this status
pub record IsHeadText (front : List ℕ) (status : ℕ) : Type 0 where
  pub head : ResponseHead
  pub reads : ReadsResponse front head []
  pub fits : length front ≤ head_limit
  pub plain : is_coded (map name_and_value head.fields) ≡ false
  pub status_is : status ≡ status_code head

-- the head at the front is not taken
pub record IsOther (bytes : List ℕ) : Type 0 where
  pub head : ResponseHead
  pub rest : List ℕ
  pub reads : ReadsResponse bytes head rest
  pub other : IsNotTaken head

-- whatever follows, a head at the front is not taken
abbrev pub IsNone : List ℕ → Type 0
IsNone bytes = (more : List ℕ) (h : ResponseHead) (rest : List ℕ) → ReadsResponse (bytes ++ more) h rest → IsNotTaken h

-- what stands at the front
abbrev pub IsFront : List ℕ → Front → Type 0
IsFront bytes (Front.Head status len) = IsHead bytes status len
IsFront bytes Front.Outside = IsOther bytes ⊎ IsNone bytes
IsFront bytes Front.More = HasNoResponse bytes × MayBecomeResponse bytes
