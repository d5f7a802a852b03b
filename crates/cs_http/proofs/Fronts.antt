-- How many fields a head can have.
use Rattle.std.proofs.Common.{◌≡◌, ap, inl, ℕ, ◌+◌, ◌≤◌, List, [], ◌∷◌, ◌++◌, length, arith}
use Rattle.std.specs.List.{flat_map}
use Rattle.std.proofs.lemmas.List.{length-append}
use Rattle.httparse.specs.Ascii.{colon, space}
use Rattle.httparse.specs.Grammar.{LineEnd, lf, Field, RequestHead, ResponseHead, print_field, print_end, print_section, print_blank, print_version, print_reason, print_request, print_response}
use Rattle.httparse.specs.Spans.{ResponseOverflows, RequestExceeds}
use Rattle.cs_http.specs.Front.{IsNone}

-- each field line has a byte
fields_fit : (fields : List Field) → length fields ≤ length (flat_map print_field fields)
fields_fit [] = omega arith
fields_fit (f ∷ fs) =
    omega (arith, fields_fit fs, length-append (print_field f) (flat_map print_field fs), length-append (f.name ++ colon ∷ f.raw) (print_end f.end), length-append f.name (colon ∷ f.raw))

-- a line end has one too
end_fits : (e : LineEnd) → 1 ≤ length (print_end e)
end_fits LineEnd.crlf = omega arith
end_fits LineEnd.lf = omega arith

response_fits : (h : ResponseHead) → length h.fields ≤ length (print_response h)
unfolding print_response
response_fits h =
    omega (arith, fields_fit h.fields, length-append (print_blank h.blank ++ print_version h.minor ++ space ∷ h.digits ++ print_reason h.reason ++ print_end h.line_end) (print_section h.fields h.last), length-append (flat_map print_field h.fields) (print_end h.last))

-- a head with so many fields is too long
pub none : (bytes : List ℕ) → ResponseOverflows 8192 bytes → IsNone bytes
none bytes over = λ more h rest reads. inl (omega (arith, over more h rest reads, response_fits h))

request_fits : (h : RequestHead) → length h.fields + 1 ≤ length (print_request h)
unfolding print_request
request_fits h =
    omega (arith, fields_fit h.fields, end_fits h.last, length-append (print_blank h.blank ++ h.method ++ space ∷ h.target ++ space ∷ print_version h.minor ++ print_end h.line_end) (print_section h.fields h.last), length-append (flat_map print_field h.fields) (print_end h.last))

-- a request has no more fields than bytes
pub never_exceeds : (bytes : List ℕ) → RequestExceeds (length bytes) bytes → ⊥
never_exceeds bytes e =
    let h = e.3 in
    let printed : length (e.0 ++ print_end lf) ≡ length (print_request h ++ []) = ap length e.4.1 in
    omega (arith, e.5, request_fits h, printed, length-append e.0 (print_end lf), length-append (print_request h) [], ap length e.2, length-append e.0 e.1)
