-- How long bytes are that end before their request does.
use Rattle.std.proofs.Common.{◌≡◌, ◌≤◌, ◌<◌, ◌+◌, ℕ, List, ◌++◌, length, Bool, true, false, nat_lt, if◌then◌else◌, Option, None, Some, Result, Ok, Err, refl, sym, ap, subst, ◌∙◌, arith, length-append, codes}
use Rattle.std.proofs.Common.{inl, inr}
use Rattle.std.specs.Str.{is_utf8, bytes_eq}
use Rattle.std.proofs.lemmas.Bool.{ltb-false, ltb-true}
use Rattle.httparse.specs.Grammar.{RequestHead, print_request}
use Rattle.cs_http.specs.declared.fault.WireFault.{WireFault}
use Rattle.cs_http.specs.Fields.{content_length, is_coded}
use Rattle.cs_http.specs.Reading.{fields_of, body_length, body_reading, route_reading, unfinished, head_reading, request_reading, IsReading}

-- a request ends within the bytes: neither more of them are needed nor is it too long
abbrev IsEnded : Result (List ℕ) WireFault → Type 0
IsEnded r = (r ≡ Err WireFault.Partial → ⊥) × (r ≡ Err WireFault.TooLong → ⊥)

text_ended : (body : List ℕ) (b : Bool) → IsEnded (if b then Ok body else Err WireFault.BadText)
text_ended body true = ((λ e. cc), (λ e. cc))
text_ended body false = ((λ e. cc), (λ e. cc))

coded_ended : (b : Bool) (r : Result (List ℕ) WireFault) → IsEnded r → IsEnded (if b then Err WireFault.Coding else r)
coded_ended true r is = ((λ e. cc), (λ e. cc))
coded_ended false r is = is

body_ended : (fields : List (List ℕ × List ℕ)) (size : Option ℕ) (rest : List ℕ) → IsEnded (body_reading fields size rest)
body_ended fields None rest = ((λ e. cc), (λ e. cc))
body_ended fields (Some size) rest = coded_ended (is_coded fields) _ (text_ended _ (is_utf8 _))

either_ended : (b : Bool) (r s : Result (List ℕ) WireFault) → IsEnded r → IsEnded s → IsEnded (if b then r else s)
either_ended true r s p q = p
either_ended false r s p q = q

route_ended : (method target : List ℕ) (fields : List (List ℕ × List ℕ)) (rest : List ℕ) → IsEnded (route_reading method target fields rest)
route_ended method target fields rest =
    either_ended (bytes_eq (codes "/v1/read") target) _ (Err WireFault.NotFound)
    (either_ended (bytes_eq method (codes "POST")) _ (Err WireFault.Method) (body_ended fields (content_length fields) rest) ((λ e. cc), (λ e. cc)))
    ((λ e. cc), (λ e. cc))

-- what the length says of an unfinished request
abbrev FitsLength : ℕ → Result (List ℕ) WireFault → Type 0
FitsLength size r = (r ≡ Err WireFault.Partial → size < 65536) × (r ≡ Err WireFault.TooLong → 65536 ≤ size)

unfinished_fits : (size : ℕ) (b : Bool) → nat_lt size 65536 ≡ b → FitsLength size (Err (if b then WireFault.Partial else WireFault.TooLong))
unfinished_fits size true e = ((λ _. ltb-true size 65536 e), (λ x. cc))
unfinished_fits size false e = ((λ x. cc), (λ _. ltb-false size 65536 e))

ended_fits : (size : ℕ) (r : Result (List ℕ) WireFault) → IsEnded r → FitsLength size r
ended_fits size r is = ((λ e. absurd (is.0 e)), (λ e. absurd (is.1 e)))

limit_fits : (head size body : ℕ) (b : Bool) (r : Result (List ℕ) WireFault) → nat_lt 65536 (head + body) ≡ b → body ≤ size → IsEnded r
    → FitsLength (head + size) (if b then Err WireFault.TooLong else r)
limit_fits head size body true r e le is = ((λ x. cc), (λ _. let lt = ltb-true 65536 (head + body) e in omega arith))
limit_fits head size body false r e le is = ended_fits (head + size) r is

head_fits : (method target : List ℕ) (fields : List (List ℕ × List ℕ)) (head : ℕ) (rest : List ℕ) → FitsLength (head + length rest) (head_reading method target fields head rest)
head_fits method target fields head rest = by (nat_lt (length rest) (body_length fields)) refl
  where
    by : (b : Bool) → nat_lt (length rest) (body_length fields) ≡ b
        → FitsLength (head + length rest) (if b then Err (unfinished (head + length rest)) else (if nat_lt 65536 (head + body_length fields) then Err WireFault.TooLong else route_reading method target fields rest))
    by true e = unfinished_fits (head + length rest) (nat_lt (head + length rest) 65536) refl
    by false e = limit_fits head (length rest) (body_length fields) (nat_lt 65536 (head + body_length fields)) (route_reading method target fields rest) refl (ltb-false (length rest) (body_length fields) e) (route_ended method target fields rest)

reading_fits : (h : RequestHead) (rest : List ℕ) → FitsLength (length (print_request h) + length rest) (request_reading h rest)
unfolding request_reading
reading_fits h rest = head_fits h.method h.target (fields_of h) (length (print_request h)) rest

length_is : (bytes : List ℕ) (h : RequestHead) (rest : List ℕ) → bytes ≡ print_request h ++ rest → length bytes ≡ length (print_request h) + length rest
length_is bytes h rest e = ap length e ∙ length-append (print_request h) rest

-- so says the length of the bytes
fits : (bytes : List ℕ) (r : Result (List ℕ) WireFault) → IsReading bytes r → FitsLength (length bytes) r
fits bytes r (inl is) =
    subst (FitsLength (length bytes)) (sym is.is) (subst (λ n. FitsLength n (request_reading is.head is.rest)) (sym (length_is bytes is.head is.rest is.reads.1)) (reading_fits is.head is.rest))
fits bytes r (inr (inl is)) = subst (FitsLength (length bytes)) (sym is.is) (unfinished_fits (length bytes) (nat_lt (length bytes) 65536) refl)
fits bytes r (inr (inr is)) = subst (FitsLength (length bytes)) (sym is.is) ((λ x. cc), (λ x. cc))

pub partial_is_short : (bytes : List ℕ) → IsReading bytes (Err WireFault.Partial) → length bytes < 65536
partial_is_short bytes is = (fits bytes (Err WireFault.Partial) is).0 refl

pub too_long_is_long : (bytes : List ℕ) → IsReading bytes (Err WireFault.TooLong) → 65536 ≤ length bytes
too_long_is_long bytes is = (fits bytes (Err WireFault.TooLong) is).1 refl
