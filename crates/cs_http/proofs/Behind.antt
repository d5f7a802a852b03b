-- What stands behind a whole request makes no difference.
use Rattle.std.proofs.Common.{◌≡◌, ◌∙◌, sym, ap, subst, refl, inl, inr, ℕ, ◌+◌, ◌≤◌, List, ◌++◌, length, length-append, Bool, true, false, nat_lt, if◌then◌else◌, Option, Some, None, Result, Err, codes, arith}
use Rattle.std.specs.Option.{unwrap_or}
use Rattle.std.specs.Str.{bytes_eq}
use Rattle.std.proofs.lemmas.List.{take-append-le}
use Rattle.httparse.specs.Grammar.{RequestHead, print_request}
use Rattle.httparse.proofs.GrammarLemmas.{ReadsRequest-append}
use Rattle.cs_http.specs.declared.fault.WireFault.{WireFault}
use Rattle.cs_http.specs.Fields.{content_length, is_coded}
use Rattle.cs_http.specs.Reading.{fields_of, body_length, text_reading, body_reading, route_reading, unfinished, head_reading, request_reading, IsReading, IsWhole}

abbrev Fields : Type 0
Fields = List (List ℕ × List ℕ)

body_same : (fields : Fields) (size : Option ℕ) (rest more : List ℕ) → unwrap_or size 0 ≤ length rest → body_reading fields size (rest ++ more) ≡ body_reading fields size rest
body_same fields None rest more h = refl
body_same fields (Some n) rest more h = ap (λ body. if is_coded fields then Err WireFault.Coding else text_reading body) (take-append-le n rest more h)

route_same : (method target : List ℕ) (fields : Fields) (rest more : List ℕ) → body_length fields ≤ length rest → route_reading method target fields (rest ++ more) ≡ route_reading method target fields rest
route_same method target fields rest more h =
    ap (λ (r : Result (List ℕ) WireFault). if bytes_eq (codes "/v1/read") target then (if bytes_eq method (codes "POST") then r else Err WireFault.Method) else Err WireFault.NotFound)
    (body_same fields (content_length fields) rest more h)

unfinished_part : (n : ℕ) → IsWhole (Err (unfinished n)) → ⊥
unfinished_part n h = by (nat_lt n 65536) h
  where
    by : (b : Bool) → IsWhole (Err (if b then WireFault.Partial else WireFault.TooLong)) → ⊥
    by true h = h
    by false h = h

head_same : (method target : List ℕ) (fields : Fields) (head : ℕ) (rest more : List ℕ) → IsWhole (head_reading method target fields head rest) → head_reading method target fields head (rest ++ more) ≡ head_reading method target fields head rest
head_same method target fields head rest more whole = by (nat_lt (length rest) (body_length fields)) refl whole
  where
    by : (b : Bool) → nat_lt (length rest) (body_length fields) ≡ b → IsWhole (if b then Err (unfinished (head + length rest)) else (if nat_lt 65536 (head + body_length fields) then Err WireFault.TooLong else route_reading method target fields rest))
        → head_reading method target fields head (rest ++ more) ≡ head_reading method target fields head rest
    by true e w = absurd (unfinished_part (head + length rest) w)
    by false e w =
        let there : body_length fields ≤ length rest = grind (arith, e) in
        let longer : nat_lt (length (rest ++ more)) (body_length fields) ≡ false = grind (arith, there, length-append rest more) in
        ap (λ b. if b then Err (unfinished (head + length (rest ++ more))) else (if nat_lt 65536 (head + body_length fields) then Err WireFault.TooLong else route_reading method target fields (rest ++ more))) longer
        ∙ ap (λ (r : Result (List ℕ) WireFault). if nat_lt 65536 (head + body_length fields) then Err WireFault.TooLong else r) (route_same method target fields rest more there)
        ∙ sym (ap (λ b. if b then Err (unfinished (head + length rest)) else (if nat_lt 65536 (head + body_length fields) then Err WireFault.TooLong else route_reading method target fields rest)) e)

request_same : (h : RequestHead) (rest more : List ℕ) → IsWhole (request_reading h rest) → request_reading h (rest ++ more) ≡ request_reading h rest
unfolding request_reading
request_same h rest more whole = head_same h.method h.target (fields_of h) (length (print_request h)) rest more whole

pub stays_read : (bytes more : List ℕ) (r : Result (List ℕ) WireFault) → IsWhole r → IsReading bytes r → IsReading (bytes ++ more) r
stays_read bytes more r whole (inl x) =
    inl (record {
      head = x.head;
      rest = x.rest ++ more;
      reads = ReadsRequest-append bytes x.head x.rest more x.reads;
      is = x.is ∙ sym (request_same x.head x.rest more (subst IsWhole x.is whole));
    })
stays_read bytes more r whole (inr (inl x)) = absurd (unfinished_part (length bytes) (subst IsWhole x.is whole))
stays_read bytes more r whole (inr (inr x)) = absurd (subst IsWhole x.is whole)
