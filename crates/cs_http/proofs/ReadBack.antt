-- The request that is written for a READ is read as its query.
use Rattle.std.proofs.Common.{◌≡◌, ◌∙◌, sym, ap, subst, refl, inl, ℕ, zero, suc, ◌+◌, ◌<◌, ◌≤◌, ◌^◌, List, [], ◌∷◌, ◌++◌, length, take, get_or, Bool, true, false, not, nat_lt, nat_le, Some, Ok, All, IsUtf8, codes, decimal, reverse, append_assoc, append-nil, length-append, arith}
use Rattle.std.specs.List.{list_all}
use Rattle.std.specs.Str.{is_utf8}
use Rattle.std.specs.Str.Parse.{digits_value}
use Rattle.std.proofs.lemmas.Bool.{and_parts}
use Rattle.std.proofs.lemmas.Fmt.{digits_decimal, digits_value-decimal, decimal_nonempty, length-decimal-le}
use Rattle.std.proofs.lemmas.List.{reverse-append, reverse-reverse}
use Rattle.std.proofs.lemmas.List.Elements.{All-nil, All-cons, All-append, All-head, All-tail}
use Rattle.std.proofs.lemmas.Str.{IsUtf8-from_ascii, is_utf8-from_IsUtf8}
use Rattle.std.proofs.Math.Seq.{take-length}
use Rattle.httparse.specs.Grammar.{Field, IsField, crlf, RequestHead, IsRequestHead, print_request, is_token_byte, is_uri_byte, is_value_byte, is_ows, skip_ows, trim_ows, AllPass}
use Rattle.cs_types.specs.Digits.{all_digits}
use Rattle.cs_http.specs.Fields.{length_of, content_length}
use Rattle.cs_http.specs.Reading.{fields_of, request_reading, IsReading}
use Rattle.cs_http.specs.Request.{request_with}
use Rattle.cs_http.proofs.Bodies.{all_of}
use Rattle.cs_http.proofs.Heads.{passes, a_field, no_fields}
use Rattle.cs_http.proofs.Lengths.{own}

abbrev host : Field
host = record { name = codes "host"; raw = codes " spanstream"; end = crlf }

abbrev sql_type : Field
sql_type = record { name = codes "content-type"; raw = codes " application/sql"; end = crlf }

abbrev length_field : List ℕ → Field
length_field digits = record { name = codes "content-length"; raw = 32 ∷ digits; end = crlf }

abbrev read_head : List ℕ → RequestHead
read_head digits = record {
  blank = [];
  method = codes "POST";
  target = codes "/v1/read";
  minor = 1;
  line_end = crlf;
  fields = host ∷ sql_type ∷ length_field digits ∷ [];
  last = crlf;
}

-- ---- texts of ASCII

word_ascii : (xs : List ℕ) → list_all (λ b. nat_lt b 128) xs ≡ true → (k : ℕ) → get_or xs k 0 < 128
word_ascii [] h k = omega arith
word_ascii (x ∷ xs) h zero = let e = and_parts (nat_lt x 128) (list_all (λ b. nat_lt b 128) xs) h in first x e.0
  where
    first : (x : ℕ) → nat_lt x 128 ≡ true → x < 128
    first x e = grind (arith, e)
word_ascii (x ∷ xs) h (suc k) = word_ascii xs (and_parts (nat_lt x 128) (list_all (λ b. nat_lt b 128) xs) h).1 k

pub word : (xs : List ℕ) → list_all (λ b. nat_lt b 128) xs ≡ true → IsUtf8 xs
word xs h = IsUtf8-from_ascii xs (word_ascii xs h)

-- ---- the digits of a length

digits_all : (n : ℕ) → n < 2 ^ 64 → all_digits (decimal n) ≡ true
digits_all n fits = all_of (decimal n) (digits_decimal own n fits)

digit_passes : (ds : List ℕ) → all_digits ds ≡ true → AllPass is_value_byte ds
digit_passes [] h = All-nil (λ b. is_value_byte b ≡ true)
digit_passes (d ∷ ds) h =
    let first : is_value_byte d ≡ true = grind (arith, h) in
    let rest : all_digits ds ≡ true = grind (arith, h) in
    All-cons (λ b. is_value_byte b ≡ true) d ds first (digit_passes ds rest)

-- no digit is white space
abbrev is_other : ℕ → Bool
is_other b = not (is_ows b)

digits_other : (ds : List ℕ) → all_digits ds ≡ true → AllPass is_other ds
digits_other [] h = All-nil (λ b. is_other b ≡ true)
digits_other (d ∷ ds) h =
    let first : is_other d ≡ true = grind (arith, h) in
    let rest : all_digits ds ≡ true = grind (arith, h) in
    All-cons (λ b. is_other b ≡ true) d ds first (digits_other ds rest)

other_byte : (b : Bool) → not b ≡ true → b ≡ false
other_byte true h = sym h
other_byte false h = refl

skip_none : (xs : List ℕ) → AllPass is_other xs → skip_ows xs ≡ xs
skip_none [] h = refl
skip_none (x ∷ xs) h = let e = other_byte (is_ows x) (All-head (λ b. is_other b ≡ true) x xs h) in rw e refl

pub trimmed : (ds : List ℕ) → AllPass is_other ds → AllPass is_other (reverse ds) → reverse (reverse ds) ≡ ds → trim_ows (32 ∷ ds) ≡ ds
unfolding trim_ows
trimmed ds h r e = ap (λ xs. reverse (skip_ows (reverse xs))) (skip_none ds h) ∙ ap reverse (skip_none (reverse ds) r) ∙ e

length_read : (n : ℕ) → n < 10 ^ 10 → length_of (decimal n) ≡ Some n
unfolding length_of
length_read n small =
    let fits : n < 2 ^ 64 = omega (arith, small) in
    let some : nat_lt 0 (length (decimal n)) ≡ true = (let h = decimal_nonempty n fits in grind (arith, h)) in
    let few : nat_le (length (decimal n)) 10 ≡ true = (let h = length-decimal-le 10 n (omega arith) small fits in grind (arith, h)) in
    let digits : all_digits (decimal n) ≡ true = digits_all n fits in
    let value : digits_value 10 (decimal n) ≡ n = digits_value-decimal own n fits in
    rw (some, digits, few, value) refl

other_reversed : (xs : List ℕ) → AllPass is_other xs → AllPass is_other (reverse xs)
other_reversed [] h = h
other_reversed (x ∷ xs) h =
    subst (AllPass is_other) (sym (reverse-append (x ∷ []) xs))
    (All-append (λ b. is_other b ≡ true) (reverse xs) (x ∷ []) (other_reversed xs (All-tail (λ b. is_other b ≡ true) x xs h)) (All-cons (λ b. is_other b ≡ true) x [] (All-head (λ b. is_other b ≡ true) x xs h) (All-nil (λ b. is_other b ≡ true))))

digits_trimmed : (n : ℕ) → n < 2 ^ 64 → trim_ows (32 ∷ decimal n) ≡ decimal n
digits_trimmed n fits =
    let other = digits_other (decimal n) (digits_all n fits) in
    trimmed (decimal n) other (other_reversed (decimal n) other) (reverse-reverse (decimal n))

-- ---- the head

two_more : (a b c : Field) → IsField a → IsField b → IsField c → All IsField (a ∷ b ∷ c ∷ [])
two_more a b c x y z = All-cons IsField a (b ∷ c ∷ []) x (All-cons IsField b (c ∷ []) y (All-cons IsField c [] z no_fields))

is_read_head : (n : ℕ) → n < 2 ^ 64 → IsRequestHead (read_head (decimal n))
unfolding is_token_byte
is_read_head n fits = record {
  method = (omega arith, passes is_token_byte (codes "POST") refl);
  target = (omega arith, passes is_uri_byte (codes "/v1/read") refl);
  target_text = word (codes "/v1/read") refl;
  minor = omega arith;
  fields = two_more host sql_type (length_field (decimal n)) (a_field (codes "host") (codes " spanstream") (omega arith) refl refl) (a_field (codes "content-type") (codes " application/sql") (omega arith) refl refl)
      (record { name = (omega arith, passes is_token_byte (codes "content-length") refl); raw = All-cons (λ b. is_value_byte b ≡ true) 32 (decimal n) refl (digit_passes (decimal n) (digits_all n fits)) });
}

tails : (digits body : List ℕ) → (digits ++ 13 ∷ 10 ∷ 13 ∷ 10 ∷ []) ++ body ≡ (((digits ++ 13 ∷ 10 ∷ []) ++ []) ++ 13 ∷ 10 ∷ []) ++ body
tails digits body = ap (λ xs. xs ++ body) (sym (ap (λ xs. xs ++ 13 ∷ 10 ∷ []) (append-nil (digits ++ 13 ∷ 10 ∷ [])) ∙ append_assoc digits (13 ∷ 10 ∷ []) (13 ∷ 10 ∷ [])))

request_printed : (body : List ℕ) → request_with body ≡ print_request (read_head (decimal (length body))) ++ body
unfolding request_with print_request
request_printed body =
    ap (λ xs. codes "POST /v1/read HTTP/1.1\r\nhost: spanstream\r\ncontent-type: application/sql\r\ncontent-length: " ++ xs) (tails (decimal (length body)) body)

-- ---- what it asks

says_length : (n : ℕ) → n < 10 ^ 10 → content_length (fields_of (read_head (decimal n))) ≡ Some n
says_length n small = let fits : n < 2 ^ 64 = omega (arith, small) in ap length_of (digits_trimmed n fits) ∙ length_read n small

asks : (n : ℕ) (body : List ℕ) → n ≡ length body → length (print_request (read_head (decimal n))) + n ≤ 65536 → n < 10 ^ 10 → IsUtf8 body → request_reading (read_head (decimal n)) body ≡ Ok body
unfolding request_reading
asks n body size fits small is =
    let says = says_length n small in
    let there : nat_lt (length body) n ≡ false = grind (arith, size) in
    let within : nat_lt 65536 (length (print_request (read_head (decimal n))) + n) ≡ false = grind (arith, fits) in
    let text : is_utf8 body ≡ true = is_utf8-from_IsUtf8 body is in
    let all : take n body ≡ body = ap (λ k. take k body) size ∙ take-length body in
    rw (says, there, within, all, text) refl

-- a request is read as its body
pub request_reads : (body : List ℕ) → IsUtf8 body → length (request_with body) ≤ 65536 → IsReading (request_with body) (Ok body)
request_reads body is fits =
    let printed = request_printed body in
    let size : length (request_with body) ≡ length (print_request (read_head (decimal (length body)))) + length body = ap length printed ∙ length-append (print_request (read_head (decimal (length body)))) body in
    let small : length body < 10 ^ 10 = omega (arith, size, fits) in
    inl (record {
      head = read_head (decimal (length body));
      rest = body;
      reads = (is_read_head (length body) (omega (arith, small)), printed);
      is = sym (asks (length body) body refl (omega (arith, size, fits)) small is);
    })
