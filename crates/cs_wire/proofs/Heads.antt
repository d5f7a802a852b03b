-- The heads of answers: what stands at the front of a text is one head alone.
use Rattle.std.proofs.Common.{◌≡◌, ◌∙◌, sym, ap, refl, ℕ, List, [], ◌∷◌, ◌++◌, length, take, drop, Some, arith, true, codes, All, Bool, IsTrue, ◌<◌}
use Rattle.std.specs.Char.{is_ascii_digit}
use Rattle.std.proofs.lemmas.Bool.{and_parts}
use Rattle.std.proofs.Math.Logic.{∥∥₁_elim}
use Rattle.std.proofs.Math.Seq.{take-append_seam}
use Rattle.std.proofs.lemmas.List.{append-nil}
use Rattle.std.proofs.lemmas.List.Elements.{All-cons}
use Rattle.std.specs.Coded.{Coded-set, coded_ℕ, coded_list}
use Rattle.std.specs.List.{list_all}
use Rattle.httparse.specs.Grammar.{Field, IsField, ResponseHead, IsResponseHead, print_response, crlf, status_code, is_token_byte, is_value_byte, AllPass}
use Rattle.httparse.proofs.GrammarLemmas.{response_prefix_free}
use Rattle.std.specs.Prelude.{decimal}
use Rattle.std.proofs.lemmas.Fmt.{decimal_step, decimal_digit}
use Rattle.cs_http.specs.Front.{IsHead, IsHeadText}
use Rattle.cs_http.specs.Refusal.{reason_text, answer_head_text, refusal_head_text, refusal_text}

-- a head at the front is a text of a head
pub head_text : (bytes : List ℕ) (status len : ℕ) → IsHead bytes status len → IsHeadText (take len bytes) status
head_text bytes status len h =
    let size : length (print_response h.head) ≡ len = sym h.len_is in
    let front : take len bytes ≡ print_response h.head =
    ap (λ n. take n bytes) (sym size) ∙ ap (take (length (print_response h.head))) h.reads.1 ∙ take-append_seam (print_response h.head) (drop len bytes) in
    record {
      head = h.head;
      reads = (h.reads.0, front ∙ sym (append-nil (print_response h.head)));
      fits = omega (arith, ap length front, size, h.fits);
      plain = h.plain;
      status_is = h.status_is;
    }

abbrev lines_type : Field
lines_type = record { name = codes "content-type"; raw = codes " application/x-ndjson"; end = crlf }

abbrev json_type : Field
json_type = record { name = codes "content-type"; raw = codes " application/json"; end = crlf }

abbrev closes : Field
closes = record { name = codes "connection"; raw = codes " close"; end = crlf }

abbrev pub answer_head : ResponseHead
answer_head = record {
  blank = [];
  minor = 1;
  digits = codes "200";
  reason = Some (codes "OK");
  line_end = crlf;
  fields = lines_type ∷ closes ∷ [];
  last = crlf;
}

abbrev pub refusal_head : ResponseHead
refusal_head = record {
  blank = [];
  minor = 1;
  digits = codes "400";
  reason = Some (codes "Bad Request");
  line_end = crlf;
  fields = json_type ∷ closes ∷ [];
  last = crlf;
}

passes : (test : ℕ → Bool) (bytes : List ℕ) → list_all test bytes ≡ true → AllPass test bytes
passes test [] h = λ k d lt. absurd (omega (arith, lt))
passes test (b ∷ bytes) h = let x = and_parts (test b) (list_all test bytes) h in All-cons (λ c. IsTrue (test c)) b bytes x.0 (passes test bytes x.1)

a_field : (name raw : List ℕ) → 0 < length name → list_all is_token_byte name ≡ true → list_all is_value_byte raw ≡ true → IsField (record { name = name; raw = raw; end = crlf })
a_field name raw some n r = record { name = (some, passes is_token_byte name n); raw = passes is_value_byte raw r }

no_fields : All IsField []
no_fields = λ k d lt. absurd (omega (arith, lt))

two_fields : (a b : Field) → IsField a → IsField b → All IsField (a ∷ b ∷ [])
two_fields a b x y = All-cons IsField a (b ∷ []) x (All-cons IsField b [] y no_fields)

pub is_answer : IsResponseHead answer_head
unfolding is_token_byte
is_answer = record {
  minor = omega arith;
  digits = (refl, passes is_ascii_digit (codes "200") refl);
  reason = passes is_value_byte (codes "OK") refl;
  fields = two_fields lines_type closes (a_field (codes "content-type") (codes " application/x-ndjson") (omega arith) refl refl) (a_field (codes "connection") (codes " close") (omega arith) refl refl);
}

pub is_refusal : IsResponseHead refusal_head
unfolding is_token_byte
is_refusal = record {
  minor = omega arith;
  digits = (refl, passes is_ascii_digit (codes "400") refl);
  reason = passes is_value_byte (codes "Bad Request") refl;
  fields = two_fields json_type closes (a_field (codes "content-type") (codes " application/json") (omega arith) refl refl) (a_field (codes "connection") (codes " close") (omega arith) refl refl);
}

pub answer_printed : print_response answer_head ≡ answer_head_text
unfolding print_response
answer_printed = refl

pub refusal_printed : print_response refusal_head ≡ refusal_head_text
unfolding print_response
refusal_printed = refl

decimal_400 : decimal 400 ≡ codes "400"
decimal_400 = decimal_step 400 (omega arith) (omega arith) ∙ ap (λ ds. ds ++ 48 ∷ []) (decimal_step 40 (omega arith) (omega arith) ∙ ap (λ ds. ds ++ 48 ∷ []) (decimal_digit 4 (omega arith)))

pub refusal_is : (line : List ℕ) → refusal_text 400 line ≡ refusal_head_text ++ line ++ 10 ∷ []
unfolding refusal_text
refusal_is line =
    ap (λ ds. codes "HTTP/1.1 " ++ ds ++ codes " " ++ reason_text 400 ++ codes "\r\ncontent-type: application/json\r\nconnection: close\r\n\r\n" ++ line ++ codes "\n") decimal_400

-- the head at the front is the one that is known
one_head : (k : ResponseHead) (text : List ℕ) → IsResponseHead k → print_response k ≡ text → (front more lines : List ℕ) (status : ℕ) → IsHeadText front status → front ++ more ≡ text ++ lines → (status ≡ status_code k) × (front ≡ text)
one_head k text is printed front more lines status h e =
    let same = response_prefix_free front more h.head k [] lines h.reads (is, e ∙ ap (λ xs. xs ++ lines) (sym printed)) in
    (h.status_is ∙ ap status_code same.0, h.reads.1 ∙ append-nil (print_response h.head) ∙ ap print_response same.0 ∙ printed)

numbers_set : (xs ys : List ℕ) → IsProp (xs ≡ ys)
numbers_set xs ys = Coded-set (coded_list coded_ℕ) xs ys

number_set : (x y : ℕ) → IsProp (x ≡ y)
number_set x y = Coded-set coded_ℕ x y

pub answer_front : (front more lines : List ℕ) (status : ℕ) → ∥ IsHeadText front status ∥₁ → front ++ more ≡ answer_head_text ++ lines → (status ≡ 200) × (front ≡ answer_head_text)
answer_front front more lines status h e = (
  ∥∥₁_elim h (number_set _ _) (λ x. (one_head answer_head answer_head_text is_answer answer_printed front more lines status x e).0),
  ∥∥₁_elim h (numbers_set _ _) (λ x. (one_head answer_head answer_head_text is_answer answer_printed front more lines status x e).1),
)

pub refusal_front : (front more lines : List ℕ) (status : ℕ) → ∥ IsHeadText front status ∥₁ → front ++ more ≡ refusal_head_text ++ lines → (status ≡ 400) × (front ≡ refusal_head_text)
refusal_front front more lines status h e = (
  ∥∥₁_elim h (number_set _ _) (λ x. (one_head refusal_head refusal_head_text is_refusal refusal_printed front more lines status x e).0),
  ∥∥₁_elim h (numbers_set _ _) (λ x. (one_head refusal_head refusal_head_text is_refusal refusal_printed front more lines status x e).1),
)
