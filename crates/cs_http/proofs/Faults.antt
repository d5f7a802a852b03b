-- The bytes of a refusal of each status.
use Rattle.std.proofs.Common.{◌≡◌, ◌∙◌, ap, ℕ, ◌+◌, ◌/◌, ◌%◌, ◌<◌, ◌≤◌, List, [], ◌∷◌, ◌++◌, codes, decimal, arith}
use Rattle.std.proofs.lemmas.Fmt.{decimal_step, decimal_digit}
use Rattle.cs_http.specs.Refusal.{refusal_head_text, reason_text, refusal_text}

-- a number of three digits
three_digits : (n : ℕ) → 100 ≤ n → n < 1000 → decimal n ≡ (48 + n / 10 / 10) ∷ (48 + n / 10 % 10) ∷ (48 + n % 10) ∷ []
three_digits n low high =
    decimal_step n (omega (arith, low)) (omega (arith, high))
    ∙ ap (λ ds. ds ++ (48 + n % 10) ∷ []) (decimal_step (n / 10) (omega (arith, low)) (omega (arith, high))
    ∙ ap (λ ds. ds ++ (48 + n / 10 % 10) ∷ []) (decimal_digit (n / 10 / 10) (omega (arith, high))))

by_status : (status : ℕ) (line : List ℕ) → 100 ≤ status → status < 1000
    → refusal_text status line ≡ codes "HTTP/1.1 " ++ ((48 + status / 10 / 10) ∷ (48 + status / 10 % 10) ∷ (48 + status % 10) ∷ []) ++ codes " " ++ reason_text status ++ codes "\r\ncontent-type: application/json\r\nconnection: close\r\n\r\n" ++ line ++ codes "\n"
unfolding refusal_text
by_status status line low high =
    ap (λ ds. codes "HTTP/1.1 " ++ ds ++ codes " " ++ reason_text status ++ codes "\r\ncontent-type: application/json\r\nconnection: close\r\n\r\n" ++ line ++ codes "\n") (three_digits status low high)

pub text_400 : (line : List ℕ) → refusal_text 400 line ≡ refusal_head_text ++ line ++ 10 ∷ []
text_400 line = by_status 400 line (omega arith) (omega arith)

pub text_404 : (line : List ℕ) → refusal_text 404 line ≡ codes "HTTP/1.1 404 Not Found\r\ncontent-type: application/json\r\nconnection: close\r\n\r\n" ++ line ++ 10 ∷ []
text_404 line = by_status 404 line (omega arith) (omega arith)

pub text_405 : (line : List ℕ) → refusal_text 405 line ≡ codes "HTTP/1.1 405 Method Not Allowed\r\ncontent-type: application/json\r\nconnection: close\r\n\r\n" ++ line ++ 10 ∷ []
text_405 line = by_status 405 line (omega arith) (omega arith)

pub text_413 : (line : List ℕ) → refusal_text 413 line ≡ codes "HTTP/1.1 413 Payload Too Large\r\ncontent-type: application/json\r\nconnection: close\r\n\r\n" ++ line ++ 10 ∷ []
text_413 line = by_status 413 line (omega arith) (omega arith)

pub text_503 : (line : List ℕ) → refusal_text 503 line ≡ codes "HTTP/1.1 503 Service Unavailable\r\ncontent-type: application/json\r\nconnection: close\r\n\r\n" ++ line ++ 10 ∷ []
text_503 line = by_status 503 line (omega arith) (omega arith)
