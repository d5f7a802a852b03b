-- Bytes that end inside of a request's target.
use Rattle.std.proofs.Common.{◌≡◌, ◌≢◌, ◌↔◌, ◌∙◌, ◌⊎◌, inl, inr, sym, ap, subst, refl, ℕ, ◌+◌, ◌==◌, not, nat_lt, List, [], ◌∷◌, ◌++◌, length, take, drop, arith, Bool, true, true≢false, All}
use Rattle.std.specs.List.{list_all}
use Rattle.std.proofs.lemmas.Bool.{cases_eq, and_parts}
use Rattle.std.proofs.lemmas.List.Elements.{All-weaker}
use Rattle.std.proofs.lemmas.List.Sums.{AllPass-from_list_all, list_all-from_AllPass}
use Rattle.httparse.specs.Grammar.{LineEnd, crlf, lf, print_end, print_blank, AllPass, is_token_byte, is_token, is_uri_byte, EndsInTarget}
use Rattle.httparse.specs.Pieces.{Newline}
use Rattle.httparse.proofs.PieceLemmas.{print_end_unique, newline_not_stopped, Stops_token, space_ends_token}
use Rattle.httparse.proofs.RunLemmas.{run_unique, run_unstopped}
use Rattle.cs_http.specs.Span.{IsFirstSpace, IsOpenTarget}

put_end : (end : LineEnd) (bytes rest : List ℕ) → Newline end bytes rest → EndsInTarget rest → EndsInTarget bytes
put_end crlf bytes rest x t = (crlf ∷ t.0, t.1, t.2, t.3, t.4, x ∙ ap (λ (r : List ℕ). 13 ∷ 10 ∷ r) t.5)
put_end lf bytes rest x t = (lf ∷ t.0, t.1, t.2, t.3, t.4, x ∙ ap (λ (r : List ℕ). 10 ∷ r) t.5)

blank_parts : (end : LineEnd) (blank : List LineEnd) (method more : List ℕ) → (print_blank (end ∷ blank) ++ method) ++ more ≡ print_end end ++ ((print_blank blank ++ method) ++ more)
blank_parts crlf blank method more = refl
blank_parts lf blank method more = refl

take_end : (end : LineEnd) (bytes rest : List ℕ) → Newline end bytes rest → EndsInTarget bytes → EndsInTarget rest
take_end end bytes rest x t = by t.0 t.5
  where
    by : (blank : List LineEnd) → bytes ≡ (print_blank blank ++ t.1) ++ 32 ∷ t.2 → EndsInTarget rest
    by [] e = absurd (newline_not_stopped end rest (t.1 ++ 32 ∷ t.2) (sym x ∙ e) (Stops_token t.1 (32 ∷ t.2) t.3.0 t.3.1))
    by (y ∷ blank) e =
        let same = print_end_unique end y rest ((print_blank blank ++ t.1) ++ 32 ∷ t.2) (sym x ∙ e ∙ blank_parts y blank t.1 (32 ∷ t.2)) in
        (blank, t.1, t.2, t.3, t.4, same.1)

-- a line end at the front makes no difference
pub line_end_taken : (end : LineEnd) (bytes rest : List ℕ) → Newline end bytes rest → EndsInTarget rest ↔ EndsInTarget bytes
line_end_taken end bytes rest x = (put_end end bytes rest x, take_end end bytes rest x)

-- where there is none, a method stands at the front
pub no_line_end : (bytes : List ℕ) → ((end : LineEnd) (rest : List ℕ) → Newline end bytes rest → ⊥) → IsOpenTarget bytes ↔ EndsInTarget bytes
no_line_end bytes none = ((λ t. ([], t.0, t.1, t.2, t.3, t.4)), (λ t. by t t.0 t.5))
  where
    by : (t : EndsInTarget bytes) (blank : List LineEnd) → bytes ≡ (print_blank blank ++ t.1) ++ 32 ∷ t.2 → IsOpenTarget bytes
    by t [] e = (t.1, t.2, t.3, t.4, e)
    by t (y ∷ blank) e = absurd (none y ((print_blank blank ++ t.1) ++ 32 ∷ t.2) (e ∙ blank_parts y blank t.1 (32 ∷ t.2)))

-- whether a byte is no space
abbrev no_space : ℕ → Bool
no_space b = not (b == 32)

is_no_space : (b : ℕ) → b ≢ 32 → no_space b ≡ true
is_no_space b n = grind (arith, n)

apart : (word : List ℕ) → All (λ b. b ≢ 32) word → AllPass no_space word
apart word h = All-weaker (λ b. b ≢ 32) (λ b. no_space b ≡ true) is_no_space word h

token_apart : (word : List ℕ) → AllPass is_token_byte word → AllPass no_space word
token_apart word h = All-weaker (λ b. is_token_byte b ≡ true) (λ b. no_space b ≡ true) (λ b t. by b t (cases_eq b 32)) word h
  where
    by : (b : ℕ) → is_token_byte b ≡ true → (b ≡ 32) ⊎ (b ≢ 32) → no_space b ≡ true
    by b t (inl e) = absurd (true≢false (sym t ∙ ap is_token_byte e ∙ space_ends_token))
    by b t (inr n) = is_no_space b n

-- without a space there is no method
pub no_open : (bytes : List ℕ) → All (λ b. b ≢ 32) bytes → IsOpenTarget bytes → ⊥
no_open bytes h t = run_unstopped no_space t.0 (32 ∷ t.1) (subst (AllPass no_space) t.4 (apart bytes h)) refl

-- the first space ends the method
pub parted : (bytes : List ℕ) (n : ℕ) → IsFirstSpace bytes n → (t : IsOpenTarget bytes) → (take n bytes ≡ t.0) × (drop (n + 1) bytes ≡ t.1)
parted bytes n f t =
    let same = run_unique no_space (take n bytes) t.0 (32 ∷ drop (n + 1) bytes) (32 ∷ t.1) (apart (take n bytes) f.first) (token_apart t.0 t.2.1) refl refl (sym f.parts ∙ t.4) in
    (same.0, cc (same.1))

pub opens : (bytes : List ℕ) (n : ℕ) → IsFirstSpace bytes n → is_token (take n bytes) ≡ true → list_all is_uri_byte (drop (n + 1) bytes) ≡ true → IsOpenTarget bytes
opens bytes n f token target =
    let parts = and_parts (nat_lt 0 (length (take n bytes))) (list_all is_token_byte (take n bytes)) token in
    (take n bytes, drop (n + 1) bytes, (grind (arith, parts.0), AllPass-from_list_all is_token_byte (take n bytes) parts.1), AllPass-from_list_all is_uri_byte (drop (n + 1) bytes) target, f.parts)

pub opened_method : (bytes : List ℕ) (n : ℕ) → IsFirstSpace bytes n → IsOpenTarget bytes → is_token (take n bytes) ≡ true
opened_method bytes n f t =
    let some : nat_lt 0 (length t.0) ≡ true = (let h = t.2.0 in grind arith) in
    let all : list_all is_token_byte t.0 ≡ true = list_all-from_AllPass is_token_byte t.0 t.2.1 in
    rw ((parted bytes n f t).0, some, all) refl

pub opened_target : (bytes : List ℕ) (n : ℕ) → IsFirstSpace bytes n → IsOpenTarget bytes → list_all is_uri_byte (drop (n + 1) bytes) ≡ true
opened_target bytes n f t = rw (parted bytes n f t).1 (list_all-from_AllPass is_uri_byte t.1 t.3)
