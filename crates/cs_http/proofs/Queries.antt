-- The query of a READ is a text.
use Rattle.std.proofs.Common.{◌≡◌, sym, subst, refl, ℕ, zero, suc, ◌<◌, ◌≤◌, List, [], ◌∷◌, ◌++◌, length, get_or, true, Option, Some, None, Result, Ok, Err, IfOk, OnOk, All, IsUtf8, codes, decimal, arith}
use Rattle.std.proofs.lemmas.Bool.{and_parts}
use Rattle.std.proofs.lemmas.Fmt.{IsAscii-decimal}
use Rattle.std.proofs.lemmas.List.Elements.{All-head, All-tail}
use Rattle.std.proofs.lemmas.Str.{IsUtf8-append, IsUtf8-from_ascii}
use Rattle.cs_types.specs.Stamp.{IsStamp, stamp_text}
use Rattle.cs_types.specs.Texts.{IsMarkOrDigit}
use Rattle.cs_types.specs.Token.{is_token, is_token_byte, are_token_bytes}
use Rattle.cs_link.specs.declared.reading.ReadArgs.{ReadArgs}
use Rattle.cs_http.specs.Reading.{IsReading}
use Rattle.cs_http.specs.Request.{quoted, end_text, token_text, query_text, request_text, IsKeptEnd, IsKeptToken, IsKeptArgs}
use Rattle.cs_http.proofs.ReadBack.{word, request_reads}

abbrev TextsArePlain : Type 0
TextsArePlain = (us : ℕ) → IsStamp us → All IsMarkOrDigit (stamp_text us)

both : (xs ys : List ℕ) → IsUtf8 xs → IsUtf8 ys → IsUtf8 (xs ++ ys)
both xs ys p q = IsUtf8-append xs ys p q

marks_ascii : (xs : List ℕ) → All IsMarkOrDigit xs → (k : ℕ) → get_or xs k 0 < 128
marks_ascii [] h k = omega arith
marks_ascii (x ∷ xs) h zero = let y = All-head IsMarkOrDigit x xs h in omega (arith, y.1)
marks_ascii (x ∷ xs) h (suc k) = marks_ascii xs (All-tail IsMarkOrDigit x xs h) k

stamp_utf8 : TextsArePlain → (us : ℕ) → IsStamp us → IsUtf8 (stamp_text us)
stamp_utf8 law us is = IsUtf8-from_ascii (stamp_text us) (marks_ascii (stamp_text us) (law us is))

byte_ascii : (b : ℕ) → is_token_byte b ≡ true → b < 128
byte_ascii b h = grind arith

token_ascii : (xs : List ℕ) → are_token_bytes xs ≡ true → (k : ℕ) → get_or xs k 0 < 128
token_ascii [] h k = omega arith
token_ascii (x ∷ xs) h zero = byte_ascii x (and_parts (is_token_byte x) (are_token_bytes xs) h).0
token_ascii (x ∷ xs) h (suc k) = token_ascii xs (and_parts (is_token_byte x) (are_token_bytes xs) h).1 k

token_utf8 : (token : List ℕ) → is_token token ≡ true → IsUtf8 token
unfolding is_token
token_utf8 token h = IsUtf8-from_ascii token (token_ascii token (and_parts _ (are_token_bytes token) h).1)

quoted_utf8 : (text : List ℕ) → IsUtf8 text → IsUtf8 (quoted text)
quoted_utf8 text is = both (codes "'" ++ text) (codes "'") (both (codes "'") text (word (codes "'") refl) is) (word (codes "'") refl)

end_utf8 : TextsArePlain → (end : Option ℕ) → IsKeptEnd end → IsUtf8 (end_text end)
end_utf8 law None kept = word (codes "NULL") refl
end_utf8 law (Some at) kept = quoted_utf8 (stamp_text at) (stamp_utf8 law at kept)

part_utf8 : (token : Option (List ℕ)) → IsKeptToken token → IsUtf8 (token_text token)
part_utf8 None kept = word (codes "NULL") refl
part_utf8 (Some token) kept = quoted_utf8 token (token_utf8 token kept)

query_utf8 : TextsArePlain → (args : ReadArgs) → IsKeptArgs args → IsUtf8 (query_text args)
unfolding query_text
query_utf8 law args kept =
    both _ (codes ")") (both _ (decimal args.heartbeat_ms) (both _ (codes ", heartbeat_milliseconds => ") (both _ (token_text args.token) (both _ (codes ", partition_token => ")
    (both _ (end_text args.end) (both _ (codes ", end_timestamp => ") (both _ (quoted (stamp_text args.start)) (both _ (codes "(start_timestamp => ") (both (codes "SELECT ChangeRecord FROM READ_") args.stream
    (word (codes "SELECT ChangeRecord FROM READ_") refl) kept.stream) (word (codes "(start_timestamp => ") refl)) (quoted_utf8 (stamp_text args.start) (stamp_utf8 law args.start kept.start)))
    (word (codes ", end_timestamp => ") refl)) (end_utf8 law args.end kept.end)) (word (codes ", partition_token => ") refl)) (part_utf8 args.token kept.token))
    (word (codes ", heartbeat_milliseconds => ") refl)) (IsUtf8-from_ascii (decimal args.heartbeat_ms) (IsAscii-decimal args.heartbeat_ms (let h = kept.heartbeat in omega (arith, h))))) (word (codes ")") refl)

-- what is written for a READ is read as its query
pub query_reads : TextsArePlain → (args : ReadArgs) → IsKeptArgs args → length (request_text args) ≤ 65536 → IsReading (request_text args) (Ok (query_text args))
query_reads law args kept fits = request_reads (query_text args) (query_utf8 law args kept) fits

pub reads_of : {E : Type 0} (result : Result (List ℕ) E) → TextsArePlain → (args : ReadArgs) → OnOk result (IsKeptArgs args) → IfOk result (λ bytes. bytes ≡ request_text args)
    → IfOk result (λ bytes. length bytes ≤ 65536 → IsReading bytes (Ok (query_text args)))
reads_of (Ok bytes) law args kept is =
    λ fits. subst (λ (b : List ℕ). IsReading b (Ok (query_text args))) (sym is) (query_reads law args kept (subst (λ (b : List ℕ). length b ≤ 65536) is fits))
reads_of (Err e) law args kept is = tt
