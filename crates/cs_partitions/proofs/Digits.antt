-- The bytes of numbered tokens.
use Rattle.std.proofs.Common.{◌≡◌, ℕ, zero, suc, ◌+◌, ◌-◌, ◌*◌, ◌/◌, ◌%◌, ◌<◌, ◌≤◌, true, ◌&&◌, nat_lt, nat_le, List, [], ◌∷◌, ◌++◌, length, get_or, Some, None, if◌then◌else◌, sym, refl, ap, ◌∙◌, arith}
use Rattle.std.proofs.lemmas.Bool.Decides.{nat_tests}
use Rattle.std.proofs.lemmas.List.{length-append, get_or-append-add}
use Rattle.cs_types.specs.Token.{is_token, is_token_byte, are_token_bytes, token_reading}
use Rattle.cs_partitions.specs.Tokens.{last_digits, token_of}
use Rattle.cs_partitions.proofs.Runs.{both}

are_bytes_append : (xs ys : List ℕ) → are_token_bytes xs ≡ true → are_token_bytes ys ≡ true → are_token_bytes (xs ++ ys) ≡ true
are_bytes_append [] ys h k = k
are_bytes_append (x ∷ xs) ys h k =
    let r = both (is_token_byte x) (are_token_bytes xs) h in
    ap (λ b. b && are_token_bytes (xs ++ ys)) r.0 ∙ are_bytes_append xs ys r.1 k

are_bytes_left : (xs ys : List ℕ) → are_token_bytes (xs ++ ys) ≡ true → are_token_bytes xs ≡ true
are_bytes_left [] ys h = refl
are_bytes_left (x ∷ xs) ys h =
    let r = both (is_token_byte x) (are_token_bytes (xs ++ ys)) h in
    ap (λ b. b && are_token_bytes xs) r.0 ∙ are_bytes_left xs ys r.1

digit_byte : (d : ℕ) → d < 10 → is_token_byte (48 + d) ≡ true
digit_byte d l = grind (arith, nat_tests)

digit_bytes : (k n : ℕ) → are_token_bytes (last_digits k n) ≡ true
digit_bytes zero n = refl
digit_bytes (suc k) n = are_bytes_append (last_digits k (n / 10)) ((48 + n % 10) ∷ []) (digit_bytes k (n / 10)) (ap (λ b. b && true) (digit_byte (n % 10) (omega arith)))

pub numbered_is_token : (stream : List ℕ) (n : ℕ) → is_token (token_of stream 0) ≡ true → is_token (token_of stream n) ≡ true
unfolding token_of is_token
numbered_is_token stream n h =
    let tail = λ (m : ℕ). 45 ∷ last_digits 5 m in
    let sizes : length (stream ++ tail n) ≡ length (stream ++ tail 0) = length-append stream (tail n) ∙ sym (length-append stream (tail 0)) in
    let long = nat_lt 0 (length (stream ++ tail 0)) in
    let short = nat_le (length (stream ++ tail 0)) 1024 in
    let first = both (long && short) (are_token_bytes (stream ++ tail 0)) h in
    let bytes : are_token_bytes (stream ++ tail n) ≡ true = are_bytes_append stream (tail n) (are_bytes_left stream (tail 0) first.1) (digit_bytes 5 n) in
    ap (λ k. nat_lt 0 k && nat_le k 1024 && are_token_bytes (stream ++ tail n)) sizes
    ∙ ap (λ b. b && are_token_bytes (stream ++ tail n)) first.0
    ∙ bytes

pub reads_itself : (stream : List ℕ) (n : ℕ) → is_token (token_of stream 0) ≡ true → token_reading (token_of stream n) ≡ Some (token_of stream n)
reads_itself stream n h = ap (λ b. if b then Some (token_of stream n) else None) (numbered_is_token stream n h)

pub length_token : (stream : List ℕ) (n : ℕ) → length (token_of stream n) ≡ length stream + 6
unfolding token_of
length_token stream n = length-append stream (45 ∷ last_digits 5 n)

pub number_is : (stream : List ℕ) (n : ℕ) → n < 100000
    → (get_or (token_of stream n) (length stream + 1) 0 - 48) * 10000 + (get_or (token_of stream n) (length stream + 2) 0 - 48) * 1000 + (get_or (token_of stream n) (length stream + 3) 0 - 48) * 100 + (get_or (token_of stream n) (length stream + 4) 0 - 48) * 10 + (get_or (token_of stream n) (length stream + 5) 0 - 48) ≡ n
unfolding token_of
number_is stream n l =
    let digits = 45 ∷ last_digits 5 n in
    let e1 : get_or (stream ++ digits) (length stream + 1) 0 ≡ 48 + n / 10 / 10 / 10 / 10 % 10 = get_or-append-add stream digits 1 0 in
    let e2 : get_or (stream ++ digits) (length stream + 2) 0 ≡ 48 + n / 10 / 10 / 10 % 10 = get_or-append-add stream digits 2 0 in
    let e3 : get_or (stream ++ digits) (length stream + 3) 0 ≡ 48 + n / 10 / 10 % 10 = get_or-append-add stream digits 3 0 in
    let e4 : get_or (stream ++ digits) (length stream + 4) 0 ≡ 48 + n / 10 % 10 = get_or-append-add stream digits 4 0 in
    let e5 : get_or (stream ++ digits) (length stream + 5) 0 ≡ 48 + n % 10 = get_or-append-add stream digits 5 0 in
    omega (arith, e1, e2, e3, e4, e5)

lt_true : (a b : ℕ) → a < b → nat_lt a b ≡ true
lt_true a b h = grind (arith, nat_tests)

le_true : (a b : ℕ) → a ≤ b → nat_le a b ≡ true
le_true a b h = grind (arith, nat_tests)

pub names_token : (name : List ℕ) → are_token_bytes name ≡ true → length name ≤ 1018 → is_token (token_of name 0) ≡ true
unfolding token_of is_token
names_token name h l =
    let tail = 45 ∷ last_digits 5 0 in
    let size : length (name ++ tail) ≡ length name + 6 = length-append name tail in
    let long : nat_lt 0 (length (name ++ tail)) ≡ true = lt_true 0 (length (name ++ tail)) (omega (arith, size)) in
    let short : nat_le (length (name ++ tail)) 1024 ≡ true = le_true (length (name ++ tail)) 1024 (omega (arith, size, l)) in
    ap (λ b. b && nat_le (length (name ++ tail)) 1024 && are_token_bytes (name ++ tail)) long
    ∙ ap (λ b. b && are_token_bytes (name ++ tail)) short
    ∙ are_bytes_append name tail h refl
