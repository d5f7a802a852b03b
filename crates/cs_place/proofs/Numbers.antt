-- Byte order of numbers, most significant byte first and the top bit turned over, is the order of the numbers.
use Rattle.std.proofs.Common.{◌≡◌, ℕ, zero, suc, ◌+◌, ◌*◌, ◌/◌, ◌%◌, ◌^◌, ◌<◌, ℤ, pos, negsuc, List, ◌++◌, refl, sym, ap, ◌∙◌, arith}
use Rattle.std.specs.declared.cmp.Ordering.{Ordering}
use Rattle.std.specs.declared.cmp.Ordering.TheVariants.{Less, Equal, Greater}
use Rattle.std.specs.Ordering.{nat_cmp, int_cmp, ordering_then, MatchOrdering}
use Rattle.std.specs.Cmp.Lexicographic.{slice_cmp}
use Rattle.std.specs.Int.{byte_at, bytes_high_first}
use Rattle.std.proofs.lemmas.Cmp.{ranked}
use Rattle.std.proofs.lemmas.Bool.Decides.{nat_tests}
use Rattle.std.proofs.lemmas.Nat.{mul-add-lt, mod-mul-add, mod_below, div-add-mod'}
use Rattle.std.proofs.Math.Nat as nat
use Rattle.cs_place.specs.Place.{lifted}
use lib.Signed.{mag}

pub then_equal : (o : Ordering) → ordering_then o Equal ≡ o
then_equal Less = refl
then_equal Equal = refl
then_equal Greater = refl

pub then_then : (o p q : Ordering) → ordering_then (ordering_then o p) q ≡ ordering_then o (ordering_then p q)
then_then Less p q = refl
then_then Equal p q = refl
then_then Greater p q = refl

less : (a b : ℕ) → a < b → nat_cmp a b ≡ Less
less a b h = grind (arith, nat_tests)

pub same : (a : ℕ) → nat_cmp a a ≡ Equal
same a = grind (arith, nat_tests)

greater : (a b : ℕ) → b < a → nat_cmp a b ≡ Greater
greater a b h = grind (arith, nat_tests)

shifted : (k a b : ℕ) → nat_cmp (k + a) (k + b) ≡ nat_cmp a b
shifted k a b = grind (arith, nat_tests)

-- of two numbers of two digits the high digits decide, and else the low ones
digits : (p a b x y : ℕ) → x < p → y < p → (o : Ordering) → MatchOrdering o (a < b) (a ≡ b) (b < a) → nat_cmp (a * p + x) (b * p + y) ≡ ordering_then o (nat_cmp x y)
digits p a b x y in_x in_y Less h = less (a * p + x) (b * p + y) (omega (arith, mul-add-lt a p x b h in_x, nat.mul_comm p b))
digits p a b x y in_x in_y Equal h = rw h (shifted (b * p) x y)
digits p a b x y in_x in_y Greater h = greater (a * p + x) (b * p + y) (omega (arith, mul-add-lt b p y a h in_y, nat.mul_comm p a))

-- the low bytes and one more
high_byte : (n p : ℕ) → 0 < p → n % (p * 256) ≡ n / p % 256 * p + n % p
high_byte n p h =
    let q = n / p in
    let outer : n ≡ q * p + n % p = sym (div-add-mod' n p) in
    let inner : q ≡ q / 256 * 256 + q % 256 = sym (div-add-mod' q 256) in
    let low : n % p < p = mod_below n p h in
    let small : q % 256 < 256 = mod_below q 256 (omega arith) in
    let fits : q % 256 * p + n % p < p * 256 = mul-add-lt (q % 256) p (n % p) 256 small low in
    let parted : q * p ≡ q / 256 * (p * 256) + q % 256 * p = ap (λ x. x * p) inner ∙ nat.add-mul (q / 256 * 256) (q % 256) p ∙ ap (λ x. x + q % 256 * p) (nat.mul_assoc (q / 256) 256 p ∙ ap (λ x. q / 256 * x) (nat.mul_comm 256 p)) in
    let whole : n ≡ q / 256 * (p * 256) + (q % 256 * p + n % p) = omega arith in
    ap (λ x. x % (p * 256)) whole ∙ mod-mul-add (q / 256) (p * 256) _ fits

byte_is : (k n : ℕ) → byte_at k n ≡ n / 256 ^ k % 256
byte_is zero n = omega arith
byte_is (suc k) n = refl

bytes_in_order : (k m n : ℕ) (xs ys : List ℕ) → slice_cmp nat_cmp (bytes_high_first k m ++ xs) (bytes_high_first k n ++ ys) ≡ ordering_then (nat_cmp (m % 256 ^ k) (n % 256 ^ k)) (slice_cmp nat_cmp xs ys)
bytes_in_order zero m n xs ys =
    let none_m : m % 256 ^ 0 ≡ 0 = omega arith in
    let none_n : n % 256 ^ 0 ≡ 0 = omega arith in
    let tie : nat_cmp (m % 256 ^ 0) (n % 256 ^ 0) ≡ Equal = (λ i. nat_cmp (none_m i) (none_n i)) ∙ same 0 in
    ap (λ o. ordering_then o (slice_cmp nat_cmp xs ys)) (sym tie)
bytes_in_order (suc k) m n xs ys =
    let p = 256 ^ k in
    let positive : 0 < p = nat.one-le-pow k 256 (omega arith) in
    let whole_m : m % 256 ^ suc k ≡ byte_at k m * p + m % p = ap (λ w. m % w) (nat.pow-suc 256 k) ∙ high_byte m p positive ∙ ap (λ b. b * p + m % p) (sym (byte_is k m)) in
    let whole_n : n % 256 ^ suc k ≡ byte_at k n * p + n % p = ap (λ w. n % w) (nat.pow-suc 256 k) ∙ high_byte n p positive ∙ ap (λ b. b * p + n % p) (sym (byte_is k n)) in
    let first = nat_cmp (byte_at k m) (byte_at k n) in
    let more : nat_cmp (m % 256 ^ suc k) (n % 256 ^ suc k) ≡ ordering_then first (nat_cmp (m % p) (n % p)) =
    (λ i. nat_cmp (whole_m i) (whole_n i)) ∙ digits p (byte_at k m) (byte_at k n) (m % p) (n % p) (mod_below m p positive) (mod_below n p positive) first (ranked (byte_at k m) (byte_at k n) first refl) in
    ap (ordering_then first) (bytes_in_order k m n xs ys) ∙ sym (then_then first (nat_cmp (m % p) (n % p)) (slice_cmp nat_cmp xs ys)) ∙ ap (λ o. ordering_then o (slice_cmp nat_cmp xs ys)) (sym more)

-- a number of a type as the natural number half of the type's numbers above it
lifted_in_order : (half : ℕ) (m n : ℤ) → mag m < half → mag n < half → nat_cmp (lifted half m) (lifted half n) ≡ int_cmp m n
lifted_in_order half (pos m) (pos n) a b = grind (arith, nat_tests)
lifted_in_order half (pos m) (negsuc n) a b = grind (arith, nat_tests)
lifted_in_order half (negsuc m) (pos n) a b = grind (arith, nat_tests)
lifted_in_order half (negsuc m) (negsuc n) a b = grind (arith, nat_tests)

lifted_below : (half : ℕ) (n : ℤ) → mag n < half → lifted half n < half + half
lifted_below half (pos n) h = omega arith
lifted_below half (negsuc n) h = omega arith

-- once for each width
pub numbers_in_order : (k half : ℕ) → half + half ≡ 256 ^ k → (m n : ℤ) → mag m < half → mag n < half → (xs ys : List ℕ) → slice_cmp nat_cmp (bytes_high_first k (lifted half m) ++ xs) (bytes_high_first k (lifted half n) ++ ys) ≡ ordering_then (int_cmp m n) (slice_cmp nat_cmp xs ys)
numbers_in_order k half e m n in_m in_n xs ys =
    let fits_m : lifted half m < 256 ^ k = omega (arith, e, lifted_below half m in_m) in
    let fits_n : lifted half n < 256 ^ k = omega (arith, e, lifted_below half n in_n) in
    let numbers : nat_cmp (lifted half m % 256 ^ k) (lifted half n % 256 ^ k) ≡ int_cmp m n =
    (λ i. nat_cmp (nat.mod-eq_of_lt fits_m i) (nat.mod-eq_of_lt fits_n i)) ∙ lifted_in_order half m n in_m in_n in
    bytes_in_order k (lifted half m) (lifted half n) xs ys ∙ ap (λ o. ordering_then o (slice_cmp nat_cmp xs ys)) numbers
