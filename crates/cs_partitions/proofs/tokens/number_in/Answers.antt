use Rattle.std.proofs.Common.{◌≡◌, arith, ap, length, get_or, ◌+◌, ◌-◌, ◌*◌, ◌<◌, ℕ, List}
use Rattle.cs_partitions.specs.Tokens.{token_of}
use Rattle.cs_partitions.proofs.Digits.{length_token, number_is}
use Rattle.cs_partitions.proofs.tokens.number_in.Goals as goal

-- five digits behind a name and a dash
number_at : (token : List ℕ) (stream : List ℕ) (n at : ℕ) → n < 100000 → token ≡ token_of stream n → at ≡ length token - 5
    → (get_or token at 0 - 48) * 10000 + (get_or token (at + 1) 0 - 48) * 1000 + (get_or token (at + 2) 0 - 48) * 100 + (get_or token (at + 3) 0 - 48) * 10 + (get_or token (at + 4) 0 - 48) ≡ n
number_at token stream n at l e is =
    let place : at ≡ length stream + 1 = omega (arith, is, ap length e, length_token stream n) in
    let k1 : at + 1 ≡ length stream + 2 = omega (arith, place) in
    let k2 : at + 2 ≡ length stream + 3 = omega (arith, place) in
    let k3 : at + 3 ≡ length stream + 4 = omega (arith, place) in
    let k4 : at + 4 ≡ length stream + 5 = omega (arith, place) in
    rw (e, k1, k2, k3, k4, place) (number_is stream n l)

pub returns-in_default : goal.returns-in_default
returns-in_default c stream n l e = absurd (c.in_default.ensures (omega (arith, ap length e, length_token stream n)))

pub returns : goal.returns
returns c stream n l e =
    let h = number_at c.args.token.now stream n c.in-Some.at l e (omega (arith, c.in-Some.ensures)) in
    omega (arith, h, c.value.ensures, c.value-2.ensures, c.value-3.ensures, c.value-4.ensures, c.value-5.ensures)
