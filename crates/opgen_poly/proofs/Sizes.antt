-- How large the numbers of a step are.
use Rattle.std.proofs.Common.{ℕ, suc, ◌*◌, ◌^◌, ◌≤◌, arith}
use Rattle.std.specs.Prelude.{ℤ, pos, negsuc, ◌*ℤ◌, unsigned_abs}
use Rattle.std.proofs.Math.Nat.{mul-le-mul, pow-le-pow_right}
use Rattle.std.proofs.lemmas.Int.{ints}

pub product_small : (z : ℤ) (w : ℕ) → unsigned_abs z ≤ 2 ^ 50 → w ≤ 16 → unsigned_abs (z *ℤ pos (2 ^ w)) ≤ 2 ^ 66
product_small (pos n) w few narrow =
    let power : 2 ^ w ≤ 2 ^ 16 = pow-le-pow_right (omega arith) narrow in
    let all : n * 2 ^ w ≤ 2 ^ 50 * 2 ^ 16 = mul-le-mul {n₁ = n} {m₁ = 2 ^ w} {n₂ = 2 ^ 50} {m₂ = 2 ^ 16} (omega (arith, few)) power in
    omega (arith, ints, all)
product_small (negsuc n) w few narrow =
    let power : 2 ^ w ≤ 2 ^ 16 = pow-le-pow_right (omega arith) narrow in
    let all : suc n * 2 ^ w ≤ 2 ^ 50 * 2 ^ 16 = mul-le-mul {n₁ = suc n} {m₁ = 2 ^ w} {n₂ = 2 ^ 50} {m₂ = 2 ^ 16} (omega (arith, few)) power in
    omega (arith, ints, all)
