-- Products and the widths that hold them.
use Rattle.std.proofs.Common.{◌≡◌, ℕ, zero, suc, ◌+◌, ◌-◌, ◌*◌, ◌^◌, ◌<◌, ◌≤◌, Bool, true, false, ap, arith}
use Rattle.std.specs.Prelude.{ℤ, pos, negsuc, ◌*ℤ◌}
use Rattle.std.proofs.Math.Nat.{mul-le-mul}
use Rattle.std.proofs.lemmas.Nat.{pow_pos, pow-add}
use Rattle.std.proofs.lemmas.Int.{ints}
use Rattle.opgen_num.specs.Formats.{Holds}

-- a number below a power of two by a number below another one
below : (x m f k : ℕ) → x < m → f < k → x * f < m * k
below x m f k h g = omega (arith, mul-le-mul {n₁ = x + 1} {m₁ = f + 1} {n₂ = m} {m₂ = k} (omega arith) (omega arith))

at_most : (x m f k : ℕ) → x ≤ m → f < k → x * f ≤ m * k
at_most x m f k h g = mul-le-mul (omega arith) (omega arith)

-- a number of a width and a factor of so many bits have a product of both widths together
pub product_holds : (signed : Bool) (width bits : ℕ) (x : ℤ) (f : ℕ) → 1 ≤ width → f < 2 ^ bits → Holds signed width x
    → Holds signed (width + bits) (x *ℤ pos f)
product_holds false width bits (pos x) f one h g =
    let e = pow-add 2 width bits in
    (omega (arith, ints), omega (arith, ints, e, below x (2 ^ width) f (2 ^ bits) (omega (arith, ints, g.1)) h))
product_holds false width bits (negsuc x) f one h g = absurd (omega (arith, ints, g.0))
product_holds true zero bits x f one h g = absurd (omega (arith, one))
product_holds true (suc n) bits (pos x) f one h g =
    let half : suc n - 1 ≡ n = omega arith in
    let sum : suc n + bits - 1 ≡ n + bits = omega arith in
    let e = pow-add 2 n bits in
    let small : x < 2 ^ n = omega (arith, ints, g.1, ap (λ i. 2 ^ i) half) in
    (omega (arith, ints), omega (arith, ints, e, ap (λ i. 2 ^ i) sum, below x (2 ^ n) f (2 ^ bits) small h))
product_holds true (suc n) bits (negsuc x) f one h g =
    let half : suc n - 1 ≡ n = omega arith in
    let sum : suc n + bits - 1 ≡ n + bits = omega arith in
    let e = pow-add 2 n bits in
    let small : suc x ≤ 2 ^ n = omega (arith, ints, g.0, ap (λ i. 2 ^ i) half) in (
      omega (arith, ints, e, ap (λ i. 2 ^ i) sum, at_most (suc x) (2 ^ n) f (2 ^ bits) small h),
      omega (arith, ints, pow_pos (suc n + bits - 1)),
    )
