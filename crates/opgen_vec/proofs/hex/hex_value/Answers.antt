use Rattle.std.proofs.Common.{ℕ, ◌<◌, ◌≤◌, ◌^◌, arith}
use Rattle.std.proofs.Math.Nat.{pow-le-pow_right}
use Rattle.opgen_vec.proofs.hex.hex_value.Goals as goal

room : (value i : ℕ) → value < 16 ^ i → i ≤ 23 → value < 16 ^ 23
room value i small few = let most : 16 ^ i ≤ 16 ^ 23 = pow-le-pow_right (omega arith) few in omega (arith, small, most)

pub overflow_mul-value : goal.overflow_mul-value
overflow_mul-value c =
    let few : c.loop-byte.byte-index ≤ 23 = omega (arith, c.loop-byte.invariant.few) in
    let small = room c.loop-byte.value c.loop-byte.byte-index c.loop-byte.invariant.small few in omega (arith, small)

pub overflow_add-value : goal.overflow_add-value
overflow_add-value c =
    let few : c.loop-byte.byte-index ≤ 23 = omega (arith, c.loop-byte.invariant.few) in
    let small = room c.loop-byte.value c.loop-byte.byte-index c.loop-byte.invariant.small few in omega (arith, small)
