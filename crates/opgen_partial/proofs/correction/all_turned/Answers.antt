use Rattle.std.proofs.Common.{◌≡◌, ℕ, ◌+◌, ◌≤◌, ◌-◌, ◌*◌, ◌^◌, FitsSigned, pow-add, to_z, of_z, ap, ◌∙◌, arith}
use Rattle.std.specs.Prelude.{ℤ, pos, ◌*ℤ◌}
use Rattle.std.specs.Int.{w128}
use Rattle.std.proofs.Math.Nat.{pow-le-pow_right}
use Rattle.std.proofs.lemmas.Int.{ints, to_z-of_z, fits_signed_from_abs}
use Rattle.std.proofs.lemmas.Nat.{mul-le}
use Rattle.opgen_partial.proofs.correction.all_turned.Goals as goal

abbrev ones : (a b : ℕ) → ℕ
ones a b = (2 ^ a - 1) * (2 ^ b - 1)

most : (a b : ℕ) → a + b ≤ 96 → ones a b ≤ 2 ^ 96
most a b h =
    let small = mul-le (2 ^ a - 1) (2 ^ b - 1) (2 ^ a) (2 ^ b) (omega arith) (omega arith) in
    let few : 2 ^ (a + b) ≤ 2 ^ 96 = pow-le-pow_right (omega arith) h in
    omega (arith, small, few, pow-add 2 a b)

fits : (a b : ℕ) → a + b ≤ 96 → FitsSigned w128 (pos (ones a b))
fits a b h = fits_signed_from_abs w128 (pos (ones a b)) (omega (arith, most a b h))

product : (a b : ℕ) (x y : ℤ) → x ≡ pos (2 ^ a - 1) → y ≡ pos (2 ^ b - 1) → x *ℤ y ≡ pos (ones a b)
product a b x y h k =
    let natural : pos (2 ^ a - 1) *ℤ pos (2 ^ b - 1) ≡ pos (ones a b) = omega (arith, ints) in
    ap (λ z. z *ℤ y) h ∙ ap (λ z. pos (2 ^ a - 1) *ℤ z) k ∙ natural

pub overflow_mul-result : goal.overflow_mul-result
overflow_mul-result c =
    let x = to_z-of_z w128 c.all_ones.result (record { sfits = c.all_ones.type_inv }) ∙ c.all_ones.ensures.value in
    let y = to_z-of_z w128 c.all_ones-2.result (record { sfits = c.all_ones-2.type_inv }) ∙ c.all_ones-2.ensures.value in
    rw (product c.args.a c.args.b (to_z w128 (of_z w128 c.all_ones.result)) (to_z w128 (of_z w128 c.all_ones-2.result)) x y)
    (fits c.args.a c.args.b c.requires)

pub returns-clause-value : goal.returns-clause-value
returns-clause-value c =
    let x = to_z-of_z w128 c.all_ones.result (record { sfits = c.all_ones.type_inv }) ∙ c.all_ones.ensures.value in
    let y = to_z-of_z w128 c.all_ones-2.result (record { sfits = c.all_ones-2.type_inv }) ∙ c.all_ones-2.ensures.value in
    ap (λ z. to_z w128 (of_z w128 z))
    (product c.args.a c.args.b (to_z w128 (of_z w128 c.all_ones.result)) (to_z w128 (of_z w128 c.all_ones-2.result)) x y)
    ∙ to_z-of_z w128 (pos (ones c.args.a c.args.b)) (fits c.args.a c.args.b c.requires)

pub returns-clause-some : goal.returns-clause-some
returns-clause-some c = rw (returns-clause-value c) (omega (arith, ints))

pub returns-clause-few : goal.returns-clause-few
returns-clause-few c =
    let small = most c.args.a c.args.b c.requires in
    rw (returns-clause-value c) (omega (arith, ints, small))
