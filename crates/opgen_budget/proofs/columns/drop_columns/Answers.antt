use Rattle.std.proofs.Common.{◌≡◌, ℕ, suc, ◌+◌, ◌-◌, ◌*◌, ◌%◌, ◌^◌, ◌≤◌, ap, ◌∙◌, arith}
use Rattle.std.proofs.Math.Nat.{mul-le-mul, two-pow-succ, mul-le-mul_right}
use Rattle.opgen_num.proofs.BitLength.{power_order}
use Rattle.opgen_budget.specs.Columns.{bits_in_column, weight_below}
use Rattle.opgen_budget.proofs.Weights.{weight_below-suc, weight_below-zero, cut_is_greatest, few_columns}
use Rattle.opgen_budget.proofs.columns.drop_columns.Goals as goal

half : (p : ℕ) → p ≤ 64 → 1 * 2 ^ (p - 1) % 340282366920938463463374607431768211456 ≡ 2 ^ (p - 1)
half p h = omega (arith, power_order (p - 1) 63 (omega (arith, h)))

pub columns-init : goal.columns-init
columns-init c = (omega (arith, weight_below-zero c.args.m c.args.n), omega arith, omega arith, omega arith)

pub columns-preserved : goal.columns-preserved
columns-preserved c =
    let k = c.columns.columns in
    let b = c.bits_in_column.result in
    let few = few_columns k c.columns.weight c.args.p c.columns.invariant.3 c.columns.invariant.1 c.requires.p.1 in
    let most : b * 2 ^ k ≤ 64 * 2 ^ 63 = mul-le-mul c.bits_in_column.ensures.few (power_order k 63 few) in
    let some : 1 * 2 ^ k ≤ b * 2 ^ k = mul-le-mul_right (2 ^ k) (c.bits_in_column.ensures.some c.requires.m.0 c.requires.n.0) in
    let shifted : c.from.result * 2 ^ k ≡ b * 2 ^ k = ap (λ x. x * 2 ^ k) c.from.ensures in
    let whole : c.from.result * 2 ^ k % 340282366920938463463374607431768211456 ≡ b * 2 ^ k = omega (arith, shifted, most) in
    let value : b * 2 ^ k ≡ bits_in_column c.args.m c.args.n k * 2 ^ k = ap (λ x. x * 2 ^ k) c.bits_in_column.ensures.value in
    let double : 2 ^ (k + 1) ≡ 2 ^ k + 2 ^ k = ap (λ n. 2 ^ n) (omega arith) ∙ two-pow-succ k ∙ omega arith in
    let next : suc k ≡ k + 1 = omega arith in
    let more = weight_below-suc c.args.m c.args.n k in (
      omega (arith, whole, value, c.columns.invariant.0, more, ap (weight_below c.args.m c.args.n) next),
      omega (arith, half c.args.p c.requires.p.1, c.if-weight-constant.false),
      omega (arith, c.columns-test.true),
      omega (arith, whole, some, double, c.columns.invariant.3),
    )

pub returns-then-weight-constant-clause-columns : goal.returns-then-weight-constant-clause-columns
returns-then-weight-constant-clause-columns c =
    let k = c.columns.columns in
    let b = c.bits_in_column.result in
    let few = few_columns k c.columns.weight c.args.p c.columns.invariant.3 c.columns.invariant.1 c.requires.p.1 in
    let most : b * 2 ^ k ≤ 64 * 2 ^ 63 = mul-le-mul c.bits_in_column.ensures.few (power_order k 63 few) in
    let shifted : c.from.result * 2 ^ k ≡ b * 2 ^ k = ap (λ x. x * 2 ^ k) c.from.ensures in
    let whole : c.from.result * 2 ^ k % 340282366920938463463374607431768211456 ≡ b * 2 ^ k = omega (arith, shifted, most) in
    let value : b * 2 ^ k ≡ bits_in_column c.args.m c.args.n k * 2 ^ k = ap (λ x. x * 2 ^ k) c.bits_in_column.ensures.value in (
      c.columns.invariant.2,
      omega (arith, c.columns.invariant.0, c.columns.invariant.1),
      λ more within least.
          cut_is_greatest c.args.m c.args.n k (2 ^ (c.args.p - 1))
          (omega (
            arith,
            whole,
            value,
            c.columns.invariant.0,
            weight_below-suc c.args.m c.args.n k,
            half c.args.p c.requires.p.1,
            c.if-weight-constant.true,
          )) more least,
    )
