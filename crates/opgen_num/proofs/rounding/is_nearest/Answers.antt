use Rattle.std.proofs.Common.{subst, sym, rules, arith, FitsSigned, ◌+ℤ◌, pos, ◌≡◌}
use Rattle.std.specs.Prelude.{◌*ℤ◌, ◌<ℤ◌, ◌≤ℤ◌, ◌-ℤ◌}
use Rattle.std.specs.Int.{w128}
use borrow.Author.Tests.{eqb-true, eq-eqb}
use Rattle.std.proofs.lemmas.Int.{ints, to_z-of_z}
use Rattle.opgen_num.specs.Rounding.{IsNearest}
use Rattle.opgen_num.proofs.Floors.{one_floor}
use Rattle.opgen_num.proofs.Quotients.{next_fits}
use Rattle.opgen_num.proofs.Rounded.{nearest_above, nearest_below}
use Rattle.opgen_num.proofs.rounding.is_nearest.Goals as goal

pub returns-then-is_half : goal.returns-then-is_half
returns-then-is_half c =
    let n = c.ranges.n in
    let m = c.ranges.m in
    let q = c.quotient-quotient.result.0 in
    let r = c.quotient-quotient.result.1 in
    let fits_rest : FitsSigned w128 r = search rules in
    let whole = simp to_z-of_z at c.quotient-quotient.ensures.whole in
    let low = c.quotient-quotient.ensures.low in
    let high = simp to_z-of_z at c.quotient-quotient.ensures.high in
    let half : (c.args.m -ℤ r) ≤ℤ r = (simp to_z-of_z at c.is_half.ensures.half) c.if-is_half.true in
    let fits : FitsSigned w128 (q +ℤ pos 1) = next_fits _ _ q r whole (omega (arith, ints)) high (search rules) n in
    let near : IsNearest c.args.n c.args.m (q +ℤ pos 1) = nearest_above _ _ _ _ c.requires whole low high half in
    let twice : pos 0 <ℤ (pos 2 *ℤ c.args.m) = omega (arith, ints) in (
      (λ t.
          let same : c.args.y ≡ q +ℤ pos 1 = omega (arith, ints, eqb-true, eq-eqb) in
          subst (λ z. IsNearest c.args.n c.args.m z) (sym same) near),
      (λ t. omega (arith, ints, eqb-true, eq-eqb, one_floor _ twice _ c.args.y (q +ℤ pos 1) t near)),
    )

pub returns-else-is_half : goal.returns-else-is_half
returns-else-is_half c =
    let n = c.ranges.n in
    let m = c.ranges.m in
    let q = c.quotient-quotient.result.0 in
    let r = c.quotient-quotient.result.1 in
    let fits_rest : FitsSigned w128 r = search rules in
    let whole = simp to_z-of_z at c.quotient-quotient.ensures.whole in
    let low = c.quotient-quotient.ensures.low in
    let high = simp to_z-of_z at c.quotient-quotient.ensures.high in
    let half : r <ℤ (c.args.m -ℤ r) = (simp to_z-of_z at c.is_half.ensures.less) c.if-is_half.false in
    let near : IsNearest c.args.n c.args.m q = nearest_below _ _ _ _ c.requires whole low high half in
    let twice : pos 0 <ℤ (pos 2 *ℤ c.args.m) = omega (arith, ints) in (
      (λ t.
          let same : c.args.y ≡ q = omega (arith, ints, eqb-true, eq-eqb) in
          subst (λ z. IsNearest c.args.n c.args.m z) (sym same) near),
      (λ t. omega (arith, ints, eqb-true, eq-eqb, one_floor _ twice _ c.args.y q t near)),
    )
