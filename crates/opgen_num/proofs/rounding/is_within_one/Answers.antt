use Rattle.std.proofs.Common.{arith, rules, FitsSigned, ◌+ℤ◌, pos}
use Rattle.std.specs.Int.{w128}
use borrow.Author.Tests.{eqb-true, eq-eqb}
use Rattle.std.proofs.lemmas.Int.{ints, to_z-of_z}
use Rattle.opgen_num.proofs.Quotients.{next_fits, within_one_next, within_one_only}
use Rattle.opgen_num.proofs.rounding.is_within_one.Goals as goal

pub returns-then-rest-gt0 : goal.returns-then-rest-gt0
returns-then-rest-gt0 c =
    let n = c.ranges.n in
    let m = c.ranges.m in
    let whole = simp to_z-of_z at c.quotient-quotient.ensures.whole in
    let low = c.quotient-quotient.ensures.low in
    let high = simp to_z-of_z at c.quotient-quotient.ensures.high in
    let fits : FitsSigned w128 (c.quotient-quotient.result.0 +ℤ pos 1) = next_fits _ _ c.quotient-quotient.result.0
    c.quotient-quotient.result.1 whole (omega (arith, ints)) high (search rules) n in (
      (λ t. within_one_next _ _ _ _ c.requires whole low high c.args.y (omega (arith, ints, eqb-true, eq-eqb))
          (omega (arith, ints, eqb-true, eq-eqb))),
      (λ t. omega (arith, ints, eqb-true, eq-eqb, within_one_only _ _ _ _ c.requires whole low high c.args.y t)),
    )

pub returns-else-rest-gt0 : goal.returns-else-rest-gt0
returns-else-rest-gt0 c =
    let n = c.ranges.n in
    let m = c.ranges.m in
    let whole = simp to_z-of_z at c.quotient-quotient.ensures.whole in
    let low = c.quotient-quotient.ensures.low in
    let high = simp to_z-of_z at c.quotient-quotient.ensures.high in (
      (λ t. absurd (omega (arith, ints, eqb-true, eq-eqb))),
      (λ t. absurd (omega (
        arith,
        ints,
        eqb-true,
        eq-eqb,
        (within_one_only _ _ _ _ c.requires whole low high c.args.y t).2 (omega (arith, ints, eqb-true, eq-eqb)),
      ))),
    )
