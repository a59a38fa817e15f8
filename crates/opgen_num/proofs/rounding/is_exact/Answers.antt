use Rattle.std.proofs.Common.{arith}
use borrow.Author.Tests.{eqb-true, eq-eqb}
use Rattle.std.proofs.lemmas.Int.{ints, to_z-of_z}
use Rattle.opgen_num.proofs.Quotients.{exact_if, exact_only}
use Rattle.opgen_num.proofs.rounding.is_exact.Goals as goal

pub returns-then-rest-eq0 : goal.returns-then-rest-eq0
returns-then-rest-eq0 c =
    let n = c.ranges.n in
    let m = c.ranges.m in
    let whole = simp to_z-of_z at c.quotient-quotient.ensures.whole in
    let low = c.quotient-quotient.ensures.low in
    let high = simp to_z-of_z at c.quotient-quotient.ensures.high in (
      (λ t. exact_if _ _ _ _ c.requires whole low high c.args.y (omega (arith, ints, eqb-true, eq-eqb))
          (omega (arith, ints, eqb-true, eq-eqb))),
      (λ t. omega (arith, ints, eqb-true, eq-eqb, exact_only _ _ _ _ c.requires whole low high c.args.y t)),
    )

pub returns-else-rest-eq0 : goal.returns-else-rest-eq0
returns-else-rest-eq0 c =
    let n = c.ranges.n in
    let m = c.ranges.m in
    let whole = simp to_z-of_z at c.quotient-quotient.ensures.whole in
    let low = c.quotient-quotient.ensures.low in
    let high = simp to_z-of_z at c.quotient-quotient.ensures.high in (
      (λ t. absurd (omega (arith, ints, eqb-true, eq-eqb))),
      (λ t. absurd (omega (arith, ints, eqb-true, eq-eqb, exact_only _ _ _ _ c.requires whole low high c.args.y t))),
    )
