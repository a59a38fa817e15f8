use Rattle.std.proofs.Common.{subst, sym, arith, ◌≡◌}
use borrow.Author.Tests.{eqb-true, eq-eqb}
use Rattle.std.proofs.lemmas.Int.{ints, to_z-of_z}
use Rattle.opgen_num.specs.Floors.{IsFloor}
use Rattle.opgen_num.proofs.Floors.{one_floor}
use Rattle.opgen_num.proofs.Rounded.{quotient_is_floor}
use Rattle.opgen_num.proofs.rounding.is_floor.Goals as goal

pub returns : goal.returns
returns c =
    let n = c.ranges.n in
    let m = c.ranges.m in
    let whole = simp to_z-of_z at c.quotient-quotient.ensures.whole in
    let low = c.quotient-quotient.ensures.low in
    let high = simp to_z-of_z at c.quotient-quotient.ensures.high in
    let floor = quotient_is_floor _ _ _ _ c.requires whole low high in (
      (λ t.
          let same : c.args.y ≡ c.quotient-quotient.result.0 = omega (arith, ints, eqb-true, eq-eqb) in
          subst (λ z. IsFloor c.args.n c.args.m z) (sym same) floor),
      (λ t. omega (arith, ints, eqb-true, eq-eqb, one_floor c.args.m c.requires c.args.n c.args.y _ t floor)),
    )
