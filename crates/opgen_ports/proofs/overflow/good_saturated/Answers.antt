use Rattle.std.proofs.Common.{◌≡◌, FitsSigned, arith, rules, sym, subst}
use Rattle.std.specs.Int.{w128, int_div_euclid}
use Rattle.std.specs.Prelude.{◌<ℤ◌, ◌≤ℤ◌, IsTrue, ◌↔◌}
use Rattle.std.proofs.lemmas.Int.{ints, to_z-of_z}
use borrow.Author.Tests.{eqb-true, eq-eqb}
use Rattle.opgen_num.proofs.Rounded.{floor_is}
use Rattle.opgen_num.specs.Floors.{IsFloor}
use Rattle.opgen_num.specs.Rounding.{IsGoodLinear}
use Rattle.opgen_ports.proofs.Clamped.{in_order, good_below, good_above, into_range_within}
use Rattle.opgen_ports.specs.Good.{least_of, greatest_of}
use Rattle.opgen_ports.proofs.overflow.good_saturated.Goals as goal

pub returns-then-whole-low : goal.returns-then-whole-low
returns-then-whole-low c =
    let fits_num : FitsSigned w128 c.args.value.num = search rules in
    let fits_den : FitsSigned w128 c.args.value.den = search rules in
    let fits_whole : FitsSigned w128 c.div_euclid-whole.result = search rules in
    let fits_low : FitsSigned w128 c.least_of-low.result = search rules in
    let fits_y : FitsSigned w128 c.args.y = search rules in
    let m = c.args.value.den in
    let q = c.div_euclid-whole.result in
    let whole : q ≡ int_div_euclid c.args.value.num m = simp to_z-of_z at c.div_euclid-whole.ensures in
    let floor : IsFloor c.args.value.num m q = subst (λ k. IsFloor c.args.value.num m k) (sym whole) (floor_is c.args.value.num m c.requires.den) in
    let less : q <ℤ least_of c.args.to = omega (arith, ints, c.least_of-low.ensures, c.if-whole-low.true) in
    let (only, good) = good_below m (least_of c.args.to) (greatest_of c.args.to) c.args.value.num q
    c.requires.den (in_order c.args.to.signed c.args.to.width) floor c.args.mode c.args.y less in
    (λ t. good (omega (arith, ints, eqb-true, eq-eqb, t, c.least_of-low.ensures)), λ g. omega (arith, ints, eqb-true, eq-eqb, only g, c.least_of-low.ensures))

pub returns-then-whole-high : goal.returns-then-whole-high
returns-then-whole-high c =
    let fits_num : FitsSigned w128 c.args.value.num = search rules in
    let fits_den : FitsSigned w128 c.args.value.den = search rules in
    let fits_whole : FitsSigned w128 c.div_euclid-whole.result = search rules in
    let fits_high : FitsSigned w128 c.greatest_of-high.result = search rules in
    let fits_y : FitsSigned w128 c.args.y = search rules in
    let m = c.args.value.den in
    let q = c.div_euclid-whole.result in
    let whole : q ≡ int_div_euclid c.args.value.num m = simp to_z-of_z at c.div_euclid-whole.ensures in
    let floor : IsFloor c.args.value.num m q = subst (λ k. IsFloor c.args.value.num m k) (sym whole) (floor_is c.args.value.num m c.requires.den) in
    let above : greatest_of c.args.to ≤ℤ q = omega (arith, ints, c.greatest_of-high.ensures, c.if-whole-high.true) in
    let (only, good) = good_above m (least_of c.args.to) (greatest_of c.args.to) c.args.value.num q
    c.requires.den (in_order c.args.to.signed c.args.to.width) floor c.args.mode c.args.y above in
    (λ t. good (omega (arith, ints, eqb-true, eq-eqb, t, c.greatest_of-high.ensures)), λ g. omega (arith, ints, eqb-true, eq-eqb, only g, c.greatest_of-high.ensures))

pub returns-else-whole-high : goal.returns-else-whole-high
returns-else-whole-high c =
    let fits_num : FitsSigned w128 c.args.value.num = search rules in
    let fits_den : FitsSigned w128 c.args.value.den = search rules in
    let fits_whole : FitsSigned w128 c.div_euclid-whole.result = search rules in
    let fits_low : FitsSigned w128 c.least_of-low.result = search rules in
    let fits_high : FitsSigned w128 c.greatest_of-high.result = search rules in
    let fits_y : FitsSigned w128 c.args.y = search rules in
    let m = c.args.value.den in
    let q = c.div_euclid-whole.result in
    let whole : q ≡ int_div_euclid c.args.value.num m = simp to_z-of_z at c.div_euclid-whole.ensures in
    let floor : IsFloor c.args.value.num m q = subst (λ k. IsFloor c.args.value.num m k) (sym whole) (floor_is c.args.value.num m c.requires.den) in
    let low : least_of c.args.to ≤ℤ q = omega (arith, ints, c.least_of-low.ensures, c.if-whole-low.false) in
    let high : q <ℤ greatest_of c.args.to = omega (arith, ints, c.greatest_of-high.ensures, c.if-whole-high.false) in
    let same = into_range_within m (least_of c.args.to) (greatest_of c.args.to) c.args.value.num q
    c.requires.den (in_order c.args.to.signed c.args.to.width) floor low high in
    let good : IsTrue c.good_linear.result ↔ IsGoodLinear c.args.value.num m c.args.y c.args.mode = simp to_z-of_z at c.good_linear.ensures in
    subst (λ k. IsTrue c.good_linear.result ↔ IsGoodLinear k m c.args.y c.args.mode) (sym same) good
