use Rattle.std.proofs.Common.{◌≡◌, ◌^◌, FitsSigned, refl, rules, arith}
use Rattle.std.specs.Prelude.{pos}
use Rattle.std.specs.Int.{w32, w128}
use Rattle.std.proofs.lemmas.Int.{ints, to_z-of_z}
use Rattle.opgen_num.specs.Formats.{range_width}
use Rattle.opgen_kinds.specs.Horner.{result_low, result_high}
use Rattle.opgen_kinds.proofs.of_kind.Results.{results_order, poly_width}
use Rattle.opgen_kinds.proofs.poly.Poly.output.Goals as goal

pub least_width-requires : goal.least_width-requires
least_width-requires c =
    let fits_low : FitsSigned w128 c.ends-ends.result.low = search rules in
    let fits_high : FitsSigned w128 c.ends-ends.result.high = search rules in
    let fits_unit : FitsSigned w128 c.raised-unit.result = search rules in
    let unit : c.raised-unit.result ≡ pos (2 ^ c.guard_bits.result) = omega (arith, ints, c.raised-unit.ensures.value) in
    let fits_first : FitsSigned w128 c.nearest-low.result = search rules in
    let fits_second : FitsSigned w128 c.nearest-high.result = search rules in
    let low = rw (c.ends-ends.ensures.low, unit, c.guard_bits.ensures.value) at simp to_z-of_z at c.nearest-low.ensures.value in
    let high = rw (c.ends-ends.ensures.high, unit, c.guard_bits.ensures.value) at simp to_z-of_z at c.nearest-high.ensures.value in
    simp to_z-of_z (rw (low, high) (results_order c.args.self.now))

pub returns-clause-few : goal.returns-clause-few
returns-clause-few c =
    let p = c.args.self.now in
    let fits_low : FitsSigned w128 c.ends-ends.result.low = search rules in
    let fits_high : FitsSigned w128 c.ends-ends.result.high = search rules in
    let fits_unit : FitsSigned w128 c.raised-unit.result = search rules in
    let unit : c.raised-unit.result ≡ pos (2 ^ c.guard_bits.result) = omega (arith, ints, c.raised-unit.ensures.value) in
    let fits_first : FitsSigned w128 c.nearest-low.result = search rules in
    let fits_second : FitsSigned w128 c.nearest-high.result = search rules in
    let low = rw (c.ends-ends.ensures.low, unit, c.guard_bits.ensures.value) at simp to_z-of_z at c.nearest-low.ensures.value in
    let high = rw (c.ends-ends.ensures.high, unit, c.guard_bits.ensures.value) at simp to_z-of_z at c.nearest-high.ensures.value in
    let width : c.least_width.result ≡ range_width (result_low p) (result_high p) =
    rw (low, high) at simp to_z-of_z at c.least_width.ensures.value in
    omega (arith, width, (poly_width p c.requires).1)

pub returns-clause-value : goal.returns-clause-value
returns-clause-value c =
    let p = c.args.self.now in
    let fits_lsb : FitsSigned w32 p.out_lsb = omega (arith, ints, c.requires.out_lsb) in
    let fits_low : FitsSigned w128 c.ends-ends.result.low = search rules in
    let fits_high : FitsSigned w128 c.ends-ends.result.high = search rules in
    let fits_unit : FitsSigned w128 c.raised-unit.result = search rules in
    let unit : c.raised-unit.result ≡ pos (2 ^ c.guard_bits.result) = omega (arith, ints, c.raised-unit.ensures.value) in
    let fits_first : FitsSigned w128 c.nearest-low.result = search rules in
    let fits_second : FitsSigned w128 c.nearest-high.result = search rules in
    let low : c.nearest-low.result ≡ result_low p =
    rw (c.ends-ends.ensures.low, unit, c.guard_bits.ensures.value) at simp to_z-of_z at c.nearest-low.ensures.value in
    let high : c.nearest-high.result ≡ result_high p =
    rw (c.ends-ends.ensures.high, unit, c.guard_bits.ensures.value) at simp to_z-of_z at c.nearest-high.ensures.value in
    let width : c.least_width.result ≡ range_width (result_low p) (result_high p) =
    rw (low, high) at simp to_z-of_z at c.least_width.ensures.value in
    simp to_z-of_z (rw (width, low) refl)
