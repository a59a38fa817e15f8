use Rattle.std.proofs.Common.{◌≡◌, FitsSigned, drop, rules, arith}
use Rattle.std.specs.Int.{w128}
use Rattle.std.proofs.lemmas.Int.{to_z-of_z}
use Rattle.opgen_kinds.specs.Horner.{partial_width, all_guarded}
use Rattle.opgen_kinds.proofs.of_kind.Results.{partial_bits}
use Rattle.opgen_kinds.proofs.poly.Poly.partial_width.Goals as goal

pub returns-clause-few : goal.returns-clause-few
returns-clause-few c =
    let p = c.args.self.now in
    let fits_low : FitsSigned w128 c.ends-ends.result.low = search rules in
    let fits_high : FitsSigned w128 c.ends-ends.result.high = search rules in
    let fits_min : FitsSigned w128 c.min.result = search rules in
    let min = simp to_z-of_z at c.min.ensures.value in
    let width : c.least_width.result ≡ partial_width (drop c.args.place (all_guarded p)) =
    rw (c.ends-ends.ensures.low, c.ends-ends.ensures.high) at rw min at simp to_z-of_z at c.least_width.ensures.value in
    omega (arith, width, (partial_bits p c.args.place c.requires.poly).1)
