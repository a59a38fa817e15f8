use Rattle.std.proofs.Common.{◌≡◌, ◌^◌, arith, FitsSigned, rules}
use Rattle.std.specs.Int.{w64, w128}
use Rattle.std.specs.Prelude.{pos, ◌*ℤ◌, unsigned_abs}
use Rattle.std.proofs.lemmas.Int.{ints, to_z-of_z}
use Rattle.opgen_num.proofs.BitLength.{power_order}
use Rattle.opgen_ports.proofs.Bounds.{products, few_units}
use Rattle.opgen_ports.proofs.Roundings.{positive_units}
use Rattle.opgen_terms.proofs.Lawful.{accepted_sop}
use Rattle.opgen_terms.proofs.sop.Sop.value.Goals as goal

pub raised-requires-clause-small : goal.raised-requires-clause-small
raised-requires-clause-small c =
    let s = c.args.self.now in
    let is = accepted_sop s c.requires.accepted in
    let fits_den : FitsSigned w64 s.den = omega (arith, ints, is.numbers.positive, is.numbers.small) in
    let fits_from : FitsSigned w128 c.from.result = search rules in
    let den : c.from.result ≡ s.den = simp to_z-of_z at c.from.ensures in
    let all = products (unsigned_abs s.den) (2 ^ c.depth-depth.result) 30 48 (few_units (2 ^ 30) s.den is.numbers.positive is.numbers.small)
    (power_order c.depth-depth.result 48 c.depth-depth.ensures.bound) in
    simp to_z-of_z (rw den (omega (arith, all)))

pub returns-clause-positive : goal.returns-clause-positive
returns-clause-positive c =
    let s = c.args.self.now in
    let is = accepted_sop s c.requires.accepted in
    let fits_den : FitsSigned w64 s.den = omega (arith, ints, is.numbers.positive, is.numbers.small) in
    let fits_from : FitsSigned w128 c.from.result = search rules in
    let fits_raised : FitsSigned w128 c.raised.result = search rules in
    let den : c.from.result ≡ s.den = simp to_z-of_z at c.from.ensures in
    let units : c.raised.result ≡ s.den *ℤ pos (2 ^ c.depth-depth.result) = rw den at simp to_z-of_z at c.raised.ensures.value in
    simp to_z-of_z (rw units (positive_units s.den c.depth-depth.result is.numbers.positive))
