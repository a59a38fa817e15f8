use Rattle.std.proofs.Common.{rules, FitsSigned}
use Rattle.std.specs.Int.{w128}
use Rattle.std.proofs.lemmas.Int.{to_z-of_z}
use Rattle.opgen_num.proofs.Quotients.{quotient_and_rest}
use Rattle.opgen_num.proofs.rounding.quotient.Goals as goal

pub returns-clause-whole : goal.returns-clause-whole
returns-clause-whole c =
    let n = c.ranges.n in
    let m = c.ranges.m in
    let fits_quotient : FitsSigned w128 c.div_euclid.result = search rules in
    let fits_rest : FitsSigned w128 c.rem_euclid.result = search rules in
    let quotient = simp to_z-of_z at c.div_euclid.ensures in
    let rest = simp to_z-of_z at c.rem_euclid.ensures.value in
    simp to_z-of_z (rw (quotient, rest) (quotient_and_rest c.args.n c.args.m c.requires))
