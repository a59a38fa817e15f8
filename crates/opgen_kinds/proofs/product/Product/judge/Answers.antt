use Rattle.std.proofs.Common.{FitsSigned, refl, rules, arith}
use Rattle.std.specs.Int.{w128}
use Rattle.std.proofs.lemmas.Int.{to_z-of_z}
use Rattle.opgen_kinds.specs.Product.{product_need, product_meaning, product_acceptance}
use Rattle.opgen_kinds.proofs.of_kind.Product.{product_lawful}
use Rattle.opgen_ports.proofs.Accepted.{accepted_ranges, accepted_shift, accepted_width}
use Rattle.opgen_ports.proofs.Cycles.{only_word}
use Rattle.opgen_kinds.proofs.product.Product.judge.Goals as goal

pub bounds-outputs-0 : goal.bounds-outputs-0
bounds-outputs-0 c = (only_word _ c.args.outputs.now c.requires.outputs).0

pub product_is_good-requires-clause-product : goal.product_is_good-requires-clause-product
product_is_good-requires-clause-product c = accepted_ranges (product_meaning c.args.self.now) (product_acceptance c.args.self.now) c.requires.accepted

pub product_is_good-requires-clause-low : goal.product_is_good-requires-clause-low
product_is_good-requires-clause-low c = (accepted_shift (product_meaning c.args.self.now) (product_acceptance c.args.self.now) (product_lawful c.args.self.now) c.requires.accepted).0

pub product_is_good-requires-clause-high : goal.product_is_good-requires-clause-high
product_is_good-requires-clause-high c = (accepted_shift (product_meaning c.args.self.now) (product_acceptance c.args.self.now) (product_lawful c.args.self.now) c.requires.accepted).1

pub product_is_good-requires-clause-narrow : goal.product_is_good-requires-clause-narrow
product_is_good-requires-clause-narrow c =
    let p = c.args.self.now in
    omega (arith, accepted_width (product_meaning p) (product_acceptance p) (product_need p) c.requires.accepted refl)

pub product_is_good-requires-clause-a : goal.product_is_good-requires-clause-a
product_is_good-requires-clause-a c =
    let fits_a : FitsSigned w128 c.last_two-a.result.0 = search rules in
    simp to_z-of_z c.last_two-a.ensures.first_of

pub product_is_good-requires-clause-b : goal.product_is_good-requires-clause-b
product_is_good-requires-clause-b c =
    let fits_b : FitsSigned w128 c.last_two-a.result.1 = search rules in
    simp to_z-of_z c.last_two-a.ensures.second_of

pub product_is_good-requires-clause-y : goal.product_is_good-requires-clause-y
product_is_good-requires-clause-y c = (only_word _ c.args.outputs.now c.requires.outputs).1

pub returns : goal.returns
returns c =
    let fits_a : FitsSigned w128 c.last_two-a.result.0 = search rules in
    let fits_b : FitsSigned w128 c.last_two-a.result.1 = search rules in
    let good = rw (c.last_two-a.ensures.first, c.last_two-a.ensures.second) at simp to_z-of_z at c.product_is_good.ensures in
    record { in_range = λ _. good; out_of_range = λ out. absurd (out tt) }
