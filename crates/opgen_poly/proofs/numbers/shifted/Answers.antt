use Rattle.std.proofs.Common.{◌≤◌, ◌^◌, FitsSigned, rules, refl, sym, subst, arith}
use Rattle.std.specs.Prelude.{pos, ◌*ℤ◌, unsigned_abs}
use Rattle.std.specs.Int.{w128}
use Rattle.std.proofs.lemmas.Int.{ints, to_z-of_z}
use Rattle.opgen_poly.proofs.Sizes.{product_small}
use Rattle.opgen_poly.proofs.numbers.shifted.Goals as goal

pub overflow_mul-result : goal.overflow_mul-result
overflow_mul-result c =
    let fits_power : FitsSigned w128 c.signed_power.result = search rules in
    let fits_coefficient : FitsSigned w128 c.args.coefficient = omega (arith, ints, c.requires.coefficient) in
    let top = product_small c.args.coefficient c.args.width c.requires.coefficient c.requires.width in
    let fits : FitsSigned w128 (c.args.coefficient *ℤ pos (2 ^ c.args.width)) = omega (arith, ints, top) in
    simp to_z-of_z (rw c.signed_power.ensures.value fits)

pub returns-clause-value : goal.returns-clause-value
returns-clause-value c =
    let fits_power : FitsSigned w128 c.signed_power.result = search rules in
    let fits_coefficient : FitsSigned w128 c.args.coefficient = omega (arith, ints, c.requires.coefficient) in
    let top = product_small c.args.coefficient c.args.width c.requires.coefficient c.requires.width in
    let fits : FitsSigned w128 (c.args.coefficient *ℤ pos (2 ^ c.args.width)) = omega (arith, ints, top) in
    simp to_z-of_z (rw c.signed_power.ensures.value (simp to_z-of_z refl))

pub returns-clause-small : goal.returns-clause-small
returns-clause-small c =
    let top = product_small c.args.coefficient c.args.width c.requires.coefficient c.requires.width in
    subst (λ z. unsigned_abs z ≤ 2 ^ 66) (sym (returns-clause-value c)) top
