use Rattle.std.proofs.Common.{◌≡◌, ◌≤◌, ◌*◌, ◌^◌, ◌∙◌, ap, FitsSigned, to_z, refl, rules, arith}
use Rattle.std.specs.Prelude.{pos, ◌*ℤ◌}
use Rattle.std.specs.Int.{w128}
use Rattle.std.proofs.lemmas.Int.{to_z_pos, to_z-of_z}
use Rattle.opgen_ports.proofs.Magnitudes.{product_within, fits_small}
use Rattle.opgen_kinds.proofs.poly.poly_term.Goals as goal

pub overflow_mul-result-2 : goal.overflow_mul-result-2
overflow_mul-result-2 c =
    let coef = c.ranges.coef in
    let whole = c.args.factor * 2 ^ c.args.places in
    let fits_from : FitsSigned w128 c.from.result = search rules in
    let from : c.from.result ≡ c.args.coef = simp to_z-of_z at c.from.ensures in
    let small : c.args.factor * c.power.result ≤ 2 ^ 64 = rw c.power.ensures.value c.requires.small in
    let factor : to_z w128 (c.args.factor * c.power.result) ≡ pos whole =
    to_z_pos w128 _ (omega (arith, small)) ∙ ap (λ k. pos (c.args.factor * k)) c.power.ensures.value in
    let few = product_within c.args.coef (pos whole) 30 64 c.requires.coef c.requires.small in
    rw factor (simp to_z-of_z (rw from (fits_small _ (omega (arith, few)))))

pub returns-clause-value : goal.returns-clause-value
returns-clause-value c =
    let coef = c.ranges.coef in
    let whole = c.args.factor * 2 ^ c.args.places in
    let fits_from : FitsSigned w128 c.from.result = search rules in
    let from : c.from.result ≡ c.args.coef = simp to_z-of_z at c.from.ensures in
    let small : c.args.factor * c.power.result ≤ 2 ^ 64 = rw c.power.ensures.value c.requires.small in
    let factor : to_z w128 (c.args.factor * c.power.result) ≡ pos whole =
    to_z_pos w128 _ (omega (arith, small)) ∙ ap (λ k. pos (c.args.factor * k)) c.power.ensures.value in
    let few = product_within c.args.coef (pos whole) 30 64 c.requires.coef c.requires.small in
    let fits : FitsSigned w128 (c.args.coef *ℤ pos whole) = fits_small _ (omega (arith, few)) in
    rw factor (simp to_z-of_z (rw from (simp to_z-of_z refl)))

pub returns-clause-bound : goal.returns-clause-bound
returns-clause-bound c =
    rw (returns-clause-value c) (product_within c.args.coef (pos (c.args.factor * 2 ^ c.args.places)) 30 64 c.requires.coef c.requires.small)
