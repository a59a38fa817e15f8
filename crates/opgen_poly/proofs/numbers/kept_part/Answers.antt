use Rattle.std.proofs.Common.{◌≡◌, ◌^◌, ◌∙◌, ap, FitsSigned, rules, arith}
use Rattle.std.specs.Prelude.{pos, ◌+ℤ◌, ◌*ℤ◌}
use Rattle.std.specs.Int.{w128}
use Rattle.std.proofs.lemmas.Int.{ints, to_z-of_z}
use Rattle.opgen_poly.specs.Recipe.{coefficient_at}
use Rattle.opgen_poly.proofs.numbers.kept_part.Goals as goal

pub returns-clause-value : goal.returns-clause-value
returns-clause-value c =
    let p = c.args.poly.now in
    let fits_half : FitsSigned w128 c.signed_power-half.result = search rules in
    let fits_guarded : FitsSigned w128 c.guarded.result = search rules in
    let fits_coefficient : FitsSigned w128 c.shifted-coefficient.result = search rules in
    let fits_rounding : FitsSigned w128 c.rounding.result = search rules in
    let fits_sum : FitsSigned w128 (c.signed_power-half.result +ℤ c.shifted-coefficient.result) =
    omega (arith, ints, c.signed_power-half.ensures.some, c.signed_power-half.ensures.few, c.shifted-coefficient.ensures.small) in
    let fits_all : FitsSigned w128 ((c.signed_power-half.result +ℤ c.shifted-coefficient.result) +ℤ c.rounding.result) =
    omega (
      arith,
      ints,
      c.signed_power-half.ensures.some,
      c.signed_power-half.ensures.few,
      c.shifted-coefficient.ensures.small,
      c.rounding.ensures.some,
      c.rounding.ensures.few,
    ) in
    let value : c.shifted-coefficient.result ≡ c.guarded.result *ℤ pos (2 ^ p.input.width) = simp to_z-of_z at c.shifted-coefficient.ensures.value in
    let coefficient : c.shifted-coefficient.result ≡ coefficient_at p c.args.place *ℤ pos (2 ^ p.input.width) =
    value ∙ ap (λ z. z *ℤ pos (2 ^ p.input.width)) c.guarded.ensures.value in
    simp to_z-of_z (omega (arith, ints, c.signed_power-half.ensures.value, coefficient, c.rounding.ensures.value))
