use Rattle.std.proofs.Common.{◌≡◌, ◌≤◌, ◌^◌, ◌∙◌, ap, refl, FitsSigned, rules, arith}
use Rattle.std.specs.Int.{w64, w128}
use Rattle.std.specs.Prelude.{◌*ℤ◌, unsigned_abs}
use Rattle.std.proofs.lemmas.Int.{ints, to_z-of_z}
use Rattle.opgen_terms.specs.Sop.{last_numbers, signed_if}
use Rattle.opgen_ports.proofs.Magnitudes.{product_within, fits_small}
use Rattle.opgen_terms.proofs.terms.times_number.Goals as goal

pub overflow_mul-product : goal.overflow_mul-product
overflow_mul-product c =
    let fits_a : FitsSigned w128 c.last.result = search rules in
    let fits_b : FitsSigned w128 c.last-2.result = search rules in
    let small_a : unsigned_abs c.last.result ≤ 2 ^ 48 = c.last.ensures.bound in
    let small_b : unsigned_abs c.last-2.result ≤ 2 ^ 48 = c.last-2.ensures.bound in
    let small = product_within c.last.result c.last-2.result 48 48 small_a small_b in
    simp to_z-of_z (fits_small _ (omega (arith, small)))

pub signed-requires : goal.signed-requires
signed-requires c =
    let fits_a : FitsSigned w128 c.last.result = search rules in
    let fits_b : FitsSigned w128 c.last-2.result = search rules in
    let small_a : unsigned_abs c.last.result ≤ 2 ^ 48 = c.last.ensures.bound in
    let small_b : unsigned_abs c.last-2.result ≤ 2 ^ 48 = c.last-2.ensures.bound in
    let small = product_within c.last.result c.last-2.result 48 48 small_a small_b in
    let fits : FitsSigned w128 (c.last.result *ℤ c.last-2.result) = fits_small _ (omega (arith, small)) in
    simp to_z-of_z small

pub returns : goal.returns
returns c =
    let s = c.args.sop.now in
    let t = c.args.times in
    let x = last_numbers s c.args.history.now in
    let fits_a : FitsSigned w128 c.last.result = search rules in
    let fits_b : FitsSigned w128 c.last-2.result = search rules in
    let small_a : unsigned_abs c.last.result ≤ 2 ^ 48 = c.last.ensures.bound in
    let small_b : unsigned_abs c.last-2.result ≤ 2 ^ 48 = c.last-2.ensures.bound in
    let small = product_within c.last.result c.last-2.result 48 48 small_a small_b in
    let fits : FitsSigned w128 (c.last.result *ℤ c.last-2.result) = fits_small _ (omega (arith, small)) in
    let fits_den : FitsSigned w64 s.den = omega (arith, ints, c.requires.sop.numbers.positive, c.requires.sop.numbers.small) in
    let fits_signed : FitsSigned w128 c.signed.result = search rules in
    let fits_over : FitsSigned w128 c.over.result = search rules in
    let a : c.last.result ≡ x t.a = c.last.ensures.value in
    let b : c.last-2.result ≡ x t.b = c.last-2.ensures.value in
    let number : c.signed.result ≡ signed_if t.negative (c.last.result *ℤ c.last-2.result) = simp to_z-of_z at c.signed.ensures.value in
    let over : c.over.result ≡ s.den *ℤ c.signed.result = simp to_z-of_z at c.over.ensures in
    simp to_z-of_z (over ∙ ap (λ n. s.den *ℤ n) (number ∙ rw (a, b) refl))
