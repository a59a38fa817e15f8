use Rattle.std.proofs.Common.{◌≡◌, FitsSigned, to_z, ◌^◌, ◌∙◌, ap, arith, refl}
use Rattle.std.specs.Prelude.{pos, ◌*ℤ◌}
use Rattle.std.specs.Int.{w128}
use Rattle.std.proofs.lemmas.Int.{ints, to_z_pos, to_z-of_z}
use Rattle.opgen_num.proofs.BitLength.{power_order}
use Rattle.opgen_ports.proofs.Magnitudes.{unsigned_abs-product, fits_small}
use Rattle.opgen_ports.proofs.shifts.raised.Goals as goal

pub overflow_cast-result : goal.overflow_cast-result
overflow_cast-result c = omega (arith, ints, c.power.ensures.value, power_order c.args.places 96 c.requires.few)

pub overflow_mul-result : goal.overflow_mul-result
overflow_mul-result c =
    let n = c.ranges.n in
    let power : to_z w128 c.power.result ≡ pos (2 ^ c.args.places) = to_z_pos w128 _ (omega (
      arith,
      c.power.ensures.value,
      power_order c.args.places 96 c.requires.few,
    )) ∙ ap pos c.power.ensures.value in
    rw power (simp to_z-of_z (fits_small _ (omega (arith, unsigned_abs-product c.args.n (pos (2 ^ c.args.places)), c.requires.small))))

pub returns : goal.returns
returns c =
    let n = c.ranges.n in
    let power : to_z w128 c.power.result ≡ pos (2 ^ c.args.places) = to_z_pos w128 _ (omega (
      arith,
      c.power.ensures.value,
      power_order c.args.places 96 c.requires.few,
    )) ∙ ap pos c.power.ensures.value in
    let fits : FitsSigned w128 (c.args.n *ℤ pos (2 ^ c.args.places)) = fits_small _
    (omega (arith, unsigned_abs-product c.args.n (pos (2 ^ c.args.places)), c.requires.small)) in
    record { value = rw power (simp to_z-of_z refl) }
