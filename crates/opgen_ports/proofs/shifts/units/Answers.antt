use Rattle.std.proofs.Common.{◌≡◌, ◌∙◌, ◌^◌, arith}
use Rattle.std.specs.Prelude.{unsigned_abs}
use Rattle.std.proofs.Math.Nat.{one-le-pow}
use Rattle.std.proofs.lemmas.Int.{to_z-of_z}
use Rattle.opgen_num.proofs.BitLength.{power_order}
use Rattle.opgen_ports.specs.Reaches.{places_down}
use Rattle.opgen_ports.proofs.Bounds.{products, some_product, some_units, few_units}
use Rattle.opgen_ports.proofs.shifts.units.Goals as goal

pub overflow_mul-result : goal.overflow_mul-result
overflow_mul-result c =
    let den : c.from.result ≡ unsigned_abs c.args.den = c.from.ensures ∙ simp (to_z-of_z, c.ranges.den) at c.unsigned_abs.ensures.value in
    let few = few_units (2 ^ 30) c.args.den c.requires.positive c.requires.small in
    let all = products (unsigned_abs c.args.den) (2 ^ places_down c.args.shift) 30 64 few
    (power_order (places_down c.args.shift) 64 c.requires.few) in
    rw (den, c.power.ensures.value, c.places_down.ensures) (simp (to_z-of_z, c.ranges.shift) (omega (arith, all)))

pub returns-clause-positive : goal.returns-clause-positive
returns-clause-positive c =
    let den : c.from.result ≡ unsigned_abs c.args.den = c.from.ensures ∙ simp (to_z-of_z, c.ranges.den) at c.unsigned_abs.ensures.value in
    rw (den, c.power.ensures.value)
    (some_product (unsigned_abs c.args.den) (2 ^ c.places_down.result) (some_units c.args.den c.requires.positive)
    (one-le-pow c.places_down.result 2 (omega arith)))
