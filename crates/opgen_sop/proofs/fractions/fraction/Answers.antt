use Rattle.std.proofs.Common.{◌≡◌, ℕ, zero, suc, ◌*◌, ◌^◌, ◌<◌, ◌≤◌, unsigned_abs, ap, ◌∙◌, arith}
use Rattle.std.specs.Prelude.{ℤ, pos, negsuc, ◌≤ℤ◌, ◌<ℤ◌, ◌*ℤ◌}
use Rattle.std.specs.Int.{w32, w64, w128}
use Rattle.std.proofs.lemmas.Int.{ints, to_z-of_z}
use Rattle.std.proofs.lemmas.Nat.{mul-le, pow_pos}
use Rattle.opgen_num.proofs.BitLength.{power_order}
use Rattle.opgen_ports.specs.Reaches.{places_up, places_down}
use Rattle.opgen_ports.proofs.Bounds.{few_up}
use Rattle.opgen_sop.proofs.Sizes.{down-few}
use Rattle.opgen_sop.proofs.fractions.fraction.Goals as goal

small : (n p : ℕ) (k : ℕ) → n ≤ 2 ^ 30 → p ≤ 75 → k ≡ p → n * 2 ^ k ≤ 2 ^ 126
small n p k h l e =
    let power : 2 ^ p ≤ 2 ^ 75 = power_order p 75 l in
    let most = mul-le n (2 ^ p) (2 ^ 30) (2 ^ 75) h power in
    omega (arith, most, ap (λ i. n * 2 ^ i) e)

den-small : (d : ℤ) → pos 1 ≤ℤ d → d ≤ℤ pos (2 ^ 30) → unsigned_abs d ≤ 2 ^ 30
den-small (pos n) h l = omega (arith, ints, l)
den-small (negsuc n) h l = absurd (omega (arith, ints, h))

positive-times : (d : ℤ) (u : ℕ) → pos 1 ≤ℤ d → 0 < u → pos 0 <ℤ (d *ℤ pos u)
positive-times (pos zero) u h l = absurd (omega (arith, ints, h))
positive-times (pos (suc n)) (suc u) h l = omega (arith, ints)
positive-times (pos (suc n)) zero h l = absurd (omega (arith, l))
positive-times (negsuc n) u h l = absurd (omega (arith, ints, h))

pub raised-requires-clause-small : goal.raised-requires-clause-small
raised-requires-clause-small c =
    let number = to_z-of_z w128 c.into.result (record { sfits = c.into.type_inv }) ∙ c.into.ensures ∙ to_z-of_z w64 c.args.number c.ranges.number in
    let shift = to_z-of_z w32 c.args.shift c.ranges.shift in
    let few = few_up 75 c.args.shift c.requires.high in
    rw number (small (unsigned_abs c.args.number) (places_up c.args.shift) c.places_up.result c.requires.number few
    (c.places_up.ensures ∙ ap places_up shift))

pub raised-requires-2-clause-small : goal.raised-requires-2-clause-small
raised-requires-2-clause-small c =
    let number = to_z-of_z w128 c.into-2.result (record { sfits = c.into-2.type_inv }) ∙ c.into-2.ensures ∙ to_z-of_z w64 c.args.den c.ranges.den in
    let shift = to_z-of_z w32 c.args.shift c.ranges.shift in
    let few = down-few c.args.shift 64 c.requires.low in
    rw number (small (unsigned_abs c.args.den) (places_down c.args.shift) c.places_down.result
    (den-small c.args.den c.requires.positive c.requires.small) (omega (arith, few))
    (c.places_down.ensures ∙ ap places_down shift))

pub returns-clause-positive : goal.returns-clause-positive
returns-clause-positive c =
    let number = to_z-of_z w128 c.into-2.result (record { sfits = c.into-2.type_inv }) ∙ c.into-2.ensures ∙ to_z-of_z w64 c.args.den c.ranges.den in
    let value = to_z-of_z w128 c.raised-2.result (record { sfits = c.raised-2.type_inv }) ∙ c.raised-2.ensures.value in
    rw (value, number) (positive-times c.args.den (2 ^ c.places_down.result) c.requires.positive (pow_pos c.places_down.result))
