use Rattle.std.proofs.Common.{◌≡◌, ◌*◌, ◌%◌, ◌^◌, ◌≤◌, pos, to_z, ap, ◌∙◌, arith}
use Rattle.std.specs.Int.{w128, int_rem_euclid}
use Rattle.std.specs.Int.RustNames.{unsigned_abs}
use Rattle.std.proofs.lemmas.Int.{of_z-to_z, to_z-of_z, to_z_pos}
use Rattle.std.proofs.Math.Nat.{pow-le-pow_right}
use Rattle.opgen_num.specs.declared.format.TheConstants.{MAX_WIDTH}
use Rattle.opgen_heap.proofs.heap.modulo.Goals as goal

pub rem_euclid-requires-clause-no_overflow : goal.rem_euclid-requires-clause-no_overflow
rem_euclid-requires-clause-no_overflow c all _ =
    let most : 2 ^ c.args.width ≤ 2 ^ MAX_WIDTH = pow-le-pow_right {n = 2} (omega arith) {i = c.args.width} {j = MAX_WIDTH} c.requires in
    omega (arith, most, all, of_z-to_z w128 (1 * 2 ^ c.args.width % 340282366920938463463374607431768211456) (omega arith))

pub returns-clause-value : goal.returns-clause-value
returns-clause-value c =
    let m = 2 ^ c.args.width in
    let most : 2 ^ c.args.width ≤ 2 ^ MAX_WIDTH = pow-le-pow_right {n = 2} (omega arith) {i = c.args.width} {j = MAX_WIDTH} c.requires in
    let w : 1 * 2 ^ c.args.width % 340282366920938463463374607431768211456 ≡ 2 ^ c.args.width = omega (arith, most) in
    let divisor : to_z w128 (1 * 2 ^ c.args.width % 340282366920938463463374607431768211456) ≡ pos (2 ^ c.args.width) = ap (to_z w128) w
    ∙ to_z_pos w128 (2 ^ c.args.width) (omega (arith, most)) in
    let rest : c.rem_euclid.result ≡ int_rem_euclid c.args.value (pos (2 ^ c.args.width)) =
    c.rem_euclid.ensures.value
    ∙ ap (λ z. int_rem_euclid z (to_z w128 (1 * 2 ^ c.args.width % 340282366920938463463374607431768211456)))
    (to_z-of_z w128 c.args.value c.ranges.value)
    ∙ ap (int_rem_euclid c.args.value) divisor in
    c.unsigned_abs.ensures.value ∙ ap unsigned_abs (to_z-of_z w128 c.rem_euclid.result (record { sfits = c.rem_euclid.type_inv }) ∙ rest)
