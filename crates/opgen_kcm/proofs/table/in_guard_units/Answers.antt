use Rattle.std.proofs.Common.{◌≡◌, ◌∙◌, ◌^◌, ◌<◌, to_z, ap, rules, arith}
use Rattle.std.specs.Int.{w128}
use Rattle.std.specs.Prelude.{pos}
use Rattle.std.proofs.lemmas.Int.{ints, to_z_pos}
use Rattle.std.proofs.lemmas.Nat.{pow_below}
use Rattle.opgen_kcm.proofs.table.in_guard_units.Goals as goal

pub overflow_cast-power : goal.overflow_cast-power
overflow_cast-power c =
    let small : 2 ^ c.args.guard < 2 ^ 127 = pow_below c.args.guard 127 (omega (arith, c.requires.guard)) in
    omega (arith, ints, c.power.ensures.value, small)

pub returns : goal.returns
returns c =
    let small : 2 ^ c.args.guard < 2 ^ 127 = pow_below c.args.guard 127 (omega (arith, c.requires.guard)) in
    let weight : to_z w128 c.power.result ≡ pos (2 ^ c.args.guard) =
    ap (to_z w128) c.power.ensures.value ∙ to_z_pos w128 (2 ^ c.args.guard) small in
    search rules
