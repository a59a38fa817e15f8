use Rattle.std.proofs.Common.{◌+◌, ◌^◌, unsigned_abs, arith}
use Rattle.std.specs.Int.{w128}
use Rattle.std.proofs.lemmas.Int.{to_z-of_z}
use Rattle.std.proofs.lemmas.Nat.{pow_pos}
use Rattle.opgen_kcm.proofs.Bounds.{small-fits, digit-below, multiple-small, factor-small}
use Rattle.opgen_kcm.proofs.table.entry.Goals as goal

pub times-requires : goal.times-requires
times-requires c =
    rw (
      to_z-of_z w128 c.args.digit c.ranges.digit,
      to_z-of_z w128 c.signed_power.result (record { sfits = c.signed_power.type_inv }),
      c.signed_power.ensures.value,
    ) (digit-below (unsigned_abs c.args.digit) c.args.chunk.low c.args.chunk.width c.requires.digit c.requires.chunk)

pub times-requires-2 : goal.times-requires-2
times-requires-2 c =
    let k = c.args.chunk in
    let small = factor-small (unsigned_abs c.args.q.num) (unsigned_abs c.args.q.den) (2 ^ (k.low + k.width + 1)) (2 ^ 126)
    (pow_pos (k.low + k.width + 1)) c.requires.room in
    let most = multiple-small (unsigned_abs c.args.digit) k.low k.width (unsigned_abs c.args.q.num) (unsigned_abs c.args.q.den)
    (2 ^ 126) c.requires.digit c.requires.room in
    rw (
      to_z-of_z w128 c.times.result (record { sfits = c.times.type_inv }),
      to_z-of_z w128 c.args.q.num (small-fits c.args.q.num small.0),
      c.times.ensures.size,
      to_z-of_z w128 c.args.digit c.ranges.digit,
      to_z-of_z w128 c.signed_power.result (record { sfits = c.signed_power.type_inv }),
      c.signed_power.ensures.value,
    ) (omega (arith, most))

pub nearest-requires-clause-small : goal.nearest-requires-clause-small
nearest-requires-clause-small c =
    let k = c.args.chunk in
    let small = factor-small (unsigned_abs c.args.q.num) (unsigned_abs c.args.q.den) (2 ^ (k.low + k.width + 1)) (2 ^ 126)
    (pow_pos (k.low + k.width + 1)) c.requires.room in
    let most = multiple-small (unsigned_abs c.args.digit) k.low k.width (unsigned_abs c.args.q.num) (unsigned_abs c.args.q.den)
    (2 ^ 126) c.requires.digit c.requires.room in
    rw (
      to_z-of_z w128 c.times-2.result (record { sfits = c.times-2.type_inv }),
      to_z-of_z w128 c.args.q.den (small-fits c.args.q.den small.1),
      c.times-2.ensures.size,
      to_z-of_z w128 c.times.result (record { sfits = c.times.type_inv }),
      to_z-of_z w128 c.args.q.num (small-fits c.args.q.num small.0),
      c.times.ensures.size,
      to_z-of_z w128 c.args.digit c.ranges.digit,
      to_z-of_z w128 c.signed_power.result (record { sfits = c.signed_power.type_inv }),
      c.signed_power.ensures.value,
    ) most
