use Rattle.std.proofs.Common.{◌≤◌, arith}
use Rattle.std.proofs.lemmas.Int.{ints, to_z-of_z}
use Rattle.opgen_num.proofs.RangeWidth.{range_width-least, least_width-unique}
use Rattle.opgen_num.proofs.Widths.{unsigned_width, signed_width}
use Rattle.opgen_num.proofs.format.least_width.Goals as goal

pub overflow_add-bit_length : goal.overflow_add-bit_length
overflow_add-bit_length c =
    let few : c.bit_length.result ≤ 128 = c.bit_length.ensures.least 128 c.magnitude.type_inv in
    omega arith

pub returns-then-lo-lt0-clause-least : goal.returns-then-lo-lt0-clause-least
returns-then-lo-lt0-clause-least c =
    let lo = c.ranges.lo in
    let hi = c.ranges.hi in
    let low = simp to_z-of_z at c.magnitude.ensures.low in
    let high = simp to_z-of_z at c.magnitude.ensures.high in
    let least = simp to_z-of_z at c.magnitude.ensures.least in
    let negative = simp to_z-of_z at c.if-lo-lt0.true in
    rw c.max.ensures (signed_width c.args.lo c.args.hi c.magnitude.result c.bit_length.result c.requires
    (grind (arith, ints)) low high least c.bit_length.ensures.holds c.bit_length.ensures.least)

pub returns-else-lo-lt0-clause-least : goal.returns-else-lo-lt0-clause-least
returns-else-lo-lt0-clause-least c =
    let lo = c.ranges.lo in
    let hi = c.ranges.hi in
    let value = simp to_z-of_z at c.unsigned_abs.ensures.value in
    let negative = simp to_z-of_z at c.if-lo-lt0.false in
    rw c.max-else-lo-lt0.ensures (unsigned_width c.args.lo c.args.hi c.bit_length-else-lo-lt0.result (grind (arith, ints)) c.requires
    (rw value at c.bit_length-else-lo-lt0.ensures.holds) (rw value at c.bit_length-else-lo-lt0.ensures.least))

pub returns-then-lo-lt0-clause-value : goal.returns-then-lo-lt0-clause-value
returns-then-lo-lt0-clause-value c = least_width-unique c.args.lo c.args.hi _ _ (returns-then-lo-lt0-clause-least c)
    (range_width-least c.args.lo c.args.hi c.requires)

pub returns-else-lo-lt0-clause-value : goal.returns-else-lo-lt0-clause-value
returns-else-lo-lt0-clause-value c = least_width-unique c.args.lo c.args.hi _ _ (returns-else-lo-lt0-clause-least c)
    (range_width-least c.args.lo c.args.hi c.requires)
