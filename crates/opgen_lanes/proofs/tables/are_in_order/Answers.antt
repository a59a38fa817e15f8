use Rattle.std.proofs.Common.{arith}
use Rattle.opgen_lanes.proofs.TableWords.{one-more-row}
use Rattle.opgen_lanes.proofs.tables.are_in_order.Goals as goal

pub loop-place-preserved : goal.loop-place-preserved
loop-place-preserved c = one-more-row c.args.rows.now c.loop-place.place c.index-rows-place.result c.loop-place-test.true c.loop-place.invariant
    (omega (arith, c.bits.ensures, c.if-bits-place.false))
